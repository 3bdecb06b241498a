-- A node begins its work: where the program has no such node, and the last part alone.
use Rattle.std.proofs.Common.{◌≡◌, ℕ, suc, ◌-◌, ◌≤◌, List, [], ◌∷◌, length, Some, None, refl, sym, ap, ◌∙◌, arith}
use Rattle.std.specs.Prelude.{slice_get}
use Rattle.std.proofs.lemmas.List.{get_or_past}
use Rattle.pd_values.specs.declared.value.Value.{Value}
use Rattle.pd_values.specs.declared.value.Value.TheVariants.{Null}
use Rattle.pd_tree.specs.Program.{Program, no_node, node_at}
use Rattle.pd_machine.specs.declared.run.Pending.{Pending}
use Rattle.pd_machine.specs.declared.run.Mode.TheVariants.{Entering, Coming}
use Rattle.pd_machine.specs.declared.run.NodeResult.TheVariants.{Gives}
use Rattle.pd_machine.specs.Events.{State}
use Rattle.pd_meaning.specs.Machine.{machine, combining, last_begun, parts_begun, starting_turn}

module _ (p : Program) (n : ℕ) (past : length p.nodes ≤ n) where
  none : node_at p n ≡ no_node
  none = get_or_past p.nodes n no_node past

  pub no_part : (i : ℕ) (values : List Value) (stack : List Pending) (s : State) → parts_begun p n (node_at p n).children i values stack s ≡ machine (Coming (Gives Null)) stack s
  no_part i values stack s =
      ap (λ nd. parts_begun p n nd.children i values stack s) none ∙ ap (λ nd. combining p n nd.kind values stack s) none

  pub nothing_started : (stack : List Pending) (s : State) → starting_turn p n (node_at p n).kind (node_at p n).children stack s ≡ machine (Coming (Gives Null)) stack s
  nothing_started stack s =
      ap (λ nd. starting_turn p n nd.kind nd.children stack s) none ∙ ap (λ nd. combining p n nd.kind [] stack s) none

pub last_entered : (ms : List ℕ) (m : ℕ) (stack : List Pending) (s : State) → Some m ≡ slice_get ms (length ms - 1) → last_begun ms stack s ≡ machine (Entering m) stack s
last_entered [] m stack s h = cc
last_entered (x ∷ []) m stack s h = let e : m ≡ x = cc in ap (λ y. machine (Entering y) stack s) (sym e)
last_entered (x ∷ y ∷ ms) m stack s h =
    let e : length (x ∷ y ∷ ms) - 1 ≡ suc (length (y ∷ ms) - 1) = omega arith in
    last_entered (y ∷ ms) m stack s (h ∙ ap (slice_get (x ∷ y ∷ ms)) e)

pub none_entered : (ms : List ℕ) (stack : List Pending) (s : State) → None ≡ slice_get ms (length ms - 1) → last_begun ms stack s ≡ machine (Coming (Gives Null)) stack s
none_entered [] stack s h = refl
none_entered (x ∷ []) stack s h = cc
none_entered (x ∷ y ∷ ms) stack s h =
    let e : length (x ∷ y ∷ ms) - 1 ≡ suc (length (y ∷ ms) - 1) = omega arith in
    none_entered (y ∷ ms) stack s (h ∙ ap (slice_get (x ∷ y ∷ ms)) e)
