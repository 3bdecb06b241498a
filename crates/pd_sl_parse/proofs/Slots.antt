-- Slots: no more than parameters and assignments, and each variable's is below the number of slots.
use Rattle.std.proofs.Common.{◌≡◌, ℕ, suc, zero, ◌+◌, ◌*◌, ◌<◌, ◌≤◌, Bool, true, false, List, Option, Some, None, refl, sym, subst, ◌∙◌, arith}
use Rattle.std.specs.Prelude.{cond, if◌then◌else◌, nat_lt, nat_le, ◌&&◌}
use Rattle.std.specs.Cmp.Lexicographic.{slice_cmp, nat_list_cmp_total}
use Rattle.std.specs.FinMap as maps
use Rattle.std.specs.Ordering.{nat_cmp, eq_by_cmp}
use Rattle.pd_sections.specs.declared.Token.{Token}
use Rattle.pd_tree.specs.declared.kind.Meaning.TheVariants.{Local, Nothing}
use Rattle.pd_tree.specs.Linked.{slots_up_to}
use Rattle.pd_sl_read.specs.declared.parts.Part.{Part}
use Rattle.pd_sl_read.specs.declared.parts.Shape.{Shape}
use Rattle.pd_sl_read.specs.declared.parts.Shape.TheVariants as shapes
use Rattle.pd_sl_parse.specs.declared.scope.Variable.{Variable}
use Rattle.pd_sl_parse.specs.Scopes.{Variables, Scoped, no_scope, text_at, latest, innermost, with_variable, with_parameter, with_parameters, sooner, assigned_again, assigned_new, assigned, left, block_entered, entered_in, entered, assigned_meaning, read_meaning, meaning_in}
use Rattle.pd_sl_parse.proofs.Within.{IsShort}

-- each variable's slot is below `n`
abbrev pub AllBelow : ℕ → Variables → Type 0
AllBelow n vs = (name : List ℕ) (v : Variable) → latest name vs ≡ Some v → v.slot < n

abbrev pub SlotsFit : ℕ → Scoped → Type 0
SlotsFit n s = (s.slots ≤ n) × AllBelow s.slots s.variables

none_below : (n : ℕ) → AllBelow n maps.empty
none_below n name v e = absurd (cc (maps.get-empty {X = Variable} (slice_cmp nat_cmp) name))

inserted_below : (m n : ℕ) (vs : Variables) (name : List ℕ) (v : Variable) → m ≤ n → AllBelow m vs → v.slot < n → AllBelow n (maps.insert vs name v)
inserted_below m n vs name v le b lt other w e = go (eq_by_cmp (slice_cmp nat_cmp) other name) (sym (maps.get-insert nat_list_cmp_total vs name v other) ∙ e)
  where
    go : (t : Bool) → cond t (Some v) (maps.get vs other) ≡ Some w → w.slot < n
    go true is = let same : v ≡ w = cc in subst (λ (x : Variable). x.slot < n) same lt
    go false is = omega (arith, b other w is)

pub none_fits : (n : ℕ) → SlotsFit (n + 0) no_scope
none_fits n = (omega arith, none_below 0)

variable_fits : (n : ℕ) (name : List ℕ) (v : Variable) (s : Scoped) → v.slot ≡ s.slots → SlotsFit n s → SlotsFit (n + 1) (with_variable name v s)
variable_fits n name v s e h = (omega (arith, h.0), inserted_below s.slots (s.slots + 1) s.variables name v (omega arith) h.1 (omega arith))

grown_fits : (n : ℕ) (s : Scoped) → SlotsFit n s → SlotsFit (n + 1) s
grown_fits n s h = (omega (arith, h.0), h.1)

parameter_fits : (o : Option Variable) (name : List ℕ) (until n : ℕ) (s : Scoped) → SlotsFit n s → SlotsFit (n + 1) (with_parameter o name until s)
parameter_fits (Some v) name until n s h = grown_fits n s h
parameter_fits None name until n s h = variable_fits n name (record { slot = s.slots; from = 0; until = until }) s refl h

parameters_fit : (bytes : List ℕ) (tokens : List Token) (first until n : ℕ) → SlotsFit n (with_parameters bytes tokens first until n no_scope)
parameters_fit bytes tokens first until zero = (omega arith, none_below 0)
parameters_fit bytes tokens first until (suc n) =
    let r = with_parameters bytes tokens first until n no_scope in
    let name = text_at bytes tokens (first + 2 * n) in
    let h = parameter_fits (latest name r.variables) name until n r (parameters_fit bytes tokens first until n) in
    (omega (arith, h.0), h.1)

again_fits : (n : ℕ) (name : List ℕ) (v : Variable) (p : Part) (s : Scoped) → v.slot < s.slots → SlotsFit n s → SlotsFit n (assigned_again name v p s)
again_fits n name v p s b h = go (nat_lt p.end v.from)
  where
    go : (t : Bool) → SlotsFit n (if t then record { blocks = s.blocks; variables = maps.insert s.variables name (sooner v p.end); slots = s.slots } else s)
    go true = (h.0, inserted_below s.slots s.slots s.variables name (sooner v p.end) (omega arith) h.1 b)
    go false = h

new_fits : (n : ℕ) (name : List ℕ) (p : Part) (s : Scoped) → SlotsFit n s → SlotsFit (n + 1) (assigned_new name p s)
new_fits n name p s h = variable_fits n name (record { slot = s.slots; from = p.end; until = innermost s.blocks }) s refl h

assigned_fits : (n : ℕ) (o : Option Variable) (name : List ℕ) (p : Part) (s : Scoped) → ((v : Variable) → o ≡ Some v → v.slot < s.slots) → SlotsFit n s → SlotsFit (n + 1) (assigned o name p s)
assigned_fits n None name p s b h = new_fits n name p s h
assigned_fits n (Some v) name p s b h = go (nat_lt p.first v.until)
  where
    go : (t : Bool) → SlotsFit (n + 1) (if t then assigned_again name v p s else assigned_new name p s)
    go true = grown_fits n (assigned_again name v p s) (again_fits n name v p s (b v refl) h)
    go false = new_fits n name p s h

-- one node more
pub entered_fits : (bytes : List ℕ) (tokens : List Token) (most n : ℕ) (p : Part) (s : Scoped) → IsShort most p.shape → SlotsFit (most + n) s → SlotsFit (most + (n + 1)) (entered bytes tokens p s)
entered_fits bytes tokens most n p s short h = go p.shape short
  where
    more : (r : Scoped) → SlotsFit ((most + n) + 1) r → SlotsFit (most + (n + 1)) r
    more r g = (omega (arith, g.0), g.1)

    go : (sh : Shape) → IsShort most sh → SlotsFit (most + (n + 1)) (entered_in sh bytes tokens p s)
    go (shapes.Function m) short = let g = parameters_fit bytes tokens (p.first + 3) p.end m in (omega (arith, g.0), g.1)
    go shapes.Body short = more (block_entered p s) (grown_fits (most + n) (block_entered p s) h)
    go shapes.Block short = more (block_entered p s) (grown_fits (most + n) (block_entered p s) h)
    go shapes.Assign short =
        let name = text_at bytes tokens p.first in
        more (assigned (latest name s.variables) name p (left p.first s)) (assigned_fits (most + n) (latest name s.variables) name p (left p.first s) (h.1 name) h)
    go sh short = more s (grown_fits (most + n) s h)

seen_fits : (t : Bool) (v : Variable) (n : ℕ) → v.slot + 1 ≤ n → slots_up_to (if t then Local 0 v.slot else Nothing) ≤ n
seen_fits true v n h = h
seen_fits false v n h = omega arith

-- what a name means has a slot of the function's
pub meaning_fits : (bytes : List ℕ) (tokens : List Token) (n : ℕ) (p : Part) (s : Scoped) → SlotsFit n s → slots_up_to (meaning_in p.shape bytes tokens p s) ≤ n
meaning_fits bytes tokens n p s h = go p.shape
  where
    of_assigned : (o : Option Variable) → ((v : Variable) → o ≡ Some v → v.slot < s.slots) → slots_up_to (assigned_meaning o) ≤ n
    of_assigned None b = omega arith
    of_assigned (Some v) b = omega (arith, b v refl, h.0)

    of_read : (o : Option Variable) → ((v : Variable) → o ≡ Some v → v.slot < s.slots) → slots_up_to (read_meaning p.first o) ≤ n
    of_read None b = omega arith
    of_read (Some v) b = seen_fits (nat_le v.from p.first && nat_lt p.first v.until) v n (omega (arith, b v refl, h.0))

    go : (sh : Shape) → slots_up_to (meaning_in sh bytes tokens p s) ≤ n
    go shapes.Assign = of_assigned (latest (text_at bytes tokens p.first) s.variables) (h.1 (text_at bytes tokens p.first))
    go shapes.Name = of_read (latest (text_at bytes tokens p.first) s.variables) (h.1 (text_at bytes tokens p.first))
    go sh = omega arith
