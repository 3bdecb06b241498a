-- Scopes: the innermost block first.
use Rattle.std.proofs.Common.{◌≡◌, ℕ, ◌+◌, ◌*◌, ◌<◌, ◌≤◌, List, [], ◌∷◌, ◌++◌, length, reverse, Option, Some, None, refl, sym, ap, ◌∙◌, add-one, arith}
use Rattle.std.specs.Prelude.{if◌then◌else◌}
use Rattle.std.proofs.lemmas.Bool.{lt-ltb, le-ltb}
use Rattle.std.proofs.lemmas.List.{reverse-append}
use Rattle.pd_sections.specs.declared.Token.{Token}
use Rattle.pd_sl_parse.specs.declared.scope.Variable.{Variable}
use Rattle.pd_sl_parse.specs.Scopes.{Scoped, text_at, latest, open_at, with_parameter, with_parameters}

pub open_kept : (at end : ℕ) (ends : List ℕ) → at < end → open_at at (end ∷ ends) ≡ end ∷ ends
unfolding open_at
open_kept at end ends lt = ap (λ b. if b then end ∷ ends else open_at at ends) (lt-ltb at end lt)

pub open_left : (at end : ℕ) (ends : List ℕ) → end ≤ at → open_at at (end ∷ ends) ≡ open_at at ends
unfolding open_at
open_left at end ends le = ap (λ b. if b then end ∷ ends else open_at at ends) (le-ltb at end le)

pub open_none : (at : ℕ) → open_at at [] ≡ []
unfolding open_at
open_none at = refl

pub parameters_next : (bytes : List ℕ) (tokens : List Token) (first until k : ℕ) (s : Scoped) → with_parameters bytes tokens first until (k + 1) s ≡ (let r = with_parameters bytes tokens first until k s in let name = text_at bytes tokens (first + 2 * k) in with_parameter (latest name r.variables) name until r)
parameters_next bytes tokens first until k s = rw add-one refl

with_parameter_slots : (o : Option Variable) (name : List ℕ) (until n : ℕ) (s : Scoped) → s.slots ≤ n → (with_parameter o name until s).slots ≤ n + 1
with_parameter_slots (Some v) name until n s h = omega arith
with_parameter_slots None name until n s h = omega arith

-- one parameter more
pub parameter_counts : (o : Option Variable) (name : List ℕ) (until n : ℕ) (s r : Scoped) → r ≡ with_parameter o name until s → s.slots ≤ n → r.slots ≤ n + 1
parameter_counts o name until n s r e h = omega (arith, ap (λ (x : Scoped). x.slots) e, with_parameter_slots o name until n s h)

ends_reversed : (ends : List ℕ) (end : ℕ) → reverse (ends ++ end ∷ []) ≡ end ∷ reverse ends
ends_reversed ends end = reverse-append ends (end ∷ [])

-- the innermost block goes on
pub block_kept : (at end : ℕ) (xs ys zs : List ℕ) → xs ≡ ys ++ end ∷ [] → zs ≡ ys ++ end ∷ [] → at < end → reverse zs ≡ open_at at (reverse xs)
block_kept at end xs ys zs e z lt =
    ap reverse z ∙ ends_reversed ys end
    ∙ sym (ap (λ l. open_at at (reverse l)) e ∙ ap (open_at at) (ends_reversed ys end) ∙ open_kept at end (reverse ys) lt)

-- it has ended
pub block_left : (at end : ℕ) (xs ys : List ℕ) → xs ≡ ys ++ end ∷ [] → end ≤ at → open_at at (reverse ys) ≡ open_at at (reverse xs)
block_left at end xs ys e le = sym (ap (λ l. open_at at (reverse l)) e ∙ ap (open_at at) (ends_reversed ys end) ∙ open_left at end (reverse ys) le)

pub no_block : (at : ℕ) (xs ys : List ℕ) → length xs ≡ 0 → xs ≡ ys ++ [] → reverse ys ≡ open_at at (reverse xs)
no_block at [] [] e h = sym (open_none at)
no_block at [] (y ∷ ys) e h = absurd (cc)
no_block at (x ∷ xs) ys e h = absurd (omega arith)
