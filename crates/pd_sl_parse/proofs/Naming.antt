-- A map from names to variables, as its entries in the order of their names.
use Rattle.std.proofs.Common.{◌≡◌, ℕ, ◌+◌, ◌<◌, List, [], ◌∷◌, Some, refl, sym, ap, subst, ◌∙◌}
use Rattle.std.specs.Prelude.{cond, if◌then◌else◌, map}
use Rattle.std.specs.declared.cmp.Ordering.{Ordering}
use Rattle.std.specs.BTreeMap.{BTreeMap, UpdatesBy, is_at}
use Rattle.std.specs.Cmp.{eq_by_cmp_equiv}
use Rattle.std.specs.Cmp.Lexicographic.{slice_cmp, nat_list_cmp_total}
use Rattle.std.specs.Str.{bytes_eq}
use Rattle.std.proofs.lemmas.Map.Text.{is_eq-slice_cmp, btree_map_updates_str}
use Rattle.std.specs.FinMap as maps
use Rattle.std.specs.FinMap.{find}
use Rattle.std.specs.Map.{lookup}
use Rattle.std.specs.Ordering.{nat_cmp, eq_by_cmp}
use denote.Ref.{Bor}
use Rattle.std.proofs.lemmas.Bool.{lt-ltb}
use Rattle.pd_sl_read.specs.declared.parts.Part.{Part}
use Rattle.pd_sl_parse.specs.declared.scope.Variable.{Variable}
use Rattle.pd_sl_parse.specs.Scopes.{Variables, Scoped, variables_of, latest, with_variable, sooner, assigned_again}

abbrev Entries : Type 0
Entries = List (Bor (List ℕ) × Variable)

abbrev Names : Type 0
Names = BTreeMap (Bor (List ℕ)) Variable

abbrev named : Bor (List ℕ) × Variable → List ℕ × Variable
named e = (e.0.now, e.1)

abbrev by_name : Bor (List ℕ) → Bor (List ℕ) → Ordering
by_name x y = slice_cmp nat_cmp x.now y.now

found_by_name : (q : List ℕ) (es : Entries) → find (slice_cmp nat_cmp) q (map named es) ≡ lookup (is_at (λ (k : Bor (List ℕ)). slice_cmp nat_cmp q k.now)) es
found_by_name q [] = refl
found_by_name q (e ∷ es) = ap (cond (eq_by_cmp (slice_cmp nat_cmp) q e.0.now) (Some e.1)) (found_by_name q es)

-- what the entries have at a name
pub found : (q : List ℕ) (es : Entries) → lookup (is_at (λ (k : Bor (List ℕ)). slice_cmp nat_cmp q k.now)) es ≡ latest q (variables_of es)
found q es = sym (maps.get-from_entries nat_list_cmp_total (map named es) q ∙ found_by_name q es)

pub tested : (k q : List ℕ) → bytes_eq k q ≡ eq_by_cmp (slice_cmp nat_cmp) q k
tested k q = sym (is_eq-slice_cmp k q) ∙ (eq_by_cmp_equiv nat_list_cmp_total).symm k q

-- the map with a variable at its name
abbrev pub Updated : Names → Names → Bor (List ℕ) → Variable → Type 0
Updated m n k v = UpdatesBy by_name (by_name k) m n (Some v)

pub inserted : (m n : Names) (k : Bor (List ℕ)) (v : Variable) → Updated m n k v → variables_of n.entries ≡ maps.insert (variables_of m.entries) k.now v
inserted m n k v h = maps.same_map nat_list_cmp_total (maps.slice_cmp-IsAntisymmetric maps.nat_cmp-IsAntisymmetric) _ _
    (λ q. sym (found q n.entries) ∙ btree_map_updates_str k.now m n (Some v) h q
    ∙ ap (λ b. cond b (Some v) (lookup (is_at (λ (x : Bor (List ℕ)). slice_cmp nat_cmp q x.now)) m.entries)) (tested k.now q)
    ∙ ap (cond (eq_by_cmp (slice_cmp nat_cmp) q k.now) (Some v)) (found q m.entries)
    ∙ sym (maps.get-insert nat_list_cmp_total (variables_of m.entries) k.now v q))

-- a variable more, in the next slot
pub declared : (blocks : List ℕ) (m n : Names) (slots from until : ℕ) (k : Bor (List ℕ)) (s : Scoped) → record { blocks = blocks; variables = variables_of m.entries; slots = slots } ≡ s → Updated m n k (record { slot = slots; from = from; until = until }) → record { blocks = blocks; variables = variables_of n.entries; slots = slots + 1 } ≡ with_variable k.now (record { slot = s.slots; from = from; until = until }) s
declared blocks m n slots from until k s e h =
    let made : Variables → Scoped = λ vs. record { blocks = blocks; variables = vs; slots = slots + 1 } in
    subst (λ (r : Scoped). made (variables_of n.entries) ≡ with_variable k.now (record { slot = r.slots; from = from; until = until }) r) e (ap made (inserted m n k (record { slot = slots; from = from; until = until }) h))

-- an assignment that ends sooner
pub again : (blocks : List ℕ) (m n : Names) (slots : ℕ) (k : Bor (List ℕ)) (v : Variable) (p : Part) (s : Scoped) → record { blocks = blocks; variables = variables_of m.entries; slots = slots } ≡ s → p.end < v.from → Updated m n k (record { slot = v.slot; from = p.end; until = v.until }) → record { blocks = blocks; variables = variables_of n.entries; slots = slots } ≡ assigned_again k.now v p s
again blocks m n slots k v p s e lt h =
    let made : Variables → Scoped = λ vs. record { blocks = blocks; variables = vs; slots = slots } in
    subst (λ (r : Scoped). made (variables_of n.entries) ≡ assigned_again k.now v p r) e
    (ap made (inserted m n k (sooner v p.end) h)
    ∙ sym (ap (λ b. if b then made (maps.insert (variables_of m.entries) k.now (sooner v p.end)) else made (variables_of m.entries)) (lt-ltb p.end v.from lt)))
