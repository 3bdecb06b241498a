-- The programs that are loaded have an entry for each context.
use Rattle.std.proofs.Common.{◌≡◌, ◌+◌, ℕ, List, [], ◌∷◌, ◌++◌, length, refl, ap, arith, Result, Ok, Err}
use Rattle.std.proofs.lemmas.List.{length-append}
use Rattle.pd_sections.specs.Written.{Written}
use Rattle.pd_plan.specs.declared.plan.ContextSpec.{ContextSpec}
use Rattle.pd_plan.specs.declared.plan.Plan.{Plan}
use Rattle.pd_tree.specs.Program.{Program}
use Rattle.pd_tree.specs.Linked.{program_of}
use Rattle.pd_load.specs.declared.refusal.LoadRefusal.{LoadRefusal}
use Rattle.pd_load.specs.Names.{Interface}
use Rattle.pd_load.specs.Linked.{interfaces, all_found, and_then, entry_item, entries_from, exports_from}
use Rattle.pd_load.specs.Loading.{IsLoaded}

followed : {T U : Type 0} (r : Result T LoadRefusal) (next : T → Result U LoadRefusal) (y : U) → and_then r next ≡ Ok y → (x : T) × (r ≡ Ok x) × (next x ≡ Ok y)
followed (Ok x) next y e = (x, refl, e)
followed (Err refusal) next y e = cc

entries_counted : (all : List Interface) (k : ℕ) (earlier : List ℕ) (cs : List ContextSpec) (entries : List ℕ) → entries_from all k earlier cs ≡ Ok entries
    → length entries ≡ length earlier + length cs
entries_counted all k earlier [] entries e = let same : earlier ≡ entries = cc in omega (arith, ap length same)
entries_counted all k earlier (c ∷ cs) entries e =
    let first = followed (entry_item all k c) (λ i. entries_from all (k + 1) (earlier ++ i ∷ []) cs) entries e in
    omega (arith, entries_counted all (k + 1) (earlier ++ first.0 ∷ []) cs entries first.2, length-append earlier (first.0 ∷ []))

pub has_entries : (plan : Plan) (sources : List Written) (program : Program) → IsLoaded plan sources program → length program.entries ≡ length plan.contexts
has_entries plan sources program (trees, are, is) =
    let all = interfaces 1 plan.sources trees in
    let exports = followed (exports_from all 0 [] plan.exports)
    (λ symbols. and_then (entries_from all 0 [] plan.contexts) (λ entries. Ok (program_of trees (all_found symbols 1 plan.sources trees) entries))) program is in
    let entries = followed (entries_from all 0 [] plan.contexts) (λ items. Ok (program_of trees (all_found exports.0 1 plan.sources trees) items)) program exports.2 in
    let same : program_of trees (all_found exports.0 1 plan.sources trees) entries.0 ≡ program = cc in
    let many : length (program_of trees (all_found exports.0 1 plan.sources trees) entries.0).entries ≡ length program.entries = ap (λ p. length p.entries) same in
    omega (arith, many, entries_counted all 0 [] plan.contexts entries.0 entries.1)
