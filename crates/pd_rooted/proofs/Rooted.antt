-- A loaded program is a linked one.
use Rattle.std.proofs.Common.{◌≡◌, ℕ, List, [], Result, Ok, Err, subst}
use Rattle.pd_sections.specs.Written.{Written}
use Rattle.pd_plan.specs.declared.plan.Plan.{Plan}
use Rattle.pd_tree.specs.declared.addition.Addition.{Addition}
use Rattle.pd_tree.specs.Program.{Program}
use Rattle.pd_tree.specs.Linked.{program_of}
use Rattle.pd_load.specs.declared.refusal.LoadRefusal.{LoadRefusal}
use Rattle.pd_load.specs.Names.{Symbol}
use Rattle.pd_load.specs.Linked.{and_then, all_found, interfaces, exports_from, entries_from}
use Rattle.pd_load.specs.Loading.{IsLoaded}
use Rattle.pd_nesting.specs.Nesting.{AreRooted}
use Rattle.pd_nesting.proofs.Rooted.{linked_rooted}

made : (p q : Program) → AreRooted q → ◌≡◌ {A = Result Program LoadRefusal} (Ok q) (Ok p) → AreRooted p
made p q h e = let same : q ≡ p = cc in subst AreRooted same h

entries_made : (p : Program) (make : List ℕ → Program) → ((entries : List ℕ) → AreRooted (make entries)) → (r : Result (List ℕ) LoadRefusal) → and_then r (λ entries. Ok (make entries)) ≡ Ok p → AreRooted p
entries_made p make h (Ok entries) e = made p (make entries) (h entries) e
entries_made p make h (Err x) e = cc

exports_made : (p : Program) (make : List Symbol → List ℕ → Program) → ((exports : List Symbol) (entries : List ℕ) → AreRooted (make exports entries)) → (entries : Result (List ℕ) LoadRefusal) (r : Result (List Symbol) LoadRefusal)
    → and_then r (λ exports. and_then entries (λ es. Ok (make exports es))) ≡ Ok p → AreRooted p
exports_made p make h entries (Ok exports) e = entries_made p (make exports) (h exports) entries e
exports_made p make h entries (Err x) e = cc

pub loaded_rooted : (plan : Plan) (sources : List Written) (p : Program) → IsLoaded plan sources p → AreRooted p
loaded_rooted plan sources p loaded =
    let trees : List (List Addition) = loaded.0 in
    let all = interfaces 1 plan.sources trees in
    exports_made p (λ exports entries. program_of trees (all_found exports 1 plan.sources trees) entries) (λ exports entries. linked_rooted trees (all_found exports 1 plan.sources trees) entries)
    (entries_from all 0 [] plan.contexts) (exports_from all 0 [] plan.exports) loaded.2
