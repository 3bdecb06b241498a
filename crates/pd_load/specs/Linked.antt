-- Definition: the program of the trees of a plan's sources, or the first export or entry that is refused.
use Rattle.std.specs.Prelude.{ℕ, ◌+◌, if◌then◌else◌, List, [], ◌∷◌, ◌++◌, slice_index_or, is_some, Option, None, Result, Ok, Err}
use Rattle.std.specs.Option.{ok_or}
use Rattle.pd_plan.specs.declared.plan.SourceSpec.{SourceSpec}
use Rattle.pd_plan.specs.declared.plan.ExportSpec.{ExportSpec}
use Rattle.pd_plan.specs.declared.plan.ContextSpec.{ContextSpec}
use Rattle.pd_plan.specs.declared.plan.Plan.{Plan}
use Rattle.pd_tree.specs.declared.addition.Addition.{Addition}
use Rattle.pd_tree.specs.Program.{Program}
use Rattle.pd_tree.specs.Linked.{program_of}
use Rattle.pd_load.specs.declared.refusal.LoadRefusal.{LoadRefusal}
use Rattle.pd_load.specs.declared.refusal.LoadCause.TheVariants.{NoSuchItem, DoubledExport, NoSuchEntry}
use Rattle.pd_load.specs.Names.{Symbol, lookup, item_behind, Interface, interface_of, found_in, entry_in}

-- the interfaces of sources with these trees, where the first item of the first source has this number
abbrev pub interfaces : ℕ → List SourceSpec → List (List Addition) → List Interface
interfaces item (s ∷ ss) (t ∷ ts) = interface_of s.language item t ∷ interfaces (item_behind item t) ss ts
interfaces item _ _ = []

-- what can be called of the source with this number; nothing where there is none
abbrev pub interface_at : List Interface → ℕ → Interface
interface_at all source = slice_index_or all source (record { main = None; symbols = [] })

-- the items that were found for the nodes of all sources
abbrev pub all_found : List Symbol → ℕ → List SourceSpec → List (List Addition) → List (Option ℕ)
all_found exports item (s ∷ ss) (t ∷ ts) = found_in s.language exports item t ++ all_found exports (item_behind item t) ss ts
all_found exports item _ _ = []

-- what follows an `Ok`
abbrev pub and_then : {T U : Type 0} → Result T LoadRefusal → (T → Result U LoadRefusal) → Result U LoadRefusal
and_then (Ok x) next = next x
and_then (Err refusal) next = Err refusal

-- the item of an export, the one of number k after earlier ones
abbrev pub exported_item : List Interface → ℕ → List Symbol → ExportSpec → Result ℕ LoadRefusal
exported_item all k earlier e =
    if is_some (lookup e.name earlier) then Err (record { source = e.source; cause = DoubledExport k })
    else ok_or (lookup e.item (interface_at all e.source).symbols) (record { source = e.source; cause = NoSuchItem k })

-- the exports as symbols, those from number k on after earlier ones
abbrev pub exports_from : List Interface → ℕ → List Symbol → List ExportSpec → Result (List Symbol) LoadRefusal
exports_from all k earlier [] = Ok earlier
exports_from all k earlier (e ∷ es) =
    and_then (exported_item all k earlier e) (λ i. exports_from all (k + 1) (earlier ++ record { name = e.name; item = i } ∷ []) es)

-- the item that a context calls, the context of number k
abbrev pub entry_item : List Interface → ℕ → ContextSpec → Result ℕ LoadRefusal
entry_item all k c = ok_or (entry_in (interface_at all c.source) c.entry) (record { source = c.source; cause = NoSuchEntry k })

-- the items that the contexts call, those from number k on after earlier ones
abbrev pub entries_from : List Interface → ℕ → List ℕ → List ContextSpec → Result (List ℕ) LoadRefusal
entries_from all k earlier [] = Ok earlier
entries_from all k earlier (c ∷ cs) = and_then (entry_item all k c) (λ i. entries_from all (k + 1) (earlier ++ i ∷ []) cs)

-- the linked program of a plan whose sources have these trees
abbrev pub linked : Plan → List (List Addition) → Result Program LoadRefusal
linked plan trees =
    let all = interfaces 1 plan.sources trees in
    and_then (exports_from all 0 [] plan.exports)
    (λ exports. and_then (entries_from all 0 [] plan.contexts) (λ entries. Ok (program_of trees (all_found exports 1 plan.sources trees) entries)))
