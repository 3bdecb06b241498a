-- Definition: the log of a binding over all contexts.
use Rattle.std.specs.Prelude.{ℕ, nat_le, Bool, if◌then◌else◌, List, [], ◌∷◌, flat_map, slice_index_or}
use Rattle.pd_log.specs.declared.Entry.{Entry}
use Rattle.pd_log.specs.Merging.{PlacesDiffer}
use Rattle.pd_suspend.specs.declared.context.ContextRecord.{ContextRecord}
use Rattle.pd_run.specs.declared.report.Report.{Report}

-- the entries of a binding, context by context
abbrev pub entries_of : ℕ → List ContextRecord → List Entry
entries_of binding contexts = flat_map (λ c. slice_index_or c.logs binding []) contexts

-- an entry before the first of these that has no lesser place
abbrev pub put : Entry → List Entry → List Entry
put e [] = e ∷ []
put e (x ∷ xs) = if nat_le e.place x.place then e ∷ x ∷ xs else x ∷ put e xs

-- the entries in the order of their places
abbrev pub by_place : List Entry → List Entry
by_place [] = []
by_place (e ∷ es) = put e (by_place es)

-- the log of a binding: context by context, or merged into the order of places
abbrev pub log_of : Bool → ℕ → List ContextRecord → List Entry
log_of merged binding contexts = if merged then by_place (entries_of binding contexts) else entries_of binding contexts

-- no two entries of a binding have one place
abbrev pub PlacesAreApart : Report → Type 0
PlacesAreApart r = (b : ℕ) → PlacesDiffer (entries_of b r.contexts)
