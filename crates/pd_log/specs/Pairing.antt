-- Definition: which entry of a log is the Enter of which.
use Rattle.std.specs.Prelude.{◌≡◌, ℕ, ◌<◌, List, [], ◌∷◌, length, slice_index_or}
use Rattle.pd_machine.specs.declared.event.EventKind.TheVariants.{Enter}
use Rattle.pd_log.specs.declared.Entry.{Entry}

-- what stands for an entry past the last one
abbrev pub no_entry : Entry
no_entry = record { context = 0; event = 0; opened = 0; place = 0; kind = Enter; node = 0 }

-- the entry at position i of the log
abbrev pub entry_at : List Entry → ℕ → Entry
entry_at log i = slice_index_or log i no_entry

-- the first entry, if there is one, has a later event
abbrev pub BeginsAfter : ℕ → List Entry → Type 0
BeginsAfter event [] = Unit {0}
BeginsAfter event (x ∷ xs) = event < x.event

-- the entries of one context go by event: each event is later than the one before
abbrev pub IsByEvent : List Entry → Type 0
IsByEvent [] = Unit {0}
IsByEvent (x ∷ xs) = BeginsAfter x.event xs × IsByEvent xs

-- the entry at j is the Enter of this event
pub record IsEnterOf (log : List Entry) (event j : ℕ) : Type 0 where
  pub in_log : j < length log
  pub begins : (entry_at log j).kind ≡ Enter
  pub same : (entry_at log j).event ≡ event

-- the entry at i is the end of an activation, and the one at j is that activation's Enter
pub record IsPartner (log : List Entry) (i j : ℕ) : Type 0 where
  pub ends : (entry_at log i).kind ≡ Enter → ⊥
  pub enter : IsEnterOf log (entry_at log i).opened j
