-- Definition, which public contracts cite.
-- What a session's actions were answered, beside how often its board read which words.
use Rattle.std.specs.Prelude.{◌≡◌, ◌↔◌, ℕ, ◌+◌, ◌<◌, ◌≤◌, ◌==◌, ◌&&◌, Bool, true, false, not, nat_le, if◌then◌else◌, List, [], ◌∷◌, Option, Some, None}
use Rattle.std.specs.List.{All, list_all, list_any, filter_map}
use Rattle.pd_plan.specs.declared.plan.Action.{Action}
use Rattle.pd_plan.specs.declared.plan.Action.TheVariants as actions
use Rattle.pd_board.specs.declared.answers.ActResult.{ActResult}
use Rattle.pd_board.specs.declared.waiting.Waited.TheVariants.{Reached, AllEnded, Late}
use Rattle.pd_board.specs.Answers.{is_result_of}
use Rattle.pd_board.specs.Standing.{Standing}
use Rattle.pd_session.specs.declared.record.ActionResult.{ActionResult}
use Rattle.pd_session.specs.declared.record.ActionResult.TheVariants as gave
use Rattle.pd_session.specs.declared.record.ActionResult.TheVariants.{Awaited}

-- ---- one result for each action

-- whether it is what an action was answered: of the same kind, and of its binding or count
abbrev pub is_of : Action → ActionResult → Bool
is_of (actions.Act a) (gave.Act r) = is_result_of a r
is_of (actions.Await count turns) (Awaited c w) = c == count
is_of _ _ = false

-- one for each action, in order
abbrev pub are_of : List Action → List ActionResult → Bool
are_of [] [] = true
are_of (a ∷ rest) (r ∷ rs) = is_of a r && are_of rest rs
are_of _ _ = false

-- the answers of the acts among them
abbrev pub act_in : ActionResult → Option ActResult
act_in (gave.Act r) = Some r
act_in _ = None

-- ---- awaits

-- the number of answers that an await read last, where it tells it
abbrev pub told_by : ActionResult → Option ℕ
told_by (Awaited c (Reached n)) = Some n
told_by (Awaited c (Late n)) = Some n
told_by _ = None

abbrev pub is_late : ActionResult → Bool
is_late (Awaited c (Late n)) = true
is_late _ = false

abbrev pub is_all_ended : ActionResult → Bool
is_all_ended (Awaited c AllEnded) = true
is_all_ended _ = false

-- an await that reached its count read at least that, and one that was late read less; neither read more than `taken`
pub record FitsCount (taken : ℕ) (r : ActionResult) : Type 0 where
  pub reached : (c n : ℕ) → r ≡ Awaited c (Reached n) → (c ≤ n) × (n ≤ taken)
  pub late : (c n : ℕ) → r ≡ Awaited c (Late n) → (n < c) × (n ≤ taken)

-- no number is less than one before it
abbrev pub never_falls : List ℕ → Bool
never_falls [] = true
never_falls (n ∷ ns) = list_all (nat_le n) ns && never_falls ns

-- after an await that found all contexts ended, none is late
abbrev pub none_late_after_end : List ActionResult → Bool
none_late_after_end [] = true
none_late_after_end (r ∷ rs) = (if is_all_ended r then list_all (λ x. not (is_late x)) rs else true) && none_late_after_end rs

-- how often an action read the session's word at least: in each turn where it was late, and else once
abbrev pub own_reads : Action → ActionResult → ℕ
own_reads (actions.Await count turns) (Awaited c (Late n)) = turns
own_reads (actions.Await count turns) (Awaited c w) = 1
own_reads _ _ = 0

-- and the word of ended contexts
abbrev pub end_reads : Action → ActionResult → ℕ
end_reads (actions.Await count turns) (Awaited c (Late n)) = turns
end_reads (actions.Await count turns) (Awaited c AllEnded) = 1
end_reads _ _ = 0

-- and all of them together
abbrev pub in_all : (Action → ActionResult → ℕ) → List Action → List ActionResult → ℕ
in_all reads (a ∷ rest) (r ∷ rs) = reads a r + in_all reads rest rs
in_all reads _ _ = 0

-- how often a board read its session's word and the word of ended contexts, and the number that it read last from the latter
pub record Readings : Type 0 where
  pub loads : ℕ
  pub end_loads : ℕ
  pub last_ends : ℕ

abbrev pub readings_of : ℕ → Standing → Readings
readings_of session s = record { loads = s.answer_loads session; end_loads = s.end_loads; last_ends = s.last_ends }

-- what the actions of a session were answered, of which at most `taken` answers were taken, in a run of so many contexts
pub record AreResults (contexts taken : ℕ) (read : Readings) (script : List Action) (rs : List ActionResult) : Type 0 where
  pub each : are_of script rs ≡ true
  pub counts : All (FitsCount taken) rs
  pub rising : never_falls (filter_map told_by rs) ≡ true
  pub over : none_late_after_end rs ≡ true
  pub own_loads : in_all own_reads script rs ≤ read.loads
  pub ends_loads : in_all end_reads script rs ≤ read.end_loads
  -- the last number shows whether an await found all contexts ended
  pub ended : (contexts ≤ read.last_ends) ↔ (list_any is_all_ended rs ≡ true)
