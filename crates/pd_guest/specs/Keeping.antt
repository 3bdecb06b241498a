-- For the code's proofs: no public contract needs it.
-- What stands between the events of a context.
use Rattle.std.specs.Prelude.{◌≡◌, ℕ, ◌≤◌, ◌<◌, ◌+◌, ◌*◌, ◌^◌, Bool, true, false, nat_lt, List, [], length, map, reverse, slice_index_or, Some}
use Rattle.std.specs.List.{All, list_all}
use Rattle.pd_machine.specs.Events.{Told}
use Rattle.pd_order.specs.Order.{open_after}
use Rattle.pd_tree.specs.Program.{Program}
use Rattle.pd_plan.specs.declared.plan.Plan.{Plan}
use Rattle.pd_filter.specs.Matching.{table_of}
use Rattle.pd_board.specs.declared.answers.Known.{Known}
use Rattle.pd_board.specs.declared.answers.Known.TheVariants.{Fresh}
use Rattle.pd_board.specs.declared.answers.ActResult.{ActResult}
use Rattle.pd_board.specs.declared.answers.Sight.{Sight}
use Rattle.pd_board.specs.Answers.{stage}
use Rattle.pd_board.specs.Standing.{Standing, NothingDue, in_row}
use Rattle.pd_plan.specs.declared.plan.Answer.{Answer}
use Rattle.pd_suspend.specs.declared.suspension.Suspension.{Suspension}
use Rattle.pd_suspend.specs.Counters.{idle}
use Rattle.pd_record.specs.Serving.{IsCurrent, log_at}
use Rattle.pd_record.specs.Step.{IsQuiet, IsLoaded}
use Rattle.pd_guest.specs.declared.deliver.Deliveries.{Deliveries}
use Rattle.pd_guest.specs.declared.serving.Opened.{Opened}
use Rattle.pd_guest.specs.declared.serving.Progress.{Progress}
use Rattle.pd_guest.specs.Delivering.{HasReplies, steady_of}
use Rattle.pd_guest.specs.Moment.{observers_at}

-- a node was loaded, and there is room for so many steps
pub record IsRoomed (node : ℕ) (has : ℕ → Bool) (steps : ℕ) (old new : Standing) : Type 0 where
  pub loaded : IsLoaded node has old new
  pub replies : new.replies ≡ old.replies
  pub matching : (b : ℕ) → has b ≡ true → in_row old.table b node ≡ true
  pub held : (c : ℕ) → new.held c ≡ has c
  pub due : (c : ℕ) → new.due c ≡ has c
  pub last_node : new.last_node ≡ Some node
  pub spare : steps ≤ new.spare
  pub share : new.draw_share ≡ old.draw_share
  pub cleared : new.cleared ≡ old.cleared
  pub steady : steady_of new ≡ steady_of old

-- there is room for so many steps
pub record IsRoomedFor (steps : ℕ) (old new : Standing) : Type 0 where
  pub quiet : IsQuiet old new
  pub replies : new.replies ≡ old.replies
  pub due : new.due ≡ old.due
  pub spare : steps ≤ new.spare
  pub share : new.draw_share ≡ old.draw_share
  pub cleared : new.cleared ≡ old.cleared
  pub steady : steady_of new ≡ steady_of old

-- an open activation has the observers that its Enter was given to
pub record IsOpened (plan : Plan) (seen : List Sight) (n : ℕ) (o : Opened) : Type 0 where
  pub before : o.event < n
  pub on_is : o.on ≡ observers_at plan seen o.event

-- what the board knew of a binding at first
abbrev pub start_of : List Known → ℕ → Known
start_of start b = slice_index_or start b Fresh

-- all events below n were served, and these acts done
pub record IsKeptAt (plan : Plan) (p : Program) (start : ℕ → Known) (n : ℕ) (ts : List Told) (done : List (ℕ × ActResult)) (s : Standing) (opens : List Opened) (kept : Deliveries) : Type 0 where
  pub current : IsCurrent plan p kept.context start n ts done s kept.logs.items
  pub stood : HasReplies done s
  pub table : s.table ≡ table_of plan p
  pub nodes : s.nodes ≡ length p.nodes
  pub seen : kept.seen.items ≡ s.sights
  pub count : length kept.logs.items ≡ length s.table.rows
  pub rows : length s.table.rows ≤ 4096
  pub bound : list_all (λ x. nat_lt x.binding (length s.table.rows)) s.sights ≡ true
  pub opened : All (IsOpened plan s.sights n) opens
  -- they are those that are open, the outermost first
  pub open_are : map (λ e. e.number) (open_after [] ts) ≡ reverse (map (λ o. o.event) opens)
  pub few : n ≤ 2 ^ 25
  -- each event takes at most one draw, and clears at most one bit, for each binding
  pub share : 2 ^ 38 ≤ s.draw_share + 4096 * n
  pub cleared : s.cleared ≤ 4096 * n
  pub loads : s.all_loads ≤ n
  pub nothing_due : NothingDue s
  pub is_open : s.ended ≡ false

-- what is kept before the first event of a context with so many bindings and sessions
pub record IsNew (context bindings sessions : ℕ) (s : Standing) (first : List (Suspension × Answer)) (h : Progress) : Type 0 where
  pub context_is : h.context ≡ context
  pub same : h.kept.context ≡ context
  pub opens : h.opens.items ≡ []
  pub events : h.history.events ≡ []
  pub stops : h.stops.items ≡ []
  pub seen : h.kept.seen.items ≡ []
  pub count_is : length h.kept.logs.items ≡ bindings
  pub logs : (b : ℕ) → log_at h.kept.logs.items b ≡ []
  pub start : (b : ℕ) → b < bindings → start_of h.start.known b ≡ s.known b
  pub forward : (b : ℕ) → stage (start_of h.start.known b) ≤ stage (s.known b)
  pub replies : h.start.replies ≡ s.replies
  pub first_is : h.first.list ≡ first
  pub steppers : length h.steppers.items ≡ sessions
  pub idle_all : (x : ℕ) → slice_index_or h.steppers.items x idle ≡ idle
