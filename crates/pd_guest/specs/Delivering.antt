-- For the code's proofs: no public contract needs it.
-- What one draw does to a board and to what a context keeps.
use Rattle.std.specs.Prelude.{◌≡◌, ℕ, ◌≤◌, ◌+◌, ◌==◌, ◌&&◌, Bool, false, not, List, [], ◌∷◌, ◌++◌, slice_set, if◌then◌else◌, map, Option, None, Some}
use Rattle.pd_machine.specs.declared.event.Event.{Event}
use Rattle.pd_plan.specs.declared.plan.Plan.{Plan}
use Rattle.pd_log.specs.declared.Entry.{Entry}
use Rattle.pd_board.specs.declared.answers.Known.TheVariants as knowns
use Rattle.pd_board.specs.declared.answers.Drawn.{Drawn}
use Rattle.pd_board.specs.declared.answers.Dispose.{Dispose}
use Rattle.pd_board.specs.declared.answers.ActResult.{ActResult}
use Rattle.pd_board.specs.declared.answers.ActResult.TheVariants as acts
use Rattle.pd_board.specs.Answers.{TogglesUpTo, has_attach}
use Rattle.pd_board.specs.Standing.{Standing}
use Rattle.pd_record.specs.Logs.{place_of, entry_of}
use Rattle.pd_record.specs.Acts.{uses_up}
use Rattle.pd_record.specs.Serving.{log_at}
use Rattle.pd_record.specs.Step.{IsDrawn}
use Rattle.pd_guest.specs.declared.deliver.Deliveries.{Deliveries}

-- what no event changes
abbrev pub settled_of : Standing → Standing
settled_of s = record s { replies = []; sights = []; sight_loads = []; passes = []; known = λ _. knowns.Fresh; numbers = λ _. []; draw_share = 0; answer_share = λ _. 0; loads = λ _. 0; all_loads = 0; cleared = 0; spare = 0; last_node = None; held = λ _. false; due = λ _. false }

-- what no call at the bindings of an event changes
abbrev pub steady_of : Standing → Standing
steady_of s = record s { replies = []; sights = []; sight_loads = []; passes = []; known = λ _. knowns.Fresh; draw_share = 0; loads = λ _. 0; all_loads = 0; cleared = 0; spare = 0; last_node = None; held = λ _. false; due = λ _. false }

-- the board has the answers of these acts: a number above the counts of all its switches is above theirs, and what it never attached they
-- didn't
pub record HasReplies (done : List (ℕ × ActResult)) (s : Standing) : Type 0 where
  pub counts : (b n : ℕ) → TogglesUpTo b n s.replies → TogglesUpTo b n (map (λ a. a.1) done)
  pub attaches : (b : ℕ) → has_attach b s.replies ≡ false → has_attach b (map (λ a. a.1) done) ≡ false

-- the answer of the disposal of binding b, where it is used up
abbrev pub spent_by : Bool → ℕ → Dispose → List ActResult
spent_by used b r = if used then acts.Disposed b r ∷ [] else []

-- binding b was drawn at event n and gave d, and was disposed at once where that used it up
pub record IsTaken (plan : Plan) (n b : ℕ) (d : Drawn) (old new : Standing) : Type 0 where
  pub drawn : (done : List (ℕ × ActResult)) → HasReplies done old → IsDrawn plan done n b d old new
  pub disposal : Dispose
  pub replies : new.replies ≡ old.replies ++ spent_by (uses_up plan b d) b disposal
  pub due : (c : ℕ) → new.due c ≡ (not (c == b) && old.due c)
  pub spare : old.spare ≤ new.spare + 2
  pub share : old.draw_share ≤ new.draw_share + 1
  pub held : new.held ≡ old.held
  pub last_node : new.last_node ≡ old.last_node
  pub cleared : new.cleared ≡ old.cleared
  pub steady : steady_of new ≡ steady_of old

-- the logs with an entry of binding b, where there is a place
abbrev pub with_entry : ℕ → Event → ℕ → Option ℕ → List (List Entry) → List (List Entry)
with_entry context e b None logs = logs
with_entry context e b (Some place) logs = slice_set logs b (log_at logs b ++ entry_of context e place ∷ [])

-- a draw of binding b gave d, and is kept
pub record IsDelivered (plan : Plan) (e : Event) (b : ℕ) (d : Drawn) (old new : Standing) (before after : Deliveries) : Type 0 where
  pub taken : IsTaken plan e.number b d old new
  pub context : after.context ≡ before.context
  pub logs : after.logs.items ≡ with_entry before.context e b (place_of d) before.logs.items
  pub seen : after.seen.items ≡ before.seen.items ++ record { event = e.number; binding = b; drawn = d } ∷ []
