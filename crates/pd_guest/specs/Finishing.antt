-- For the code's proofs: no public contract needs it.
-- How the observers that an activation was given to are served at its end.
use Rattle.std.specs.Prelude.{◌≡◌, ℕ, ◌≤◌, ◌+◌, ◌*◌, ◌==◌, true, false, nat_lt, List, length}
use Rattle.std.specs.List.{list_all}
use Rattle.pd_machine.specs.Events.{Told}
use Rattle.pd_board.specs.declared.answers.Known.{Known}
use Rattle.pd_board.specs.declared.answers.Known.TheVariants.{Fresh, Disposed}
use Rattle.pd_board.specs.declared.answers.Drawn.{Drawn}
use Rattle.pd_board.specs.declared.answers.ActResult.{ActResult}
use Rattle.pd_board.specs.Standing.{Standing}
use Rattle.pd_record.specs.Life.{rises}
use Rattle.pd_record.specs.Serving.{IsServing, ons_at, is_in}
use Rattle.pd_record.specs.Step.{IsPassed}
use Rattle.pd_guest.specs.declared.deliver.Deliveries.{Deliveries}
use Rattle.pd_guest.specs.Delivering.{IsDelivered, HasReplies, steady_of}
use Rattle.pd_guest.specs.Moment.{At}

-- binding b, known as disposed, was passed
pub record IsPassedBy (n b : ℕ) (old new : Standing) : Type 0 where
  pub gone : old.known b ≡ Disposed
  pub passed : IsPassed n b old new
  pub replies : new.replies ≡ old.replies
  pub due : (c : ℕ) → old.due c ≡ false → new.due c ≡ false
  pub spare : new.spare + 1 ≡ old.spare
  pub share : new.draw_share ≡ old.draw_share
  pub cleared : new.cleared ≡ old.cleared
  pub steady : steady_of new ≡ steady_of old

-- binding b was drawn or passed
pub data IsFinished (m : At) (b : ℕ) (old new : Standing) (before after : Deliveries) : Type 0 where
  drawn : (d : Drawn) → IsDelivered m.plan m.told.event b d old new before after → IsFinished m b old new before after
  passed : IsPassedBy m.told.event.number b old new → after ≡ before → IsFinished m b old new before after

-- there is room to serve these bindings, of each of which something is known
pub record IsFit (bs : List ℕ) (s : Standing) (kept : Deliveries) : Type 0 where
  pub is_open : s.ended ≡ false
  pub count : length kept.logs.items ≡ length s.table.rows
  pub rising : rises bs ≡ true
  pub below : list_all (λ b. nat_lt b (length s.table.rows)) bs ≡ true
  pub known : (c : ℕ) → is_in bs c ≡ true → s.known c ≡ Fresh → ⊥
  pub nothing_due : (c : ℕ) → s.due c ≡ false
  pub spare : 2 * length bs ≤ s.spare
  pub share : length bs ≤ s.draw_share

-- what was used of that room, for so many bindings
pub record IsUsed (n count : ℕ) (first s : Standing) (before kept : Deliveries) : Type 0 where
  pub steady : steady_of s ≡ steady_of first
  pub logs : length kept.logs.items ≡ length before.logs.items
  pub context : kept.context ≡ before.context
  pub share : first.draw_share ≤ s.draw_share + count
  pub cleared : s.cleared ≡ first.cleared
  -- whom other events were given to stays
  pub ons : (x : ℕ) → (n == x) ≡ false → ons_at s.sights x ≡ ons_at first.sights x

-- the event is served but for these bindings
pub record IsFinishing (m : At) (start : ℕ → Known) (ts : List Told) (done : List (ℕ × ActResult)) (bs : List ℕ) (s : Standing) (kept : Deliveries) : Type 0 where
  pub serving : IsServing m.plan m.program kept.context start ts m.told done (is_in bs) s kept.logs.items
  pub stood : HasReplies done s
  pub seen : kept.seen.items ≡ s.sights
  pub bound : list_all (λ x. nat_lt x.binding (length s.table.rows)) s.sights ≡ true
