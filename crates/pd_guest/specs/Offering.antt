-- For the code's proofs: no public contract needs it.
-- How the bindings that a load of a node held are served.
use Rattle.std.specs.Prelude.{◌≡◌, ℕ, ◌≤◌, ◌<◌, ◌+◌, ◌*◌, ◌^◌, ◌==◌, ◌&&◌, Bool, true, false, not, nat_le, nat_lt, List, [], ◌∷◌, ◌++◌, length, if◌then◌else◌, Some}
use Rattle.std.specs.List.{list_all}
use Rattle.pd_filter.specs.Matching.{table_of}
use Rattle.pd_machine.specs.Events.{Told}
use Rattle.pd_board.specs.declared.answers.Known.{Known}
use Rattle.pd_board.specs.declared.answers.Known.TheVariants.{Disposed}
use Rattle.pd_board.specs.declared.answers.Drawn.{Drawn}
use Rattle.pd_board.specs.declared.answers.ActResult.{ActResult}
use Rattle.pd_board.specs.Standing.{Standing, in_row}
use Rattle.pd_record.specs.Logs.{is_on, is_met_by}
use Rattle.pd_record.specs.Serving.{IsServing, ons_at}
use Rattle.pd_record.specs.Step.{IsQuiet, IsRefused}
use Rattle.pd_guest.specs.declared.deliver.Deliveries.{Deliveries}
use Rattle.pd_guest.specs.Delivering.{IsDelivered, HasReplies, steady_of}
use Rattle.pd_guest.specs.Moment.{At, is_false_at, is_observed, observers_at}

-- those that an event was given to, with b where it was
abbrev pub with_on : Bool → ℕ → List ℕ → List ℕ
with_on is b on = if is then on ++ b ∷ [] else on

-- binding b, known as disposed, was swept from the node of the last load
pub record IsSwept (b : ℕ) (old new : Standing) : Type 0 where
  pub gone : old.known b ≡ Disposed
  pub quiet : IsQuiet old new
  pub replies : new.replies ≡ old.replies
  pub due : (c : ℕ) → new.due c ≡ (not (c == b) && old.due c)
  pub spare : new.spare ≡ old.spare
  pub share : new.draw_share ≡ old.draw_share
  pub held : new.held ≡ old.held
  pub last_node : new.last_node ≡ old.last_node
  pub cleared : new.cleared ≡ old.cleared + 1
  pub steady : steady_of new ≡ steady_of old

-- binding b was passed at event n, since its condition is false there
pub record IsLeftOut (n b : ℕ) (old new : Standing) : Type 0 where
  pub refused : IsRefused n b old new
  pub replies : new.replies ≡ old.replies
  pub due : (c : ℕ) → new.due c ≡ (not (c == b) && old.due c)
  pub spare : new.spare + 1 ≡ old.spare
  pub share : new.draw_share ≡ old.draw_share
  pub held : new.held ≡ old.held
  pub last_node : new.last_node ≡ old.last_node
  pub cleared : new.cleared ≡ old.cleared
  pub steady : steady_of new ≡ steady_of old

-- binding b was drawn, or left out, or swept; and these observers are now those that the event was given to
pub data IsOffered (m : At) (b : ℕ) (old new : Standing) (before after : Deliveries) (on given : List ℕ) : Type 0 where
  drawn : (d : Drawn) → is_false_at m.plan m.program b m.told.scene ≡ false → IsDelivered m.plan m.told.event b d old new before after
      → given ≡ with_on (is_observed m.plan b && is_on d) b on → IsOffered m b old new before after on given
  refused : is_false_at m.plan m.program b m.told.scene ≡ true → IsLeftOut m.told.event.number b old new
      → after ≡ before → given ≡ on → IsOffered m b old new before after on given
  swept : IsSwept b old new → after ≡ before → given ≡ on → IsOffered m b old new before after on given

-- those of a load that are left from a number on
abbrev pub left_from : (ℕ → Bool) → ℕ → ℕ → Bool
left_from has from c = has c && nat_le from c

-- those of them that are to be served, since no condition stands against it
abbrev pub left_for : At → (ℕ → Bool) → ℕ → ℕ → Bool
left_for m has from c = left_from has from c && is_met_by m.plan m.program c m.told

-- there is room to serve all that the load of the event's node held
pub record IsAmple (m : At) (has : ℕ → Bool) (s : Standing) (kept : Deliveries) : Type 0 where
  pub node_in : m.told.event.node < s.nodes
  pub is_open : s.ended ≡ false
  pub table : s.table ≡ table_of m.plan m.program
  pub rows : length s.table.rows ≤ 4096
  pub count : length kept.logs.items ≡ length s.table.rows
  pub matching : (c : ℕ) → has c ≡ true → in_row s.table c m.told.event.node ≡ true
  pub within : (c : ℕ) → has c ≡ true → c < length s.table.rows
  pub held : (c : ℕ) → s.held c ≡ has c
  pub due : (c : ℕ) → s.due c ≡ has c
  pub last_node : s.last_node ≡ Some m.told.event.node
  pub spare : 2 * length s.table.rows ≤ s.spare
  pub share : 4096 < s.draw_share
  pub cleared : s.cleared + 4096 < 2 ^ 60

-- what is used of that room once all below `from` are served
pub record IsSpent (has : ℕ → Bool) (n from : ℕ) (first s : Standing) (before kept : Deliveries) : Type 0 where
  pub steady : steady_of s ≡ steady_of first
  pub count : length kept.logs.items ≡ length before.logs.items
  pub context : kept.context ≡ before.context
  pub held : s.held ≡ first.held
  pub due : (c : ℕ) → s.due c ≡ left_from has from c
  pub last_node : s.last_node ≡ first.last_node
  pub spare : first.spare ≤ s.spare + 2 * from
  pub share : first.draw_share ≤ s.draw_share + from
  pub cleared : s.cleared ≤ first.cleared + from
  -- whom other events were given to stays
  pub ons : (x : ℕ) → (n == x) ≡ false → ons_at s.sights x ≡ ons_at first.sights x

-- the event is served but for those of the load that are left from a number on
pub record IsOffering (m : At) (start : ℕ → Known) (ts : List Told) (done : List (ℕ × ActResult)) (has : ℕ → Bool) (from : ℕ) (s : Standing) (kept : Deliveries) (on : List ℕ) : Type 0 where
  pub serving : IsServing m.plan m.program kept.context start ts m.told done (left_for m has from) s kept.logs.items
  pub stood : HasReplies done s
  pub seen : kept.seen.items ≡ s.sights
  pub on_is : on ≡ observers_at m.plan s.sights m.told.event.number
  pub bound : list_all (λ x. nat_lt x.binding (length s.table.rows)) s.sights ≡ true
