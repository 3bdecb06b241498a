-- The whole record of a context whose answers attach an observer and dispose another: all of the definition holds of it.
use Rattle.std.proofs.Common.{◌≡◌, ℕ, zero, suc, ◌<◌, true, false, if◌then◌else◌, List, [], ◌∷◌, length, refl, ap, arith}
use Rattle.std.proofs.Math.Dec.{eqb-zero-suc}
use Rattle.std.specs.Prelude.{map, ◌==◌, None, slice_index_or}
use Rattle.pd_board.specs.declared.answers.Known.TheVariants.{Fresh, Attached, Disposed}
use Rattle.pd_board.specs.declared.answers.Attach.TheVariants as attaches
use Rattle.pd_board.specs.declared.answers.Dispose.TheVariants as disposes
use Rattle.pd_board.specs.declared.answers.ActResult.TheVariants as acts
use Rattle.pd_board.specs.Standing.{Standing}
use Rattle.pd_filter.specs.Matching.{table_of}
use Rattle.pd_meaning.specs.Meaning.{meaning_of, evaluated}
use Rattle.pd_suspend.specs.declared.suspension.Suspension.{Suspension}
use Rattle.pd_suspend.specs.Answers.{numbers_in}
use Rattle.pd_suspend.specs.declared.context.ContextRecord.{ContextRecord}
use Rattle.pd_record.specs.Logs.{log_of}
use Rattle.pd_record.specs.Life.{rises}
use Rattle.pd_record.specs.Seen.{enters_of, enters_to}
use Rattle.pd_record.specs.Served.{IsServed}
use Rattle.pd_record.specs.Record.{IsRecord, IsReplied}
use Rattle.pd_record.proofs.Rows.Acts.{program, plan, ran, seen, stops, done}
use Rattle.pd_record.proofs.ActsLaws.{in_order_all}

-- binding 0 was attached before the run
abbrev start : Standing
start = record {
  table = table_of plan program;
  nodes = 11;
  sessions = 1;
  contexts = 1;
  alone = true;
  replies = acts.Attached 0 attaches.Attached ∷ [];
  sights = [];
  sight_loads = [];
  passes = [];
  known = λ b. if b == 0 then Attached else Fresh;
  numbers = λ s. [];
  draw_share = 1000;
  answer_share = λ s. 1000;
  end_share = 1;
  ended = false;
  loads = λ n. 0;
  all_loads = 0;
  answer_loads = λ s. 0;
  last_answers = λ s. 0;
  end_loads = 0;
  last_ends = 0;
  cleared = 0;
  spare = 0;
  last_node = None;
  held = λ b. false;
  due = λ b. false;
}

-- the end of the first call is passed, after the loads of the nodes entered so far
abbrev now : Standing
now = record start {
  replies = acts.Attached 0 attaches.Attached ∷ acts.Attached 1 attaches.Attached ∷ acts.Disposed 0 (disposes.Disposed 1) ∷ [];
  sights = seen;
  sight_loads = map (λ s. enters_to s.event ran.events) seen;
  passes = record { event = 14; binding = 0; disposed = true; before = enters_to 14 ran.events } ∷ [];
  known = λ b. if b == 0 then Disposed else if b == 1 then Attached else Fresh;
  numbers = λ s. numbers_in s stops;
  loads = λ n. enters_of n ran.events;
}

abbrev r : ContextRecord
r = record {
  output = ran.output;
  «end» = ran.finish;
  used = ran.used;
  events = length ran.events;
  logs = log_of 0 plan program seen ran.events 0 ∷ log_of 0 plan program seen ran.events 1 ∷ [];
  seen = seen;
  stops = stops;
}

disposed_fresh : Disposed ≡ Fresh → ⊥
disposed_fresh e = cc

disposed_attached : Disposed ≡ Attached → ⊥
disposed_attached e = cc

attached_fresh : Attached ≡ Fresh → ⊥
attached_fresh e = cc

fresh_attached : Fresh ≡ Attached → ⊥
fresh_attached e = cc

false_true : false ≡ true → ⊥
false_true e = cc

false_below : (b : ℕ) → suc (suc b) < 2 → ⊥
false_below b h = omega (arith, h)

served_0 : IsServed plan program 0 Attached now (log_of 0 plan program seen ran.events 0) ran.events done 0
unfolding meaning_of evaluated
served_0 = record {
  log_is = refl;
  life = record { given = record { window = refl; lives = λ h. absurd (h refl); before = λ e. refl; before_lives = λ e h. absurd (h refl) }; fresh = λ e. absurd (disposed_fresh e); forward = omega arith };
  acted = record { on = record { attached = refl; attached_lives = λ h. refl; first = refl; disposed = refl; used_up = refl; used_up_once = refl; counted = refl; uncounted = refl }; disposed_known = λ e. refl; used_up_known = λ e. refl; turns = in_order_all 0 (map (λ a. a.1) done) refl };
  rising = refl;
  none = λ e. absurd (disposed_fresh e);
  ends = refl;
}

served_1 : IsServed plan program 0 Fresh now (log_of 0 plan program seen ran.events 1) ran.events done 1
unfolding meaning_of evaluated
served_1 = record {
  log_is = refl;
  life = record { given = record { window = refl; lives = λ h. refl; before = λ e. absurd (fresh_attached e); before_lives = λ e h. absurd (fresh_attached e) }; fresh = λ e. absurd (attached_fresh e); forward = omega arith };
  acted = record { on = record { attached = refl; attached_lives = λ h. refl; first = refl; disposed = refl; used_up = refl; used_up_once = refl; counted = refl; uncounted = refl }; disposed_known = λ e. absurd (false_true e); used_up_known = λ e. absurd (false_true e); turns = in_order_all 1 (map (λ a. a.1) done) refl };
  rising = refl;
  none = λ e. absurd (attached_fresh e);
  ends = refl;
}

served_all : (b : ℕ) → b < 2 → IsServed plan program 0 (start.known b) now (slice_index_or r.logs b []) ran.events done b
unfolding meaning_of evaluated
served_all zero h = served_0
served_all (suc zero) h = served_1
served_all (suc (suc b)) h = absurd (false_below b h)

all_of_0 : List Suspension → Type 0
all_of_0 [] = Unit {0}
all_of_0 (x ∷ xs) = (x.session ≡ 0) × all_of_0 xs

none_of : (s : ℕ) (xs : List Suspension) → all_of_0 xs → numbers_in (suc s) xs ≡ []
unfolding all_of_0
none_of s [] h = refl
none_of s (x ∷ xs) h = rw (h.0, eqb-zero-suc s) (none_of s xs h.1)

rises_for : (s : ℕ) → rises (numbers_in s stops) ≡ true
unfolding meaning_of evaluated all_of_0
rises_for zero = refl
rises_for (suc s) = ap rises (none_of s stops (refl, (refl, tt)))

whole : IsRecord plan program 2 1000000 0 start now r
unfolding meaning_of evaluated
whole = record {
  run = record { output = refl; «end» = refl; used = refl; events = refl };
  observed = record {
    seen = refl;
    sights = record { order = refl; subjects = refl; loads = λ n. refl; loads_before = refl; passes = refl };
    count = refl;
    served = served_all;
  };
  stopped = record { stops = refl; numbers = λ s. refl; rising = rises_for };
}

replied : IsReplied plan start now ran.events r
unfolding meaning_of evaluated
replied = record { grown = acts.Attached 1 attaches.Attached ∷ acts.Disposed 0 (disposes.Disposed 1) ∷ []; replies = refl; each = (refl, (refl, tt)) }
