-- Definition, which public contracts cite.
-- What a view knows, and what each step makes of it.
use Rattle.std.specs.Prelude.{◌≡◌, ℕ, zero, suc, ◌+◌, ◌-◌, ◌*◌, ◌/◌, ◌%◌, ◌^◌, List, [], ◌∷◌, ◌++◌, length, eqb, ltb, cond, not, Bool, true, false, ◌==◌, ◌&&◌, Option, Some, None}
use Rattle.pd_core.specs.declared.view.View.{View}
use Rattle.pd_core.specs.declared.view.Sight.{Sight}
use Rattle.pd_core.specs.declared.view.Drawn.{Drawn}
use Rattle.pd_core.specs.declared.view.Drawn.TheVariants.{On, Missed, Off}
use Rattle.pd_core.specs.declared.view.Toggle.{Toggle}
use Rattle.pd_core.specs.declared.view.Deeds.{Deeds}
use Rattle.pd_core.specs.declared.view.Attaching.{Attaching}
use Rattle.pd_core.specs.declared.view.Loaded.{Loaded}
use Rattle.pd_core.specs.declared.view.Talk.{Talk}
use Rattle.pd_core.specs.Layout.{Layout, bindings, row, IsAt}
use Rattle.pd_core.specs.Talks.{silent, first_talk, new_talk, halved_talk, joined_talk}
use Rattle.pd_core.specs.Counts.{total, same, times, first_is, pair_is, once_below, one_if, only_if}
use Rattle.pd_core.specs.Words.{attached, disposed, off, sum_in, bit_of, live}

-- what is known of a binding: nothing, that it is attached, or that it is disposed
pub data Known : Type 0 where
  fresh : Known
  found_attached : Known
  found_disposed : Known

-- what is known where it was found disposed d times and found attached a times
abbrev pub known_of : ℕ → ℕ → Known
known_of (suc d) a = found_disposed
known_of zero (suc a) = found_attached
known_of zero zero = fresh

-- the later of what was found, by the lists of what was found attached and disposed
unfoldable pub known_in : List ℕ → List ℕ → ℕ → Known
known_in on gone b = known_of (times b gone) (times b on)

-- what the view knows of binding b
abbrev pub known : View → ℕ → Known
known v b = known_in v.found_attached v.found_disposed b

-- how many nodes of the row of b the attachment has come past
unfoldable pub past_in : Option Attaching → ℕ → ℕ
past_in None b = 0
past_in (Some a) b = cond (eqb b a.binding) a.past 0

-- whether the bit of b is set at the next node of its attachment while its summary's isn't
unfoldable pub half_in : Option Attaching → ℕ → Bool
half_in None b = false
half_in (Some a) b = eqb b a.binding && a.half

-- how many nodes of the row of b the view's attachment has come past
abbrev pub past_of : View → ℕ → ℕ
past_of v b = past_in v.attaching b

-- the bit of b is set at the next node n, while its summary's isn't
abbrev pub IsHalf : Layout → Option Attaching → ℕ → ℕ → Type 0
IsHalf p a b n = (half_in a b ≡ true) × IsAt p b (past_in a b) n

-- n is the next node of the row of b, and this attachment hasn't set its bit
abbrev pub IsNext : Layout → Option Attaching → ℕ → ℕ → Type 0
IsNext p a b n = (half_in a b ≡ false) × IsAt p b (past_in a b) n

-- the node was loaded last, and its summary had the row
abbrev pub HasRow : Option Loaded → ℕ → ℕ → Type 0
HasRow l n r = (x : Loaded) × (l ≡ Some x) × (x.node ≡ n) × (bit_of x.summary r ≡ 1)

-- the number that a draw gave
abbrev pub number_in : Drawn → Option ℕ
number_in (On x) = Some x
number_in (Missed x) = Some x
number_in Off = None

-- 1 where the number is there and is x, and else 0
abbrev pub at_number : ℕ → Option ℕ → ℕ
at_number x None = 0
at_number x (Some y) = same x y

-- 1 where the draw gave this number of this binding
unfoldable pub gave : ℕ → ℕ → Sight → ℕ
gave b x s = same b s.binding * at_number x (number_in s.drawn)

-- the number that a draw gave, where it was missed
abbrev pub missed_in : Drawn → Option ℕ
missed_in (On x) = None
missed_in (Missed x) = Some x
missed_in Off = None

-- 1 where the draw gave this number of this binding, and that was missed
unfoldable pub missed : ℕ → ℕ → Sight → ℕ
missed b x s = same b s.binding * at_number x (missed_in s.drawn)

-- whether the step changed "off": it found the binding not disposed, and on where it switches it off, and off where on
abbrev pub turns : Bool → ℕ → Bool
turns true w = (disposed w == 0) && (off w == 0)
turns false w = (disposed w == 0) && (off w == 1)

-- whether this toggle changed "off"
abbrev pub did_turn : Toggle → Bool
did_turn t = turns t.disables t.found

-- whether a toggle is of the kind that is asked for: a disable (true) or an enable (false)
abbrev pub is_kind : Bool → Bool → Bool
is_kind true disables = disables
is_kind false disables = not disables

-- 1 where it is a disable (or an enable) of b that changed "off", with a count of at most x
unfoldable pub toggle_upto : Bool → ℕ → ℕ → Toggle → ℕ
toggle_upto kind b x t = same b t.binding * (one_if (is_kind kind t.disables && did_turn t) * once_below (sum_in t.found) (suc x))

-- 1 where it is a disable (or an enable) of this binding, with a count of at least x
unfoldable pub toggle_from : Bool → ℕ → ℕ → Toggle → ℕ
toggle_from kind b x t = same b t.binding * (one_if (is_kind kind t.disables && did_turn t) * once_below x (suc (sum_in t.found)))

-- whether the step found nothing to change, and not "disposed"
abbrev pub already : Bool → ℕ → Bool
already true w = (disposed w == 0) && (off w == 1)
already false w = (disposed w == 0) && (off w == 0)

-- whether this toggle found nothing to change, and not "disposed"
abbrev pub found_so : Toggle → Bool
found_so t = already t.disables t.found

-- 1 where it is a toggle of this binding, with this count
unfoldable pub toggle_at : ℕ → ℕ → Toggle → ℕ
toggle_at b n t = same b t.binding * (one_if (did_turn t) * same n (sum_in t.found))

-- a weight of what one pass did, over all that it did and that was handed to it
unfoldable pub over : (Deeds → ℕ) → Deeds → List Deeds → ℕ
over f own taken = f own + total f taken

-- how often the number x of b was drawn
unfoldable pub drew_number : ℕ → ℕ → Deeds → ℕ
drew_number b x d = total (gave b x) d.sights

-- how often the number x of b was missed
unfoldable pub misses : ℕ → ℕ → Deeds → ℕ
misses b x d = total (missed b x) d.sights

-- how many disables (or enables) of b had counts of at most x
unfoldable pub toggles_upto : Bool → ℕ → ℕ → Deeds → ℕ
toggles_upto on b x d = total (toggle_upto on b x) d.toggles

-- how many disables (or enables) of b had counts of at least x
unfoldable pub toggles_from : Bool → ℕ → ℕ → Deeds → ℕ
toggles_from kind b x d = total (toggle_from kind b x) d.toggles

-- how many toggles of b had the count n
unfoldable pub toggles_at : ℕ → ℕ → Deeds → ℕ
toggles_at b n d = total (toggle_at b n) d.toggles

-- how often b was set attached
unfoldable pub makings : ℕ → Deeds → ℕ
makings b d = times b d.made

-- how often b was set attached by the first to do so
unfoldable pub firsts : ℕ → Deeds → ℕ
firsts b d = times b d.firsts

-- how often b was set attached by the first to do so, and found disposed
unfoldable pub lates : ℕ → Deeds → ℕ
lates b d = times b d.late

-- how many counts of a disposal of b are kept
unfoldable pub disposals : ℕ → Deeds → ℕ
disposals b d = total (first_is b) d.counts

-- how often the count n of a disposal of b is kept
unfoldable pub count_kept : ℕ → ℕ → Deeds → ℕ
count_kept b n d = total (pair_is b n) d.counts

-- a weight of what the pass did and of what was handed to it
abbrev pub of_all : (Deeds → ℕ) → View → ℕ
of_all f v = over f v.deeds v.taken

-- the outcome of a draw of b, as a list; empty for a draw of another binding
abbrev pub if_of : ℕ → Sight → List (Option ℕ)
if_of b s = only_if (b == s.binding) (number_in s.drawn)

-- the outcomes of the draws of b, in order: their numbers, and none where there was none
unfoldable pub outcomes : ℕ → List Sight → List (Option ℕ)
outcomes b [] = []
outcomes b (s ∷ ss) = if_of b s ++ outcomes b ss

-- nothing was done
abbrev pub no_deeds : Deeds
no_deeds = record { sights = []; made = []; firsts = []; late = []; counts = []; toggles = [] }

-- the view of a seat that was joined away, with nothing in it
abbrev pub spent_view : View
spent_view = record { seat_share = 0; draw_share = 0; found_attached = []; found_disposed = []; deeds = no_deeds; taken = []; attaching = None; loads = []; loaded = None; cleared = []; talk = silent; steps = 0; last = record { word = 0; operand = 0; second = 0; found = 0 } }

-- the first pass has all shares
abbrev pub first_view : View
first_view = record spent_view { seat_share = 2 ^ 32; draw_share = 2 ^ 60; talk = first_talk }

-- a draw of b at the event, by this view
abbrev pub sight : ℕ → ℕ → Drawn → View → Sight
sight event b o v = record { event = event; binding = b; drawn = o; before = length v.loads; step = v.steps }

-- what a draw gives, by whether the binding is live, whether it is off, and its sum
abbrev pub outcome : Bool → Bool → ℕ → Drawn
outcome true true n = Missed n
outcome true false n = On n
outcome false _ n = Off

-- a draw of b, which found it live or not, and off or not, with this sum
abbrev pub drew_as : Bool → Bool → ℕ → ℕ → ℕ → View → View
drew_as on is_off event b sum v = record v {
  draw_share = v.draw_share - 1;
  found_disposed = v.found_disposed ++ only_if (not on) b;
  deeds = record v.deeds { sights = v.deeds.sights ++ sight event b (outcome on is_off sum) v ∷ [] };
}

-- b was looked at, and found live or not, and disposed or not
abbrev pub looked_as : Bool → Bool → ℕ → ℕ → View → View
looked_as on gone event b v = record v {
  found_attached = v.found_attached ++ only_if on b;
  found_disposed = v.found_disposed ++ only_if gone b;
  deeds = record v.deeds { sights = v.deeds.sights ++ only_if (not on) (sight event b Off v) };
}

-- a disposal of b, which was the first or not, with this sum
abbrev pub disposed_as : Bool → ℕ → ℕ → View → View
disposed_as first b sum v = record v {
  found_disposed = v.found_disposed ++ b ∷ [];
  deeds = record v.deeds { counts = v.deeds.counts ++ only_if first (b, sum) };
}

-- b was set attached: this was the first to do so or not, and found it disposed or not. No attachment is under way then
abbrev pub set_as : Bool → Bool → ℕ → View → View
set_as first gone b v = record v {
  found_attached = v.found_attached ++ b ∷ [];
  found_disposed = v.found_disposed ++ only_if gone b;
  deeds = record v.deeds { made = v.deeds.made ++ b ∷ []; firsts = v.deeds.firsts ++ only_if first b; late = v.deeds.late ++ only_if (first && gone) b };
  attaching = None;
}

-- the bit of b was set at the next node of its row
abbrev pub marked : ℕ → View → View
marked b v = record v { attaching = Some (record { binding = b; past = past_of v b; half = true }) }

-- and then that of its row in the summary
abbrev pub further : Option Attaching → Option Attaching
further None = None
further (Some a) = Some (record a { past = a.past + 1; half = false })

-- the view after the bit in the summary was set: the attachment has come past the node
abbrev pub summed : View → View
summed v = record v { attaching = further v.attaching }

-- the bit of b was cleared at the node n
abbrev pub swept : ℕ → ℕ → View → View
swept n b v = record v { cleared = v.cleared ++ (n, b) ∷ [] }

-- the numbers below n that pass the test, rising
abbrev pub gather : (ℕ → Bool) → ℕ → List ℕ
gather test zero = []
gather test (suc n) = gather test n ++ only_if (test n) n

-- whether it is known as attached, and not as disposed
abbrev pub is_found_attached : Known → Bool
is_found_attached found_attached = true
is_found_attached _ = false

-- the binding is of the row word r, matches the node, is known as attached, and has no bit in the word
abbrev pub is_missing : Layout → ℕ → ℕ → ℕ → View → ℕ → Bool
is_missing p n r w v b = (b / 64 == r) && (ltb 0 (times n (row p b)) && ((bit_of w (b % 64) == 0) && is_found_attached (known v b)))

-- the node n was loaded, with the summary w
abbrev pub loaded : ℕ → ℕ → View → View
loaded n w v = record v { loads = v.loads ++ n ∷ []; loaded = Some (record { node = n; summary = w; rows = [] }) }

-- the row word r of the node n was loaded
abbrev pub with_row : ℕ → ℕ → Option Loaded → Option Loaded
with_row r w None = None
with_row r w (Some l) = Some (record l { rows = l.rows ++ (r, w) ∷ [] })

-- the view after the row word r of node n was loaded, and was w: bindings whose bits are missing there are disposed
abbrev pub row_loaded : Layout → ℕ → ℕ → ℕ → View → View
row_loaded p n r w v = record v { found_disposed = v.found_disposed ++ gather (is_missing p n r w v) (bindings p); loaded = with_row r w v.loaded }

-- b was switched off (or on), which found it disposed or not, and this word
abbrev pub toggled_as : Bool → Bool → ℕ → ℕ → View → View
toggled_as disables gone b w v = record v {
  found_disposed = v.found_disposed ++ only_if gone b;
  deeds = record v.deeds { toggles = v.deeds.toggles ++ record { binding = b; disables = disables; found = w; step = v.steps } ∷ [] };
}

-- the same, by the word found
abbrev pub drew : ℕ → ℕ → ℕ → View → View
drew event b w v = drew_as (live w) (off w == 1) event b (sum_in w) v

-- the view after a load of the word of b, which was w
abbrev pub looked : ℕ → ℕ → ℕ → View → View
looked event b w v = looked_as (live w) (disposed w == 1) event b v

-- the view after "disposed" was set in the word of b, which was w
abbrev pub disposed_of : ℕ → ℕ → View → View
disposed_of b w v = disposed_as (disposed w == 0) b (sum_in w) v

-- the view after "attached" was set in the word of b, which was w
abbrev pub set_of : ℕ → ℕ → View → View
set_of b w v = set_as (attached w == 0) (disposed w == 1) b v

-- the view after b was switched off (or on), where its word was w
abbrev pub toggled : Bool → ℕ → ℕ → View → View
toggled disables b w v = toggled_as disables (disposed w == 1) b w v

-- a step on the words of sessions or of ended contexts
abbrev pub spoke : Talk → View → View
spoke t v = record v { talk = t }

-- what the view knows of answers and ended contexts
abbrev pub talk_of : View → Talk
talk_of v = v.talk

-- a step is counted, and its word, its two operands and what it found there are kept
abbrev pub noted_with : ℕ → ℕ → ℕ → ℕ → View → View
noted_with word operand second found v = record v { steps = v.steps + 1; last = record { word = word; operand = operand; second = second; found = found } }

-- the same of a step with one operand, which leaves of its word what that makes of it
abbrev pub noted : ℕ → ℕ → ℕ → View → View
noted word operand found v = noted_with word operand 0 found v

-- what a split hands of the draws
abbrev pub handed_share : ℕ
handed_share = 2 ^ 38

-- the view of the pass that is split: it hands on some shares
abbrev pub halved : View → View
halved v = record v { seat_share = v.seat_share - 1; draw_share = v.draw_share - handed_share; talk = halved_talk v.talk; steps = v.steps + 1 }

-- the view of the new pass of a split: what the old one knows, and the shares that are handed on
abbrev pub newcomer : View → View
newcomer v = record spent_view { seat_share = 1; draw_share = handed_share; talk = new_talk; found_attached = v.found_attached; found_disposed = v.found_disposed }

-- the view that takes in another
abbrev pub joined : View → View → View
joined v w = record v {
  seat_share = v.seat_share + w.seat_share;
  draw_share = v.draw_share + w.draw_share;
  found_attached = v.found_attached ++ w.found_attached;
  found_disposed = v.found_disposed ++ w.found_disposed;
  taken = v.taken ++ (w.deeds ∷ w.taken);
  talk = joined_talk v.talk w.talk;
  steps = v.steps + 1;
}
