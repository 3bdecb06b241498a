-- Definition, which public contracts cite.
-- How what a token keeps in memory goes with the view of its pass.
use Rattle.std.specs.Prelude.{◌≡◌, ℕ, ◌<◌, ◌≤◌, ◌==◌, ◌&&◌, ◌^◌, eqb, Bool, true, false, if◌then◌else◌, List, [], ◌∷◌, length, slice_index, map, Option, Some, None}
use Rattle.std.specs.List.{filter_map}
use Rattle.std.specs.Bool.{beq}
use Rattle.pd_board.specs.declared.answers.Known.{Known}
use Rattle.pd_board.specs.declared.answers.Known.TheVariants as knowns
use Rattle.pd_board.specs.declared.answers.Drawn.{Drawn}
use Rattle.pd_board.specs.declared.answers.Drawn.TheVariants as drawns
use Rattle.pd_board.specs.declared.answers.Attach.{Attach}
use Rattle.pd_board.specs.declared.answers.Attach.TheVariants as attaches
use Rattle.pd_board.specs.declared.answers.Dispose.{Dispose}
use Rattle.pd_board.specs.declared.answers.Dispose.TheVariants as disposes
use Rattle.pd_board.specs.declared.answers.Toggle.{Toggle}
use Rattle.pd_board.specs.declared.answers.Toggle.TheVariants as toggles
use Rattle.pd_board.specs.declared.answers.ActResult.{ActResult}
use Rattle.pd_board.specs.declared.answers.ActResult.TheVariants as acts
use Rattle.pd_board.specs.declared.answers.Sight.{Sight}
use Rattle.pd_board.specs.Answers.{has_disposal}
use Rattle.pd_board.specs.Kept.{EachAfter}
use Rattle.pd_board.specs.Order.{has_gone, IsInOrder}
use Rattle.pd_core.specs.declared.view.View.{View}
use Rattle.pd_core.specs.declared.view.Talk.{Talk}
use Rattle.pd_core.specs.declared.view.Deeds.{Deeds}
use Rattle.pd_core.specs.declared.view.Drawn.{Drawn as Gave}
use Rattle.pd_core.specs.declared.view.Drawn.TheVariants.{On, Missed, Off}
use Rattle.pd_core.specs.declared.view.Sight.{Sight as Seen}
use Rattle.pd_core.specs.declared.view.Toggle.{Toggle as Turned}
use Rattle.pd_core.specs.Layout.{Layout, bindings}
use Rattle.pd_core.specs.Words.{attached, disposed, off, sum_in}
use Rattle.pd_core.specs.Counts.{total, first_is}
use Rattle.pd_core.specs.Talks.{spent, readings, end_readings}
use Rattle.pd_core.specs.Good.{Ordered}
use Rattle.pd_core.specs.Views.{Known as Found, fresh, found_attached, found_disposed, known}
use Rattle.pd_board.specs.Journal.{Entries}
use Rattle.pd_shared.specs.declared.token.Reads.{Reads}
use Rattle.pd_shared.specs.Book.{Book, known_at, reads_at}

-- ---- the words of the view in those of a board

-- what the board says of a binding of which the view knows this
abbrev pub told : Found → Known
told fresh = knowns.Fresh
told found_attached = knowns.Attached
told found_disposed = knowns.Disposed

-- the answer of a draw with this outcome
abbrev pub drawn_of : Gave → Drawn
drawn_of (On n) = drawns.On n
drawn_of (Missed n) = drawns.Missed n
drawn_of Off = drawns.Off

-- the entry of a draw that the view keeps
abbrev pub sight_of : Seen → Sight
sight_of s = record { event = s.event; binding = s.binding; drawn = drawn_of s.drawn }

-- how many nodes had been loaded before the draw
abbrev pub before_of : Seen → ℕ
before_of s = s.before

-- the answer of a toggle, by the word that it found
abbrev pub toggle_as : Bool → Bool → ℕ → Toggle
toggle_as gone same n = if gone then toggles.Gone else if same then toggles.Already else toggles.At n

-- the answer of a disable (or an enable) that found the word w
abbrev pub toggle_of : Bool → ℕ → Toggle
toggle_of disables w = toggle_as (disposed w == 1) (beq (off w == 1) disables) (sum_in w)

-- the answer of an attach that found the binding attached or not, and disposed or not
abbrev pub attach_as : Bool → Bool → Attach
attach_as made gone = if made then attaches.Already else if gone then attaches.Gone else attaches.Attached

-- the answer of an attach that found the word w
abbrev pub attach_of : ℕ → Attach
attach_of w = attach_as (attached w == 1) (disposed w == 1)

-- the answer of a dispose that found the word w
abbrev pub dispose_of : ℕ → Dispose
dispose_of w = if disposed w == 1 then disposes.Already else disposes.Disposed (sum_in w)

-- what is known after a step that set it attached
abbrev pub known_set : Known → ℕ → Known
known_set knowns.Disposed w = knowns.Disposed
known_set _ w = if disposed w == 1 then knowns.Disposed else knowns.Attached

-- what is known after a step that switched it on, or off
abbrev pub known_switched : Known → ℕ → Known
known_switched known w = if disposed w == 1 then knowns.Disposed else known

-- the answer of a disable (or an enable) of b, as an act's
abbrev pub act_as : Bool → ℕ → Toggle → ActResult
act_as true b t = acts.Disabled b t
act_as false b t = acts.Enabled b t

-- the answer of an act that the view keeps as a toggle
abbrev pub act_of : Turned → ActResult
act_of t = act_as t.disables t.binding (toggle_of t.disables t.found)

-- ---- what each answer of an act says was done

-- the binding that an act set attached
abbrev pub made_by : ActResult → Option ℕ
made_by (acts.Attached b a) = Some b
made_by _ = None

-- the binding that an act set attached as the first to do so
abbrev pub first_by : ActResult → Option ℕ
first_by (acts.Attached b attaches.Attached) = Some b
first_by (acts.Attached b attaches.Gone) = Some b
first_by _ = None

-- the binding that an act set attached as the first to do so, and found disposed
abbrev pub late_by : ActResult → Option ℕ
late_by (acts.Attached b attaches.Gone) = Some b
late_by _ = None

-- the binding that an act disposed, with its count
abbrev pub count_by : ActResult → Option (ℕ × ℕ)
count_by (acts.Disposed b (disposes.Disposed n)) = Some (b, n)
count_by _ = None

-- the answer of a disable or an enable; none for another act
abbrev pub toggle_by : ActResult → Option ActResult
toggle_by (acts.Enabled b t) = Some (acts.Enabled b t)
toggle_by (acts.Disabled b t) = Some (acts.Disabled b t)
toggle_by _ = None

-- ---- whether no other pass ever stepped beside it

-- whether the pass took in no other
abbrev pub none_taken : List Deeds → Bool
none_taken [] = true
none_taken (d ∷ ds) = false

-- whether the pass has all shares of the seats and took in no other, so that no other ever stepped on the words
abbrev pub is_alone : View → Bool
is_alone v = eqb v.seat_share (2 ^ 32) && none_taken v.taken

-- ---- the parts

-- the list says of each binding what the view knows of it
abbrev pub IsKnown : Layout → View → List Known → Type 0
IsKnown p v known_list = (length known_list ≡ bindings p) × ((b : ℕ) → b < bindings p → known_at known_list b ≡ told (known v b))

-- the sights and the answers of acts are what the pass did, and each answer is one that may come after those before it
pub record AreDeeds (d : Deeds) (e : Entries) : Type 0 where
  pub sights : e.sights ≡ map sight_of d.sights
  pub befores : e.sight_loads ≡ map before_of d.sights
  pub made : d.made ≡ filter_map made_by e.replies
  pub firsts : d.firsts ≡ filter_map first_by e.replies
  pub late : d.late ≡ filter_map late_by e.replies
  pub counts : d.counts ≡ filter_map count_by e.replies
  pub toggles : map act_of d.toggles ≡ filter_map toggle_by e.replies
  pub order : (b : ℕ) → EachAfter (IsInOrder b) e.replies
  -- each toggle counted more than the numbers that the pass drew before it, and at most those that it drew after
  pub timed : (steps : ℕ) × Ordered d steps

-- the reads of the words of sessions and of ended contexts
pub record AreReads (p : Layout) (t : Talk) (ended : Bool) (sessions : List Reads) (ends : Reads) : Type 0 where
  pub ended_is : t.ended ≡ ended
  pub sessions_are : length sessions ≡ p.sessions
  -- it counted at most as many answers as it may
  pub within : (s : ℕ) → s < p.sessions → spent s t ≤ t.granted
  pub loads : (s : ℕ) → s < p.sessions → total (first_is s) t.reads ≡ (reads_at sessions s).loads
  pub last : (s : ℕ) → s < p.sessions → 0 < (reads_at sessions s).last → 0 < readings s (reads_at sessions s).last t
  pub end_loads : length t.end_reads ≡ ends.loads
  pub last_end : 0 < ends.last → 0 < end_readings ends.last t

-- where no other seat ever was, a binding that is known as disposed was disposed by an act of this seat
abbrev pub KnowsAlone : View → List Known → List ActResult → Type 0
KnowsAlone v known_list replies = is_alone v ≡ true → (b : ℕ) → known_at known_list b ≡ knowns.Disposed → has_disposal b replies ≡ true

-- a binding of which an answer of this seat says that it is disposed is known as disposed
abbrev pub KnowsGone : List Known → List ActResult → Type 0
KnowsGone known_list replies = (b : ℕ) → has_gone b replies ≡ true → known_at known_list b ≡ knowns.Disposed

-- what the token keeps in memory is what the view of its pass knows
pub record IsTied (p : Layout) (v : View) (k : Book) : Type 0 where
  pub idle : v.attaching ≡ None
  pub known_is : IsKnown p v k.known
  pub deeds : AreDeeds v.deeds k.entries
  pub reads : AreReads p v.talk k.ended k.sessions k.ends
  pub all_loads : length v.loads ≡ k.all_loads
  pub cleared : length v.cleared ≡ k.cleared
  pub alone : KnowsAlone v k.known k.entries.replies
  -- what its answers say is disposed it knows as disposed
  pub gone : KnowsGone k.known k.entries.replies
  pub loads : (length k.loads ≡ p.nodes) × ((n : ℕ) → slice_index k.loads n ≤ k.all_loads)
