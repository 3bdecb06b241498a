-- Definition, which public contracts cite.
-- What the lists of a board say of one binding's life, where no other thread steps on its words.
use Rattle.std.specs.Prelude.{◌≡◌, ℕ, zero, suc, ◌+◌, ◌<◌, ◌≤◌, ◌==◌, ◌&&◌, ◌||◌, not, nat_le, take, Bool, true, false, if◌then◌else◌, List, [], ◌∷◌, ◌++◌, length, slice_index_or, count_by, Option, Some, None}
use Rattle.std.specs.List.{All, filter_map, fold}
use Rattle.std.specs.Option.{ForSome}
use Rattle.pd_board.specs.declared.answers.Drawn.{Drawn}
use Rattle.pd_board.specs.declared.answers.Drawn.TheVariants as drawns
use Rattle.pd_board.specs.declared.answers.Attach.{Attach}
use Rattle.pd_board.specs.declared.answers.Attach.TheVariants as attaches
use Rattle.pd_board.specs.declared.answers.Dispose.{Dispose}
use Rattle.pd_board.specs.declared.answers.Dispose.TheVariants as disposes
use Rattle.pd_board.specs.declared.answers.Toggle.{Toggle}
use Rattle.pd_board.specs.declared.answers.Toggle.TheVariants as toggles
use Rattle.pd_board.specs.declared.answers.ActResult.{ActResult}
use Rattle.pd_board.specs.declared.answers.ActResult.TheVariants as acts
use Rattle.pd_board.specs.declared.answers.Sight.{Sight}
use Rattle.pd_board.specs.declared.life.Life.{Life}
use Rattle.pd_board.specs.Life.{untouched}
use Rattle.pd_board.specs.Answers.{number_in, NumbersBelow, has_attach, has_attachment, has_dispose, has_disposal, disposal, toggle_count, TogglesUpTo}

-- the numbers below n, rising
abbrev pub upto : ℕ → List ℕ
upto zero = []
upto (suc n) = upto n ++ n ∷ []

-- the numbers that the sights took of the binding, in order
abbrev pub numbers_of : ℕ → List Sight → List ℕ
numbers_of b sights = filter_map (number_in b) sights

-- whether the answer is one of a disable of b that changed it, with a count of at most n
abbrev pub disables_upto : ℕ → ℕ → ActResult → Bool
disables_upto b n (acts.Disabled c (toggles.At m)) = c == b && nat_le m n
disables_upto b n _ = false

-- whether the answer is one of an enable of b that changed it, with a count of at most n
abbrev pub enables_upto : ℕ → ℕ → ActResult → Bool
enables_upto b n (acts.Enabled c (toggles.At m)) = c == b && nat_le m n
enables_upto b n _ = false

-- whether the number n of the binding is missed: how many more disables than enables have a count of at most n
abbrev pub IsMissed : ℕ → ℕ → Bool → List ActResult → Type 0
IsMissed b n missed replies = count_by (disables_upto b n) replies ≡ count_by (enables_upto b n) replies + (if missed then 1 else 0)

-- the number that a draw gave where it is the place of an entry
abbrev pub place_of : Drawn → Option ℕ
place_of (drawns.On p) = Some p
place_of _ = None

-- the number that a draw gave where it gave no entry
abbrev pub missed_of : Drawn → Option ℕ
missed_of (drawns.Missed p) = Some p
missed_of _ = None

-- where the sight is one of the binding, its number is a place or missed as the toggles say
pub record FitsToggles (b : ℕ) (replies : List ActResult) (s : Sight) : Type 0 where
  pub place : s.binding ≡ b → ForSome (place_of s.drawn) (λ p. IsMissed b p false replies)
  pub missed : s.binding ≡ b → ForSome (missed_of s.drawn) (λ p. IsMissed b p true replies)

-- ---- what each answer follows from

-- P of each entry and the entries before it
abbrev pub EachAfter : {X : Type 0} → (List X → X → Type 0) → List X → Type 0
EachAfter {X} P xs = (k : ℕ) (d : X) → k < length xs → P (take k xs) (slice_index_or xs k d)

-- whether b is switched off after one more answer, where it was so before or not
abbrev pub off_by : ℕ → Bool → ActResult → Bool
off_by b off (acts.Disabled c (toggles.At n)) = if c == b then true else off
off_by b off (acts.Enabled c (toggles.At n)) = if c == b then false else off
off_by b off _ = off

-- whether b is switched off after these answers
abbrev pub last_off : ℕ → List ActResult → Bool
last_off b replies = fold (off_by b) false replies

-- whether an attach answers so: `Already` where there was one before, `Gone` where there was only a dispose
abbrev pub attach_follows : Bool → Bool → Attach → Bool
attach_follows attached disposed attaches.Attached = not attached && not disposed
attach_follows attached disposed attaches.Already = attached
attach_follows attached disposed attaches.Gone = not attached && disposed

-- whether a dispose answers so: `Already` where there was one before
abbrev pub dispose_follows : Bool → Dispose → Bool
dispose_follows disposed (disposes.Disposed n) = not disposed
dispose_follows disposed disposes.Already = disposed

-- whether a toggle answers so: `Gone` where there was a dispose before, and else `Already` where it is so already
abbrev pub switch_follows : Bool → Bool → Toggle → Bool
switch_follows disposed so (toggles.At n) = not disposed && not so
switch_follows disposed so toggles.Already = not disposed && so
switch_follows disposed so toggles.Gone = disposed

-- whether the answer, where it is of an act on the binding, is the one after these answers
abbrev pub follows : ℕ → List ActResult → ActResult → Bool
follows b before (acts.Attached c a) = not (c == b) || attach_follows (has_attach b before) (has_dispose b before) a
follows b before (acts.Disposed c a) = not (c == b) || dispose_follows (has_dispose b before) a
follows b before (acts.Enabled c a) = not (c == b) || switch_follows (has_dispose b before) (not (last_off b before)) a
follows b before (acts.Disabled c a) = not (c == b) || switch_follows (has_dispose b before) (last_off b before) a

-- r is an answer that an act on b may get after these answers
abbrev pub IsAnswer : ℕ → List ActResult → ActResult → Type 0
IsAnswer b before r = follows b before r ≡ true

-- a toggle found at least as many numbers as each toggle before it
abbrev pub IsLater : ℕ → List ActResult → ActResult → Type 0
IsLater b before r = ForSome (toggle_count b r) (λ n. TogglesUpTo b n before)

-- the lists tell this life of the binding
pub record Tells (b : ℕ) (s : Life) (sights : List Sight) (replies : List ActResult) : Type 0 where
  pub attached : has_attach b replies ≡ s.attached
  pub disposed : has_dispose b replies ≡ s.disposed
  pub disposals : has_disposal b replies ≡ s.disposed
  -- while it isn't disposed, an attach attached it; and so it is where it has numbers
  pub attachment : s.disposed ≡ false → has_attachment b replies ≡ s.attached
  pub numbered : 0 < s.count → has_attachment b replies ≡ true
  -- the numbers are those below the count, each once and rising, and none without an attach
  pub numbers : numbers_of b sights ≡ upto s.count
  pub below : NumbersBelow b s.count sights
  pub unattached : s.attached ≡ false → s.count ≡ 0
  -- the disposal found that count
  pub final : All (λ r. ForSome (disposal b r) (λ n. (s.disposed ≡ true) × (n ≡ s.count))) replies
  -- each toggle found at most that count, and the numbers are places or missed by them
  pub counted : TogglesUpTo b s.count replies
  pub off : (n : ℕ) → s.count ≤ n → IsMissed b n s.off replies
  pub toggled : All (FitsToggles b replies) sights
  pub rising : EachAfter (IsLater b) replies
  -- and each answer is the one that follows from those before it
  pub switched : last_off b replies ≡ s.off
  pub history : EachAfter (IsAnswer b) replies

-- the life of binding b; untouched where there is none
abbrev pub life_at : List Life → ℕ → Life
life_at lives b = slice_index_or lives b untouched

-- the lists tell the life of each binding
abbrev pub TellsAll : List Life → List Sight → List ActResult → Type 0
TellsAll lives sights replies = (b : ℕ) → b < length lives → Tells b (life_at lives b) sights replies
