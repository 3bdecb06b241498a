-- Definition, which public contracts cite.
-- The life of a binding on one context: what it answered at its events there, and what the acts of the context make of it.
use Rattle.std.specs.Prelude.{◌≡◌, ℕ, Bool, true, false, not, ◌&&◌, ◌||◌, nat_lt, nat_le, if◌then◌else◌, List, [], ◌∷◌, map, filter, Option, None, Some}
use Rattle.std.specs.List.{list_all}
use Rattle.pd_board.specs.declared.answers.Drawn.{Drawn}
use Rattle.pd_board.specs.declared.answers.Drawn.TheVariants.{Off}
use Rattle.pd_board.specs.declared.answers.ActResult.{ActResult}
use Rattle.pd_board.specs.Answers.{number_of, is_attach, is_disposal, toggle_count}
use Rattle.pd_board.specs.Order.{says_gone, is_first}

-- ---- answers at events, in order

-- whether a draw gave no number
abbrev pub is_off : Drawn → Bool
is_off Off = true
is_off _ = false

-- it took a number of the binding, be it the place of an entry or a missed one
abbrev pub is_number : Drawn → Bool
is_number d = not (is_off d)

-- the list from its first element on that doesn't pass the test
abbrev pub drop_while : {A : Type 0} → (A → Bool) → List A → List A
drop_while test [] = []
drop_while test (x ∷ xs) = if test x then drop_while test xs else x ∷ xs

-- the draws gave no numbers first, and from some draw on only numbers; each part may be empty
abbrev pub off_then_numbers : List Drawn → Bool
off_then_numbers ds = list_all is_number (drop_while is_off ds)

-- the draws gave numbers first, and from some draw on none; each part may be empty
abbrev pub numbers_then_off : List Drawn → Bool
numbers_then_off ds = list_all is_off (drop_while is_number ds)

-- first Off, then numbers, then Off
abbrev pub is_window : List Drawn → Bool
is_window ds = numbers_then_off (drop_while is_off ds)

-- each number is less than all later ones
abbrev pub rises : List ℕ → Bool
rises [] = true
rises (n ∷ ns) = list_all (nat_lt n) ns && rises ns

-- ---- before and after an event

-- the answers at the binding's events after this one
abbrev pub after : ℕ → List (ℕ × Drawn) → List Drawn
after e moments = map (λ m. m.1) (filter (λ m. nat_lt e m.0) moments)

-- the answers at the binding's events up to this one
abbrev pub up_to : ℕ → List (ℕ × Drawn) → List Drawn
up_to e moments = map (λ m. m.1) (filter (λ m. nat_le m.0 e) moments)

-- whether there is nothing, or what there is passes the test
abbrev pub none_or : {A : Type 0} → Option A → (A → Bool) → Bool
none_or None test = true
none_or (Some x) test = test x

-- whether each number that was taken passes the test
abbrev pub all_numbers : (ℕ → Bool) → List Drawn → Bool
all_numbers test ds = list_all (λ d. none_or (number_of d) test) ds

-- where the act switched the binding on or off at a count: whether each number of these answers passes the test with that count
abbrev pub fits_count : ℕ → (ℕ → ℕ → Bool) → List Drawn → ActResult → Bool
fits_count b test ds r = none_or (toggle_count b r) (λ c. all_numbers (test c) ds)

-- where the first holds, the second does
abbrev pub implies : Bool → Bool → Bool
implies x y = not x || y

-- ---- the life

-- a binding's answers at its events on one context, in order; it was attached before the context began or not, and it is gone at last or not,
-- that is, disposed
pub record IsGivenOn (attached gone : Type 0) (answers : List Drawn) : Type 0 where
  pub window : is_window answers ≡ true
  -- an Off after a number stands only where it is gone
  pub lives : (gone → ⊥) → off_then_numbers answers ≡ true
  -- where it was attached before, every Off stands only there, and all later answers are Off
  pub before : attached → numbers_then_off answers ≡ true
  pub before_lives : attached → (gone → ⊥) → list_all is_number answers ≡ true

-- what the acts of a context, each with the number of its event, make of binding b's answers there, and what the hit that uses it up does (of
-- an answer `last` says whether it is that hit)
pub record IsActedOn (last : Drawn → Bool) (gone : Type 0) (b : ℕ) (moments : List (ℕ × Drawn)) (acts : List (ℕ × ActResult)) : Type 0 where
  -- after an act attached it, with any answer, an Off stands only where it is gone, and all later answers are Off
  pub attached : list_all (λ a. implies (is_attach b a.1) (numbers_then_off (after a.0 moments))) acts ≡ true
  pub attached_lives : (gone → ⊥) → list_all (λ a. implies (is_attach b a.1) (list_all is_number (after a.0 moments))) acts ≡ true
  -- up to the act that attached it first, all are Off
  pub first : list_all (λ a. implies (is_first b a.1) (list_all is_off (up_to a.0 moments))) acts ≡ true
  -- after an act that disposed it or found it disposed, and after the hit that used it up, all are Off
  pub disposed : list_all (λ a. implies (says_gone b a.1) (list_all is_off (after a.0 moments))) acts ≡ true
  pub used_up : list_all (λ m. implies (last m.1) (list_all is_off (after m.0 moments))) moments ≡ true
  -- and from that hit on no act disposes it anew
  pub used_up_once : list_all (λ m. implies (last m.1) (list_all (λ a. implies (nat_le m.0 a.0) (not (is_disposal b a.1))) acts)) moments ≡ true
  -- the count of a switch is above each number up to its event, and at most each later one
  pub counted : list_all (λ a. fits_count b (λ c m. nat_lt m c) (up_to a.0 moments) a.1) acts ≡ true
  pub uncounted : list_all (λ a. fits_count b (λ c m. nat_le c m) (after a.0 moments) a.1) acts ≡ true

-- the life of binding b on one context, which took these numbers of it in order
pub record IsLifeOn (last : Drawn → Bool) (attached gone : Type 0) (b : ℕ) (numbers : List ℕ) (moments : List (ℕ × Drawn)) (acts : List (ℕ × ActResult)) : Type 0 where
  pub given : IsGivenOn attached gone (map (λ m. m.1) moments)
  pub acted : IsActedOn last gone b moments acts
  pub rising : rises numbers ≡ true
