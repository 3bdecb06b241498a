-- What a board of one thread keeps from one call to the next.
use Rattle.std.proofs.Common.{◌≡◌, ◌≢◌, ℕ, zero, suc, ◌+◌, ◌-◌, ◌<◌, ◌≤◌, ◌^◌, ◌==◌, ◌&&◌, ◌||◌, not, Bool, true, false, if◌then◌else◌, List, [], ◌∷◌, ◌++◌, length, get_or-set_other, replicate, take, slice_set, slice_index_or, inl, inr, sym, ◌∙◌, ap, refl, arith, subst}
use Rattle.std.proofs.lemmas.Bool.{cases_Bool, or_cases}
use Rattle.std.proofs.lemmas.Grind.{common_steps, get_or-set_at}
use Rattle.std.proofs.lemmas.List.Elements.{All-append}
use Rattle.std.specs.List.{All, list_any}
use Rattle.pd_plan.specs.declared.table.MatchTable.{MatchTable}
use Rattle.pd_board.specs.declared.answers.ActResult.{ActResult}
use Rattle.pd_board.specs.declared.answers.Attach.{Attach}
use Rattle.pd_board.specs.declared.answers.Attach.TheVariants as attaches
use Rattle.pd_board.specs.declared.answers.Drawn.{Drawn}
use Rattle.pd_board.specs.declared.answers.Sight.{Sight}
use Rattle.pd_board.specs.declared.bits.NodeBits.{NodeBits}
use Rattle.pd_board.specs.declared.life.Life.{Life}
use Rattle.pd_board.specs.Life as life
use Rattle.pd_board.specs.NodeBits.{stands}
use Rattle.pd_board.specs.Kept.{life_at, Tells, TellsAll, FitsToggles, upto}
use Rattle.pd_board.specs.Standing.{in_row}
use Rattle.pd_board.specs.Bound.{IsWithin, OnlyInRows, LiveStand}
use Rattle.pd_board.specs.Answers.{number_in, disposal, toggle_count}
use Rattle.pd_board.specs.Sessions.{unread, word_at, IsRead, HasShares}
use Rattle.pd_board.specs.declared.session.SessionWord.{SessionWord}
use Rattle.std.specs.Option.{ForSome}
use Rattle.pd_board.proofs.ChainLemmas.{by_eq}
use Rattle.pd_board.proofs.KeptLemmas.{Replies, upto-more}
use Rattle.pd_board.proofs.TellLemmas.{tells_draw}

-- the life that was read at a place is the one that stands there
pub life_read : (lives : List Life) (b : ℕ) (was : Life) → b < length lives → was ≡ slice_index_or lives b was → life_at lives b ≡ was
life_read lives b was within read = grind (arith, common_steps)

-- ---- lives and shares

at_same : (lives : List Life) (b c : ℕ) (new : Life) → c ≡ b → b < length lives → life_at (slice_set lives b new) c ≡ new
at_same lives b c new e within = get_or-set_at lives b c new life.untouched e within

at_other : (lives : List Life) (b c : ℕ) (new : Life) → c ≢ b → life_at (slice_set lives b new) c ≡ life_at lives c
at_other lives b c new e = get_or-set_other lives b c new life.untouched e

pub shares_set : (lives : List Life) (b : ℕ) (new : Life) (left left' : ℕ) → b < length lives → new.count + left' ≤ 2 ^ 60 → left' ≤ left
    → HasShares lives left → HasShares (slice_set lives b new) left'
shares_set lives b new left left' within own less shares c = by_eq c b
    (λ (e : c ≡ b). let h = ap (λ (s : Life). s.count) (at_same lives b c new e within) in omega arith)
    (λ (e : c ≢ b). let h = ap (λ (s : Life). s.count) (at_other lives b c new e) in let g = shares c in omega arith)

-- ---- bits

by_or : {P : Type 0} (x y : Bool) → (x || y) ≡ true → (x ≡ true → P) → (y ≡ true → P) → P
by_or {P} x y e left right = elim (or_cases x y e) as (λ _. P) [ inl h ↦ left h | inr h ↦ right h ]

pub live_set : (bits : NodeBits) (table : MatchTable) (lives : List Life) (b : ℕ) (new : Life) → b < length lives
    → (life.live new ≡ true → life.live (life_at lives b) ≡ true) → LiveStand bits table lives → LiveStand bits table (slice_set lives b new)
live_set bits table lives b new within was stand c n = by_eq c b
    (λ (e : c ≡ b) alive row. subst (λ (k : ℕ). stands bits n k ≡ true) (sym e)
    (stand b n (was (subst (λ (s : Life). life.live s ≡ true) (at_same lives b c new e within) alive)) (subst (λ (k : ℕ). in_row table k n ≡ true) e row)))
    (λ (e : c ≢ b) alive row. stand c n (subst (λ (s : Life). life.live s ≡ true) (at_other lives b c new e) alive) row)

-- after an attach the binding's bit is at each node of its row
pub live_attach : (bits bits' : NodeBits) (table : MatchTable) (lives : List Life) (b : ℕ) (new : Life) (row : List ℕ) → b < length lives
    → row ≡ slice_index_or table.rows b []
    → ((m c : ℕ) → stands bits' m c ≡ ((list_any (λ n. n == m) row && c == b) || stands bits m c))
    → LiveStand bits table lives → LiveStand bits' table (slice_set lives b new)
live_attach bits bits' table lives b new row within is set stand c n = by_eq c b
    (λ (e : c ≡ b) alive matched.
    let here : list_any (λ m. m == n) row ≡ true = ap (λ r. list_any (λ m. m == n) r) is ∙ subst (λ (k : ℕ). in_row table k n ≡ true) e matched in
    set n c ∙ grind arith)
    (λ (e : c ≢ b) alive matched.
    let before : stands bits n c ≡ true = stand c n (subst (λ (s : Life). life.live s ≡ true) (at_other lives b c new e) alive) matched in
    set n c ∙ grind arith)

pub only_attach : (bits bits' : NodeBits) (table : MatchTable) (b : ℕ) (row : List ℕ) → row ≡ slice_index_or table.rows b []
    → ((m c : ℕ) → stands bits' m c ≡ ((list_any (λ n. n == m) row && c == b) || stands bits m c))
    → OnlyInRows bits table → OnlyInRows bits' table
only_attach bits bits' table b row is set only n c there = by_eq c b
    (λ (e : c ≡ b).
    let here : in_row table c n ≡ list_any (λ m. m == n) row = ap (λ k. in_row table k n) e ∙ sym (ap (λ r. list_any (λ m. m == n) r) is) in
    by_or (list_any (λ m. m == n) row && c == b) (stands bits n c) (sym (set n c) ∙ there)
    (λ (h : (list_any (λ m. m == n) row && c == b) ≡ true). here ∙ grind arith)
    (λ (h : stands bits n c ≡ true). only n c h))
    (λ (e : c ≢ b). only n c (let h = set n c in grind arith))

pub only_clear : (bits bits' : NodeBits) (table : MatchTable) (n b : ℕ) → ((m c : ℕ) → stands bits' m c ≡ (not (m == n && c == b) && stands bits m c))
    → OnlyInRows bits table → OnlyInRows bits' table
only_clear bits bits' table n b clear only m c there = only m c (let h = clear m c in grind arith)

-- a bit of a binding that isn't live may go
pub live_clear : (bits bits' : NodeBits) (table : MatchTable) (lives : List Life) (n b : ℕ) → ((m c : ℕ) → stands bits' m c ≡ (not (m == n && c == b) && stands bits m c))
    → life.live (life_at lives b) ≡ false → LiveStand bits table lives → LiveStand bits' table lives
live_clear bits bits' table lives n b clear dead stand c m alive matched = by_eq c b
    (λ (e : c ≡ b). absurd (cc (ap (λ k. life.live (life_at lives k)) e, dead, alive)))
    (λ (e : c ≢ b). let h = clear m c in let before = stand c m alive matched in grind arith)

-- ---- answers and draws in the lists

pub replies_at : (b : ℕ) (s was new made : Life) (r : ActResult) → s ≡ was → new ≡ made → Replies b was made r → Replies b s new r
replies_at b s was new made r e f h = subst (λ (x : Life). Replies b x new r) (sym e) (subst (λ (x : Life). Replies b was x r) (sym f) h)

-- ---- numbers of answers

one_below : (n m : ℕ) → n < m → All (λ k. k < m) (n ∷ [])
one_below n m h zero d below = h
one_below n m h (suc k) d below = absurd (omega arith)

-- the numbers below n are below n
pub upto_below : (n : ℕ) → All (λ k. k < n) (upto n)
upto_below zero = λ k d below. absurd (omega arith)
upto_below (suc n) = All-append (λ k. k < suc n) (upto n) (n ∷ []) (λ k d below. let h = upto_below n k d below in omega arith) (one_below n (suc n) (omega arith))

-- ---- what stays of a life

by_bool : {P : Type 0} (a : Bool) → (a ≡ true → P) → (a ≡ false → P) → P
by_bool {P} a set clear = elim (cases_Bool a) as (λ _. P) [ inl e ↦ set e | inr e ↦ clear e ]

switch_count : (off : Bool) (s : Life) → (life.after_switch off s).count ≡ s.count
switch_count off s = by_bool s.disposed (λ (e : s.disposed ≡ true). rw e refl) (λ (e : s.disposed ≡ false). rw e refl)

switch_live : (off : Bool) (s : Life) → life.live (life.after_switch off s) ≡ life.live s
switch_live off s = by_bool s.disposed
    (λ (e : s.disposed ≡ true). ap (λ (d : Bool). life.live (if d then s else record s { off = off })) e)
    (λ (e : s.disposed ≡ false). ap (λ (d : Bool). life.live (if d then s else record s { off = off })) e)

draw_live : (s : Life) → life.live (life.after_draw s) ≡ life.live s
draw_live s = by_bool (life.live s)
    (λ (e : life.live s ≡ true). ap (λ (l : Bool). life.live (if l then record s { count = s.count + 1 } else s)) e)
    (λ (e : life.live s ≡ false). ap (λ (l : Bool). life.live (if l then record s { count = s.count + 1 } else s)) e)

dispose_dead : (s : Life) → life.live (life.after_dispose s) ≡ true → life.live s ≡ true
dispose_dead s e = grind arith

-- the same of a life that was read, and one that was written
pub switch_alive : (off : Bool) (s was new : Life) → s ≡ was → new ≡ life.after_switch off was → life.live new ≡ true → life.live s ≡ true
switch_alive off s was new e f alive = ap life.live e ∙ (sym (switch_live off was) ∙ (sym (ap life.live f) ∙ alive))

pub draw_alive : (s was new : Life) → s ≡ was → new ≡ life.after_draw was → life.live new ≡ true → life.live s ≡ true
draw_alive s was new e f alive = ap life.live e ∙ (sym (draw_live was) ∙ (sym (ap life.live f) ∙ alive))

pub dispose_alive : (s was new : Life) → s ≡ was → new ≡ life.after_dispose was → life.live new ≡ true → life.live s ≡ true
dispose_alive s was new e f alive = ap life.live e ∙ dispose_dead was (sym (ap life.live f) ∙ alive)

pub switch_shares : (off : Bool) (s was new : Life) (left : ℕ) → s ≡ was → new ≡ life.after_switch off was → s.count + left ≤ 2 ^ 60 → new.count + left ≤ 2 ^ 60
switch_shares off s was new left e f h = let a = ap (λ (x : Life). x.count) e in let b = ap (λ (x : Life). x.count) f in let c = switch_count off was in omega (arith, a, b, c)

pub dispose_shares : (s was new : Life) (left : ℕ) → s ≡ was → new ≡ life.after_dispose was → s.count + left ≤ 2 ^ 60 → new.count + left ≤ 2 ^ 60
dispose_shares s was new left e f h = let a = ap (λ (x : Life). x.count) e in let b : new.count ≡ was.count = ap (λ (x : Life). x.count) f in omega (arith, a, b)

pub attach_shares : (s was new : Life) (left : ℕ) → s ≡ was → new ≡ life.after_attach was → s.count + left ≤ 2 ^ 60 → new.count + left ≤ 2 ^ 60
attach_shares s was new left e f h = let a = ap (λ (x : Life). x.count) e in let b : new.count ≡ was.count = ap (λ (x : Life). x.count) f in omega (arith, a, b)

draw_count : (s : Life) → (life.after_draw s).count ≤ s.count + 1
draw_count s = by_bool (life.live s)
    (λ (l : life.live s ≡ true). subst (λ (y : Bool). (if y then record s { count = s.count + 1 } else s).count ≤ s.count + 1) (sym l) (omega arith))
    (λ (l : life.live s ≡ false). subst (λ (y : Bool). (if y then record s { count = s.count + 1 } else s).count ≤ s.count + 1) (sym l) (omega arith))

-- the count after a draw, with one share less
pub draw_shares : (s was new : Life) (left : ℕ) → s ≡ was → new ≡ life.after_draw was → 0 < left → s.count + left ≤ 2 ^ 60 → new.count + (left - 1) ≤ 2 ^ 60
draw_shares s was new left e f some h = let a = ap (λ (x : Life). x.count) e in let b : new.count ≡ (life.after_draw was).count = ap (λ (x : Life). x.count) f in let c = draw_count was in omega (arith, a, b, c)

pub drawn_tells : (lives : List Life) (b event : ℕ) (was new : Life) (d : Drawn) (sights : List Sight) (replies : List ActResult) → b < length lives → life_at lives b ≡ was
    → new ≡ life.after_draw was → d ≡ life.drawn was → TellsAll lives sights replies
    → TellsAll (slice_set lives b new) (sights ++ record { event = event; binding = b; drawn = d } ∷ []) replies
drawn_tells lives b event was new d sights replies within e f g all =
    subst (λ (x : Life). TellsAll (slice_set lives b x) (sights ++ record { event = event; binding = b; drawn = d } ∷ []) replies) (ap life.after_draw e ∙ sym f)
    (subst (λ (x : Drawn). TellsAll (slice_set lives b (life.after_draw (life_at lives b))) (sights ++ record { event = event; binding = b; drawn = x } ∷ []) replies) (ap life.drawn e ∙ sym g)
    (tells_draw lives b event sights replies within all))

-- the row that was read is the binding's
pub row_read : (rows : List (List ℕ)) (b : ℕ) (row : List ℕ) → b < length rows → row ≡ slice_index_or rows b row → row ≡ slice_index_or rows b []
row_read rows b row within read = grind (arith, common_steps)

pub row_within : (table : MatchTable) (nodes b : ℕ) (row : List ℕ) → row ≡ slice_index_or table.rows b [] → IsWithin table nodes → All (λ n. n < nodes) row
row_within table nodes b row e within = subst (λ (r : List ℕ). All (λ n. n < nodes) r) (sym e) (within b)

pub upto_step : (a b n : ℕ) → a ≡ n + 1 → b ≡ n → upto a ≡ upto b ++ n ∷ []
upto_step a b n e f = ap upto e ∙ (upto-more n ∙ sym (ap (λ k. upto k ++ n ∷ []) f))

-- ---- the answer of an attach

attached_new : (s : Life) → (life.attached s ≡ attaches.Already → ⊥) → s.attached ≡ false
attached_new s new = by_bool s.attached
    (λ (e : s.attached ≡ true). absurd (new (ap (λ (a : Bool). if a then attaches.Already else if s.disposed then attaches.Gone else attaches.Attached) e)))
    (λ (e : s.attached ≡ false). e)

-- an attach that isn't the second finds that none was made
pub unattached : (s was : Life) (a : Attach) → s ≡ was → a ≡ life.attached was → (a ≡ attaches.Already → ⊥) → s.attached ≡ false
unattached s was a e f new = ap (λ (x : Life). x.attached) e ∙ attached_new was (λ again. new (f ∙ again))

pub first_parts : (s was : Life) (a : Attach) → s ≡ was → a ≡ life.attached was → a ≡ attaches.Attached → (s.attached ≡ false) × (s.disposed ≡ false)
first_parts s was a e f first =
    let on = unattached s was a e f (λ again. cc (first, again)) in (
      on,
      by_bool s.disposed
          (λ (d : s.disposed ≡ true). let gone : attaches.Attached ≡ attaches.Gone = sym (ap life.attached e ∙ (sym f ∙ first)) ∙ (ap (λ (x : Bool). if x then attaches.Already else if s.disposed then attaches.Gone else attaches.Attached) on ∙ ap (λ (x : Bool). if x then attaches.Gone else attaches.Attached) d) in absurd (cc gone))
          (λ (d : s.disposed ≡ false). d),
    )

pub first_made : (s was : Life) (a : Attach) → s ≡ was → a ≡ life.attached was → s.attached ≡ false → s.disposed ≡ false → a ≡ attaches.Attached
first_made s was a e f on d =
    f ∙ (sym (ap life.attached e) ∙ (ap (λ (x : Bool). if x then attaches.Already else if s.disposed then attaches.Gone else attaches.Attached) on ∙ ap (λ (x : Bool). if x then attaches.Gone else attaches.Attached) d))

-- ---- a board on which nothing was done

filled_at : {X : Type 0} (xs old : List X) (n m : ℕ) (x y d : X) → x ≡ d → y ≡ d → old ≡ [] → xs ≡ take n old ++ replicate m x → (i : ℕ) → slice_index_or xs i y ≡ d
filled_at xs old n m x y d e f g h i = grind (arith, common_steps)

pub untouched_all : (lives old : List Life) (n m : ℕ) (x : Life) → x ≡ life.untouched → old ≡ [] → lives ≡ take n old ++ replicate m x → (b : ℕ) → life_at lives b ≡ life.untouched
untouched_all lives old n m x e g h = filled_at lives old n m x life.untouched life.untouched e refl g h

pub unread_all : (words old : List SessionWord) (n m : ℕ) (x : SessionWord) → x ≡ unread → old ≡ [] → words ≡ take n old ++ replicate m x → (t : ℕ) → word_at words t ≡ unread
unread_all words old n m x e g h = filled_at words old n m x unread unread e refl g h

all_none : {X : Type 0} (P : X → Type 0) → All P []
all_none P k d below = absurd (omega arith)

tells_none : (b : ℕ) → Tells b life.untouched [] []
tells_none b = record {
  attached = refl;
  disposed = refl;
  disposals = refl;
  attachment = λ _. refl;
  numbered = λ some. absurd (omega arith);
  numbers = refl;
  below = all_none (λ s. ForSome (number_in b s) (λ p. p < 0));
  unattached = λ _. refl;
  final = all_none (λ r. ForSome (disposal b r) (λ n. (false ≡ true) × (n ≡ 0)));
  counted = all_none (λ r. ForSome (toggle_count b r) (λ n. n ≤ 0));
  off = λ n _. refl;
  toggled = all_none (FitsToggles b []);
  rising = λ k d below. absurd (omega arith);
  switched = refl;
  history = λ k d below. absurd (omega arith);
}

pub tells_new : (lives : List Life) → ((b : ℕ) → life_at lives b ≡ life.untouched) → TellsAll lives [] []
tells_new lives e b below = subst (λ (s : Life). Tells b s [] []) (sym (e b)) (tells_none b)

pub shares_new : (lives : List Life) → ((b : ℕ) → life_at lives b ≡ life.untouched) → HasShares lives (2 ^ 60)
shares_new lives e b = let h = ap (λ (s : Life). s.count) (e b) in omega arith

pub present_new : (bits : NodeBits) (table : MatchTable) (lives : List Life) → ((b : ℕ) → life_at lives b ≡ life.untouched) → LiveStand bits table lives
present_new bits table lives e b n alive = absurd (cc (ap life.live (e b), alive))

pub read_new : (words : List SessionWord) → ((t : ℕ) → word_at words t ≡ unread) → IsRead words
read_new words e t = let h = ap (λ (w : SessionWord). w.last) (e t) in let g = ap (λ (w : SessionWord). w.taken) (e t) in omega arith

pub within_new : (table table' : MatchTable) (nodes nodes' : ℕ) → table' ≡ table → nodes' ≡ nodes → IsWithin table nodes → IsWithin table' nodes'
within_new table table' nodes nodes' e f h = subst (λ (t : MatchTable). IsWithin t nodes') (sym e) (subst (λ (n : ℕ). IsWithin table n) (sym f) h)

pub each_new : (loads old : List ℕ) (n m : ℕ) → old ≡ [] → loads ≡ take n old ++ replicate m 0 → (i : ℕ) → slice_index_or loads i 0 ≤ 0
each_new loads old n m e f i = let h = filled_at loads old n m 0 0 0 refl refl e f i in omega arith
