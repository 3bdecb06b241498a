-- From what was done to what the report asks for.
use Rattle.std.proofs.Common.{◌≡◌, ℕ, zero, suc, ◌+◌, ◌<◌, ◌==◌, Bool, List, [], ◌∷◌, ◌++◌, length, map, get_or, refl, sym, ap, subst, ◌∙◌, arith, append_assoc}
use Rattle.std.specs.Prelude.{flat_map, count_by}
use Rattle.std.specs.List.{All, AllZip, filter_map}
use Rattle.std.proofs.lemmas.List.{map-append}
use Rattle.std.proofs.lemmas.List.Elements.{All-nil, filter_map-append}
use Rattle.pd_core.specs.Counts.{one_if}
use Rattle.pd_core.proofs.Sums.{total-append}
use Rattle.pd_shared.proofs.AllLemmas.{count_total}
use Rattle.pd_board.specs.declared.answers.Known.TheVariants as knowns
use Rattle.pd_board.specs.Journal.{Entries}
use Rattle.pd_core.specs.declared.view.Talk.{Talk}
use Rattle.pd_shared.specs.declared.token.Token.{Token}
use Rattle.pd_shared.specs.declared.sights.Sights.{Sights}
use Rattle.pd_shared.specs.Book.{known_at}
use Rattle.pd_shared.specs.Sitting.{Sitting, number_for, base_of}
use Rattle.pd_shared.specs.Left.{Leaves, IsOver, DidLeave, Learned}
use Rattle.pd_seats.specs.declared.pieces.Piece.{Piece}
use Rattle.pd_seats.specs.Shares.{AreNewcomers}
use Rattle.pd_seats.specs.Gathered.{IsGathered, numbers_of}
use Rattle.pd_seats.specs.Ran.{AreDone}
use Rattle.pd_seats.specs.Back.{numbers_for, HasGathered, DidFrom, own_of, token_of, AreBack}

-- ---- by tokens

count_append : {A : Type 0} (p : A → Bool) (xs ys : List A) → count_by p (xs ++ ys) ≡ count_by p xs + count_by p ys
count_append p xs ys = omega (arith, count_total p (xs ++ ys), count_total p xs, count_total p ys, total-append (λ x. one_if (p x)) xs ys)

all_numbers : (s : ℕ) (ss : List Sitting) → filter_map (number_for s) (numbers_of ss) ≡ flat_map (numbers_for s) (map (λ x. x.token) ss)
all_numbers s [] = refl
all_numbers s (x ∷ xs) = filter_map-append (number_for s) x.token.pass.view.talk.numbers (numbers_of xs) ∙ ap (λ ns. numbers_for s x.token ++ ns) (all_numbers s xs)

leaves_by : (ss : List Sitting) (left : List Sights) → AllZip (λ s l. Leaves s.token l × IsOver s.hub.layout l) ss left → AllZip Leaves (map (λ x. x.token) ss) left
leaves_by [] [] h = tt
leaves_by [] (l ∷ ls) h = absurd h
leaves_by (s ∷ ss) [] h = absurd h
leaves_by (s ∷ ss) (l ∷ ls) h = (h.0.0, leaves_by ss ls h.1)

all_map : {A B : Type 0} (f : A → B) (P : B → Type 0) (xs : List A) → All (λ x. P (f x)) xs → All P (map f xs)
all_map f P [] h i d within = All-nil P i d within
all_map f P (x ∷ xs) h zero d within = h zero x (omega arith)
all_map f P (x ∷ xs) h (suc i) d within = all_map f P xs (λ j e below. h (suc j) e (omega (arith, below))) i d (omega (arith, within))

none_taken : (t : Token) → t.pass.view.taken ≡ [] → DidLeave [] t.pass.view.taken
none_taken t none = subst (DidLeave []) (sym none) tt

pub gathered_by_tokens : (ss : List Sitting) (left : List Sights) (old new : Sitting) → IsGathered ss left old new → old.token.pass.view.taken ≡ [] → HasGathered old.token (map (λ x. x.token) ss) left new.token
gathered_by_tokens ss left old new g none = record {
  sights = ap (λ (e : Entries). e.sights) g.journal;
  replies = ap (λ (e : Entries). e.replies) g.journal;
  leaves = leaves_by ss left g.leaves;
  did = g.did [] (none_taken old.token none);
  learned = g.learned [] (All-nil (Learned old.token));
  known = all_map (λ x. x.token) (λ t. (b : ℕ) → known_at t.known.items b ≡ knowns.Disposed → known_at new.token.known.items b ≡ knowns.Disposed) ss g.known;
  numbers = λ s x.
      let t : Talk = old.token.pass.view.talk in
      let now : Talk = new.token.pass.view.talk in
      let f = number_for s in
      let joined : now.numbers ++ now.handed ≡ (t.numbers ++ t.handed) ++ numbers_of ss =
      ap (λ ns. ns ++ now.handed) g.numbers ∙ ap (λ hs. t.numbers ++ hs) g.handed ∙ sym (append_assoc t.numbers t.handed (numbers_of ss)) in
      ap (λ ns. count_by (λ y. y == x) (filter_map f ns)) joined
      ∙ ap (count_by (λ y. y == x)) (filter_map-append f (t.numbers ++ t.handed) (numbers_of ss) ∙ ap (λ ns. filter_map f (t.numbers ++ t.handed) ++ ns) (all_numbers s ss))
      ∙ count_append (λ y. y == x) (filter_map f (t.numbers ++ t.handed)) (flat_map (numbers_for s) (map (λ z. z.token) ss));
}

-- ---- by two kinds of pieces

abbrev tail_of : {A : Type 0} → List A → List A
tail_of [] = []
tail_of (x ∷ xs) = xs

abbrev head_or : {A : Type 0} → A → List A → A
head_or d [] = d
head_or d (x ∷ xs) = x

module _ {O : Type 0} (did : O → Sitting → O → Sitting → Type 0) (first : Sitting) where
  zip_of : (bs es : List (Piece O)) → length es ≡ length bs → AreNewcomers first (map (λ p. p.seat) bs)
      → ((i : ℕ) (d : Piece O) → i < length bs → did (get_or bs i d).own (get_or bs i d).seat (get_or es i d).own (get_or es i d).seat)
      → ((i : ℕ) (d : Piece O) → i < length bs → base_of (get_or es i d).seat ≡ base_of (get_or bs i d).seat)
      → AllZip (DidFrom did first) bs es
  zip_of [] [] same new each base = tt
  zip_of [] (e ∷ es) same new each base = absurd (omega (arith, same))
  zip_of (b ∷ bs) [] same new each base = absurd (omega (arith, same))
  zip_of (b ∷ bs) (e ∷ es) same new each base = (
    record { new = new zero b.seat (omega arith); base = base zero b (omega arith); work = each zero b (omega arith) },
    zip_of bs es (omega (arith, same)) (λ i d w. new (suc i) d (omega (arith, w))) (λ i d w. each (suc i) d (omega (arith, w))) (λ i d w. base (suc i) d (omega (arith, w))),
  )

  -- the pieces with the first owns, and the others
  record Parts (xs ys : List O) (bs es : List (Piece O)) : Type 0 where
    begun : List (Piece O) × List (Piece O)
    ended : List (Piece O) × List (Piece O)
    owns_are : (map own_of begun.0 ≡ xs) × (map own_of begun.1 ≡ ys)
    ended_are : es ≡ ended.0 ++ ended.1
    ones : AllZip (DidFrom did first) begun.0 ended.0
    others : AllZip (DidFrom did first) begun.1 ended.1

  parts_of : (xs ys : List O) (bs es : List (Piece O)) → map own_of bs ≡ xs ++ ys → AllZip (DidFrom did first) bs es → Parts xs ys bs es
  parts_of [] ys bs es is zip = record { begun = ([], bs); ended = ([], es); owns_are = (refl, is); ended_are = refl; ones = tt; others = zip }
  parts_of (x ∷ xs) ys [] es is zip = absurd (omega (arith, ap length is))
  parts_of (x ∷ xs) ys (b ∷ bs) [] is zip = absurd zip
  parts_of (x ∷ xs) ys (b ∷ bs) (e ∷ es) is zip =
      let rest = parts_of xs ys bs es (ap tail_of is) zip.1 in
      record {
        begun = (b ∷ rest.begun.0, rest.begun.1);
        ended = (e ∷ rest.ended.0, rest.ended.1);
        owns_are = (ap (λ o. o ∷ map own_of rest.begun.0) (ap (head_or x) is) ∙ ap (λ os. x ∷ os) rest.owns_are.0, rest.owns_are.1);
        ended_are = ap (λ z. e ∷ z) rest.ended_are;
        ones = (zip.0, rest.ones);
        others = rest.others;
      }

  pub are_back : (last : Sitting) (xs ys afters : List O) (left : List Sights) → AreDone did first last (xs ++ ys) afters left → first.token.pass.view.taken ≡ [] → AreBack did first last xs ys afters left
  are_back last xs ys afters left d none =
      let zip = zip_of d.begun d.ended d.count d.new d.each d.bases in
      let parts = parts_of xs ys d.begun d.ended d.owns_are zip in
      let tokens : map (λ x. x.token) (map (λ (p : Piece O). p.seat) d.ended) ≡ map token_of parts.ended.0 ++ map token_of parts.ended.1 =
      twice d.ended ∙ ap (map token_of) parts.ended_are ∙ map-append token_of parts.ended.0 parts.ended.1 in
      record {
        between = d.between;
        begun = parts.begun;
        ended = parts.ended;
        owns_are = parts.owns_are;
        ones = parts.ones;
        others = parts.others;
        afters_are = d.afters_are ∙ ap (map own_of) parts.ended_are ∙ map-append own_of parts.ended.0 parts.ended.1;
        handed = d.handed;
        gathered = subst (λ ts. HasGathered d.between.token ts left last.token) tokens
            (gathered_by_tokens (map (λ p. p.seat) d.ended) left d.between last d.gathered (d.handed.taken ∙ none));
      }
    where
      twice : (ps : List (Piece O)) → map (λ x. x.token) (map (λ (p : Piece O). p.seat) ps) ≡ map token_of ps
      twice [] = refl
      twice (p ∷ ps) = ap (λ ts. p.seat.token ∷ ts) (twice ps)
