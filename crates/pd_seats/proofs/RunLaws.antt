-- From the pieces to what was done.
use Rattle.std.proofs.Common.{◌≡◌, ℕ, zero, suc, ◌<◌, List, [], ◌∷◌, ◌++◌, length, take, drop, map, get_or, refl, sym, ap, subst, ◌∙◌, arith}
use Rattle.std.specs.List.{All}
use Rattle.std.proofs.lemmas.List.{length-map}
use Rattle.pd_core.specs.declared.view.View.{View}
use Rattle.pd_shared.specs.declared.sights.Sights.{Sights}
use Rattle.pd_shared.specs.Sitting.{Sitting, Base, base_of}
use Rattle.pd_shared.specs.Left.{IsNewcomer}
use Rattle.pd_seats.specs.declared.pieces.Piece.{Piece}
use Rattle.pd_seats.specs.Shares.{HasHandedOn, AreNewcomers}
use Rattle.pd_seats.specs.Gathered.{IsOneSeat, IsGathered}
use Rattle.pd_seats.specs.Ran.{AreDone}

at_map : {A B : Type 0} (f : A → B) (xs : List A) (i : ℕ) (d : A) → get_or (map f xs) i (f d) ≡ f (get_or xs i d)
at_map f [] i d = refl
at_map f (x ∷ xs) zero d = refl
at_map f (x ∷ xs) (suc i) d = at_map f xs i d

take_front : {A : Type 0} (ys zs : List A) → take (length ys) (ys ++ zs) ≡ ys
take_front [] zs = refl
take_front (y ∷ ys) zs = ap (λ t. y ∷ t) (take_front ys zs)

-- a slice of a whole list is written back whole
pub written : {A : Type 0} (xs ys : List A) (n : ℕ) → length ys ≡ length xs → n ≡ length xs → take n (ys ++ drop (length ys) xs) ≡ ys
written xs ys n same is = ap (λ k. take k (ys ++ drop (length ys) xs)) (is ∙ sym same) ∙ take_front ys (drop (length ys) xs)

one_seat : (first between begun ended : Sitting) → IsNewcomer first begun → base_of ended ≡ base_of begun → between.hub ≡ first.hub → IsOneSeat between.hub ended
one_seat first between begun ended came base hub = record {
  hub_is = ap (λ (b : Base). b.hub) base ∙ (came.hub ∙ sym hub);
  seats = ap (λ (b : Base). b.seat_share) base ∙ ap (λ (v : View). v.seat_share) came.view;
  taken = ap (λ (b : Base). b.taken) base ∙ ap (λ (v : View). v.taken) came.view;
  handed = ap (λ (b : Base). b.handed) base ∙ ap (λ (v : View). v.talk.handed) came.view;
}

module _ {O : Type 0} where
  own_at : (ps : List (Piece O)) (owns : List O) (i : ℕ) (d : Piece O) → map (λ p. p.own) ps ≡ owns → get_or owns i d.own ≡ (get_or ps i d).own
  own_at ps owns i d is = ap (λ xs. get_or xs i d.own) (sym is) ∙ at_map (λ (p : Piece O). p.own) ps i d

  new_at : (first : Sitting) (ps : List (Piece O)) (i : ℕ) (d : Piece O) → AreNewcomers first (map (λ p. p.seat) ps) → i < length ps → IsNewcomer first (get_or ps i d).seat
  new_at first ps i d new below =
      subst (IsNewcomer first) (at_map (λ (p : Piece O). p.seat) ps i d) (new i d.seat (omega (arith, below, length-map ps (λ (p : Piece O). p.seat))))

  -- each piece may be done
  pub ready : (can : O → Sitting → Type 0) (first : Sitting) (ps : List (Piece O)) (owns : List O) → map (λ p. p.own) ps ≡ owns → AreNewcomers first (map (λ p. p.seat) ps)
      → All (λ own. (seat : Sitting) → IsNewcomer first seat → can own seat) owns → (i : ℕ) (d : Piece O) → i < length ps → can (get_or ps i d).own (get_or ps i d).seat
  ready can first ps owns is new all i d below =
      subst (λ x. can x (get_or ps i d).seat) (own_at ps owns i d is)
      (all i d.own (omega (arith, below, length-map ps (λ (p : Piece O). p.own), ap length is)) (get_or ps i d).seat (new_at first ps i d new below))

  -- each piece that was done has a seat that may retire
  pub may_retire : (first between : Sitting) (begun ended now : List (Piece O)) → AreNewcomers first (map (λ p. p.seat) begun) → length ended ≡ length begun
      → ((i : ℕ) (d : Piece O) → i < length begun → base_of (get_or ended i d).seat ≡ base_of (get_or begun i d).seat) → between.hub ≡ first.hub → now ≡ ended
      → All (λ p. IsOneSeat between.hub p.seat) now
  may_retire first between begun ended now new count bases hub is =
      subst (λ xs. All (λ (p : Piece O). IsOneSeat between.hub p.seat) xs) (sym is)
      (λ i d below. let within : i < length begun = omega (arith, below, count) in one_seat first between (get_or begun i d).seat (get_or ended i d).seat (new_at first begun i d new within) (bases i d within) hub)

  pub shares_back : (first between last : Sitting) (n : ℕ) (begun ended now : List (Piece O)) (owns : List O) (left : List Sights) → HasHandedOn n first between
      → map (λ p. p.own) begun ≡ owns → n ≡ length owns → length ended ≡ length begun → now ≡ ended → IsGathered (map (λ p. p.seat) now) left between last
      → last.token.pass.view.seat_share ≡ first.token.pass.view.seat_share
  shares_back first between last n begun ended now owns left handed is counted count same gathered =
      omega (arith, handed.seats, gathered.shares, length-map now (λ (p : Piece O). p.seat), ap length same, count, length-map begun (λ (p : Piece O). p.own), ap length is, counted)

  pub all_done : (did : O → Sitting → O → Sitting → Type 0) (first between last : Sitting) (n : ℕ) (begun ended now : List (Piece O)) (owns afters : List O) (left : List Sights)
      → map (λ p. p.own) begun ≡ owns → AreNewcomers first (map (λ p. p.seat) begun) → HasHandedOn n first between → n ≡ length owns → length ended ≡ length begun
      → ((i : ℕ) (d : Piece O) → i < length begun → did (get_or begun i d).own (get_or begun i d).seat (get_or ended i d).own (get_or ended i d).seat)
      → ((i : ℕ) (d : Piece O) → i < length begun → base_of (get_or ended i d).seat ≡ base_of (get_or begun i d).seat)
      → now ≡ ended → afters ≡ map (λ p. p.own) now → IsGathered (map (λ p. p.seat) now) left between last
      → AreDone did first last owns afters left
  all_done did first between last n begun ended now owns afters left is new handed counted count each bases same after gathered = record {
    between = between;
    begun = begun;
    ended = ended;
    owns_are = is;
    new = new;
    handed = subst (λ k. HasHandedOn k first between) counted handed;
    count = count;
    each = each;
    bases = bases;
    afters_are = after ∙ ap (map (λ (p : Piece O). p.own)) same;
    gathered = subst (λ xs. IsGathered (map (λ (p : Piece O). p.seat) xs) left between last) same gathered;
  }
