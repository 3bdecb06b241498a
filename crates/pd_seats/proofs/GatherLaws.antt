-- One seat more retires into the first one.
use Rattle.std.proofs.Common.{◌≡◌, ℕ, List, [], ◌∷◌, ◌++◌, length-append, map, refl, sym, ap, subst, ◌∙◌, arith, append_assoc}
use Rattle.std.specs.List.{AllZip}
use Rattle.std.proofs.lemmas.List.{append-nil, map-append}
use Rattle.std.proofs.lemmas.List.Concat.{flat_map-append}
use Rattle.pd_core.specs.declared.view.View.{View}
use Rattle.pd_core.specs.declared.view.Deeds.{Deeds}
use Rattle.pd_board.specs.Journal.{Entries}
use Rattle.pd_board.specs.Standing.{Standing}
use Rattle.pd_shared.specs.declared.sights.Sights.{Sights}
use Rattle.pd_shared.specs.Sitting.{Sitting, standing_of}
use Rattle.pd_shared.specs.Left.{Leaves, IsOver, TakesIn, DidLeave, HasLearned}
use Rattle.pd_shared.specs.Merged.{later}
use Rattle.pd_board.specs.declared.answers.Known.{Known}
use Rattle.pd_board.specs.declared.answers.Known.TheVariants as knowns
use Rattle.std.proofs.lemmas.List.Elements.{All-nil, All-cons, All-append, All-weaker}
use Rattle.pd_seats.specs.Gathered.{IsOneSeat, IsGathered, KnowsAsGone, numbers_of}

zip_more : {A B : Type 0} (R : A → B → Type 0) (xs : List A) (ys : List B) (x : A) (y : B) → AllZip R xs ys → R x y → AllZip R (xs ++ x ∷ []) (ys ++ y ∷ [])
zip_more R [] [] x y all one = (one, tt)
zip_more R [] (b ∷ ys) x y all one = absurd all
zip_more R (a ∷ xs) [] x y all one = absurd all
zip_more R (a ∷ xs) (b ∷ ys) x y all one = (all.0, zip_more R xs ys x y all.1 one)

-- the later of two is that it is disposed where one of them is
own_gone : (a b : Known) → a ≡ knowns.Disposed → later a b ≡ knowns.Disposed
own_gone a b e = ap (λ x. later x b) e

other_gone : (a b : Known) → b ≡ knowns.Disposed → later a b ≡ knowns.Disposed
other_gone knowns.Fresh b e = e
other_gone knowns.Attached b e = ap (later knowns.Attached) e
other_gone knowns.Disposed b e = refl

-- nothing was gathered
pub none_gathered : (s : Sitting) → IsGathered [] [] s s
none_gathered s = record {
  hub = refl;
  leaves = tt;
  shares = omega arith;
  journal = refl;
  numbers = refl;
  handed = sym (append-nil s.token.pass.view.talk.handed);
  knew = λ b h. h;
  known = All-nil (λ x. KnowsAsGone x s);
  did = λ earlier h. subst (λ l. DidLeave l s.token.pass.view.taken) (sym (append-nil earlier)) h;
  learned = λ earlier h. subst (λ l. HasLearned s.token l) (sym (append-nil earlier)) h;
}

none_learned : (s : Sitting) → HasLearned s.token []
none_learned s k d below = absurd (omega arith)

pub one_more : (ss : List Sitting) (left : List Sights) (old mid new s : Sitting) (l : Sights) → IsGathered ss left old mid → IsOneSeat old.hub s
    → Leaves s.token l → IsOver s.hub.layout l → TakesIn mid s.token new
    → ((earlier others : List Sights) → DidLeave earlier mid.token.pass.view.taken → DidLeave others s.token.pass.view.taken → DidLeave (earlier ++ l ∷ others) new.token.pass.view.taken)
    → ((earlier others : List Sights) → HasLearned mid.token earlier → HasLearned s.token others → HasLearned new.token (earlier ++ l ∷ others))
    → IsGathered (ss ++ s ∷ []) (left ++ l ∷ []) old new
one_more ss left old mid new s l was one leaves over takes did learned =
    let f : Standing → Entries = λ x. record { sights = x.sights; sight_loads = x.sight_loads; passes = x.passes; replies = x.replies; spare = x.spare } in
    let n : List (ℕ × ℕ) = s.token.pass.view.talk.numbers in
    let h : List (ℕ × ℕ) = old.token.pass.view.talk.handed in
    let none : DidLeave [] s.token.pass.view.taken = subst (λ (t : List Deeds). DidLeave [] t) (sym one.taken) tt in
    record {
      hub = takes.hub ∙ was.hub;
      leaves = zip_more (λ a b. Leaves a.token b × IsOver a.hub.layout b) ss left s l was.leaves (leaves, over);
      shares = omega (arith, ap (λ (v : View). v.seat_share) takes.view, was.shares, one.seats, length-append ss (s ∷ []));
      journal = ap f takes.stands ∙ was.journal;
      numbers = ap (λ (v : View). v.talk.numbers) takes.view ∙ was.numbers;
      handed = ap (λ (v : View). v.talk.handed) takes.view
          ∙ (ap (λ x. (mid.token.pass.view.talk.handed ++ x) ++ n) one.handed
          ∙ (ap (λ x. x ++ n) (append-nil mid.token.pass.view.talk.handed)
          ∙ (ap (λ x. x ++ n) was.handed
          ∙ (append_assoc h (numbers_of ss) n
          ∙ ap (λ x. h ++ x) (ap (λ x. numbers_of ss ++ x) (sym (append-nil n)) ∙ sym (flat_map-append (λ (a : Sitting). a.token.pass.view.talk.numbers) ss (s ∷ [])))))));
      knew = λ b h. takes.known b ∙ own_gone ((standing_of mid).known b) ((standing_of s).known b) (was.knew b h);
      known = All-append (λ x. KnowsAsGone x new) ss (s ∷ [])
          (All-weaker (λ x. KnowsAsGone x mid) (λ x. KnowsAsGone x new) (λ x h b e. takes.known b ∙ own_gone ((standing_of mid).known b) ((standing_of s).known b) (h b e)) ss was.known)
          (All-cons (λ x. KnowsAsGone x new) s [] (λ b e. takes.known b ∙ other_gone ((standing_of mid).known b) ((standing_of s).known b) e) (All-nil (λ x. KnowsAsGone x new)));
      did = λ earlier e. subst (λ x. DidLeave x new.token.pass.view.taken) (append_assoc earlier left (l ∷ [])) (did (earlier ++ left) [] (was.did earlier e) none);
      learned = λ earlier e. subst (λ x. HasLearned new.token x) (append_assoc earlier left (l ∷ [])) (learned (earlier ++ left) [] (was.learned earlier e) (none_learned s));
    }

-- the seats and the sights of pieces, one more each
pub one_more_of : {P D : Type 0} (seat : P → Sitting) (sights : D → Sights) (ps : List P) (ds now : List D) (p : P) (d : D) (old mid new : Sitting)
    → now ≡ ds ++ d ∷ [] → IsGathered (map seat ps) (map sights ds) old mid → IsOneSeat old.hub (seat p)
    → Leaves (seat p).token (sights d) → IsOver (seat p).hub.layout (sights d) → TakesIn mid (seat p).token new
    → ((earlier others : List Sights) → DidLeave earlier mid.token.pass.view.taken → DidLeave others (seat p).token.pass.view.taken → DidLeave (earlier ++ sights d ∷ others) new.token.pass.view.taken)
    → ((earlier others : List Sights) → HasLearned mid.token earlier → HasLearned (seat p).token others → HasLearned new.token (earlier ++ sights d ∷ others))
    → IsGathered (map seat (ps ++ p ∷ [])) (map sights now) old new
one_more_of seat sights ps ds now p d old mid new is was one leaves over takes did learned =
    let ss = map-append seat ps (p ∷ []) in
    let ls = ap (map sights) is ∙ map-append sights ds (d ∷ []) in
    subst (λ x. IsGathered x (map sights now) old new) (sym ss)
    (subst (λ x. IsGathered (map seat ps ++ seat p ∷ []) x old new) (sym ls)
    (one_more (map seat ps) (map sights ds) old mid new (seat p) (sights d) was one leaves over takes did learned))

pub own_more : {P D O : Type 0} (f : P → O) (g : D → O) (ps : List P) (ds now : List D) (p : P) (d : D) → now ≡ ds ++ d ∷ [] → map g ds ≡ map f ps → g d ≡ f p → map g now ≡ map f (ps ++ p ∷ [])
own_more f g ps ds now p d is was one =
    ap (map g) is ∙ (map-append g ds (d ∷ []) ∙ (ap (λ x. x ++ g d ∷ []) was ∙ (ap (λ y. map f ps ++ y ∷ []) one ∙ sym (map-append f ps (p ∷ [])))))
