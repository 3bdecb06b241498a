-- What the actions of a session were answered, one after another.
use Rattle.std.proofs.Common.{◌≡◌, ℕ, ◌+◌, ◌<◌, ◌≤◌, List, [], ◌∷◌, ◌++◌, true, false, not, Option, Some, None, sym, refl, ap, ◌∙◌, subst, arith, ⊎_elim, nat_le, append_assoc}
use Rattle.std.specs.Prelude.{if◌then◌else◌}
use Rattle.std.specs.List.{All, list_all, list_any, filter_map, cons_option}
use Rattle.std.proofs.lemmas.List.Elements.{All-nil, All-cons}
use Rattle.std.proofs.lemmas.Bool.{eq-eqb, and_parts, and_from, or_cases, or_parts, false≢true, le-leb, leb-true, cases_Bool}
use native.Mathlib.Nat.{le_trans}
use Rattle.pd_plan.specs.declared.plan.Action.{Action}
use Rattle.pd_board.specs.Standing.{Standing}
use Rattle.std.proofs.lemmas.List.{append-nil}
use Rattle.pd_plan.specs.declared.plan.Action.TheVariants as actions
use Rattle.pd_board.specs.declared.waiting.Waited.{Waited}
use Rattle.pd_board.specs.declared.waiting.Waited.TheVariants.{Reached, AllEnded, Late}
use Rattle.pd_session.specs.declared.record.ActionResult.{ActionResult}
use Rattle.pd_session.specs.declared.record.ActionResult.TheVariants.{Awaited}
use Rattle.pd_session.specs.declared.record.ActionResult.TheVariants as gave
use Rattle.pd_board.specs.Reading.{IsWaited, HasRead, reread}
use Rattle.pd_session.specs.Doing.{IsDone, AreDone}
use Rattle.pd_session.specs.Results.{act_in, are_of, is_of, told_by, is_late, is_all_ended, FitsCount, never_falls, none_late_after_end, own_reads, end_reads, in_all}
use Rattle.pd_session.specs.Laws.{ResultsAreTold}
use Rattle.std.specs.Option.{option_to_list}

-- what one action of the session gave, over a board that stood at `old` before and stands at `new`
record IsDid (session : ℕ) (a : Action) (r : ActionResult) (old new : Standing) : Type 0 where
  contexts : new.contexts ≡ old.contexts
  of : is_of a r ≡ true
  -- the answer of an act is one of the board's; it draws nothing and takes no answer numbers
  replies : new.replies ≡ old.replies ++ option_to_list (act_in r)
  sights : new.sights ≡ old.sights
  numbers : (s : ℕ) → new.numbers s ≡ old.numbers s
  -- a late await read both words in all its turns; any other read its session's word, and one that found all contexts ended their word
  own : old.answer_loads session + own_reads a r ≤ new.answer_loads session
  ends : old.end_loads + end_reads a r ≤ new.end_loads
  -- what was read last never falls
  last : old.last_answers session ≤ new.last_answers session
  last_ends : old.last_ends ≤ new.last_ends
  -- how an await ended, by what it read last
  reached : (c n : ℕ) → r ≡ Awaited c (Reached n) → (n ≡ new.last_answers session) × (c ≤ n)
  late : (c n : ℕ) → r ≡ Awaited c (Late n) → (n ≡ new.last_answers session) × (n < c) × (new.last_ends < new.contexts)
  all_ended : (c : ℕ) → r ≡ Awaited c AllEnded → new.contexts ≤ new.last_ends
  -- where it doesn't say that all contexts ended, it read of no such number
  running : ((c : ℕ) → r ≡ Awaited c AllEnded → ⊥) → old.last_ends < old.contexts → new.last_ends < new.contexts

abbrev count_in : ActionResult → ℕ
count_in (Awaited c w) = c
count_in _ = 0

abbrev number_in : ActionResult → ℕ
number_in (Awaited c (Reached n)) = n
number_in (Awaited c (Late n)) = n
number_in _ = 0

awaited_did : (session count turns n : ℕ) (w : Waited) (old new : Standing) → n ≡ count → IsWaited session count turns old new w → HasRead session turns old new → new ≡ reread new old
    → IsDid session (actions.Await count turns) (Awaited n w) old new
awaited_did session count turns n (Reached m) old new is waited read rest = record {
  contexts = ap (λ (s : Standing). s.contexts) rest;
  of = eq-eqb n count is;
  replies = ap (λ (s : Standing). s.replies) rest ∙ sym (append-nil old.replies);
  sights = ap (λ (s : Standing). s.sights) rest;
  numbers = λ t. ap (λ (s : Standing). s.numbers t) rest;
  own = waited.loads;
  ends = omega (arith, read.end_loads.0);
  last = read.last;
  last_ends = read.last_ends;
  reached = λ c k e. (sym (ap number_in e) ∙ waited.number, omega (arith, ap count_in e, ap number_in e, is, waited.enough));
  late = λ c k e. absurd (cc);
  all_ended = λ c e. absurd (cc);
  running = λ other h. waited.running h;
}
awaited_did session count turns n AllEnded old new is waited read rest = record {
  contexts = ap (λ (s : Standing). s.contexts) rest;
  of = eq-eqb n count is;
  replies = ap (λ (s : Standing). s.replies) rest ∙ sym (append-nil old.replies);
  sights = ap (λ (s : Standing). s.sights) rest;
  numbers = λ t. ap (λ (s : Standing). s.numbers t) rest;
  own = waited.loads;
  ends = waited.end_loads;
  last = read.last;
  last_ends = read.last_ends;
  reached = λ c k e. absurd (cc);
  late = λ c k e. absurd (cc);
  all_ended = λ c e. waited.ended;
  running = λ other h. absurd (other n refl);
}
awaited_did session count turns n (Late m) old new is waited read rest = record {
  contexts = ap (λ (s : Standing). s.contexts) rest;
  of = eq-eqb n count is;
  replies = ap (λ (s : Standing). s.replies) rest ∙ sym (append-nil old.replies);
  sights = ap (λ (s : Standing). s.sights) rest;
  numbers = λ t. ap (λ (s : Standing). s.numbers t) rest;
  own = omega (arith, waited.loads);
  ends = omega (arith, waited.end_loads);
  last = read.last;
  last_ends = read.last_ends;
  reached = λ c k e. absurd (cc);
  late = λ c k e. (sym (ap number_in e) ∙ waited.number, omega (arith, ap count_in e, ap number_in e, is, waited.fewer), waited.running);
  all_ended = λ c e. absurd (cc);
  running = λ other h. waited.running;
}

did : (session : ℕ) (a : Action) (r : ActionResult) (old new : Standing) → IsDone session a old new r → IsDid session a r old new
did session (actions.Act a) (gave.Act r) old new done =
    let rest = done.rest in
    record {
      contexts = ap (λ (s : Standing). s.contexts) rest;
      of = done.of;
      replies = done.reply;
      sights = ap (λ (s : Standing). s.sights) rest;
      numbers = λ t. ap (λ (s : Standing). s.numbers t) rest;
      own = omega (arith, ap (λ (s : Standing). s.answer_loads session) rest);
      ends = omega (arith, ap (λ (s : Standing). s.end_loads) rest);
      last = omega (arith, ap (λ (s : Standing). s.last_answers session) rest);
      last_ends = omega (arith, ap (λ (s : Standing). s.last_ends) rest);
      reached = λ c k e. absurd (cc);
      late = λ c k e. absurd (cc);
      all_ended = λ c e. absurd (cc);
      running = λ other h. omega (arith, h, ap (λ (s : Standing). s.last_ends) rest, ap (λ (s : Standing). s.contexts) rest);
    }
did session (actions.Await count turns) (Awaited n w) old new done = awaited_did session count turns n w old new done.0 done.1.waited done.1.read done.1.rest
did session (actions.Act a) (Awaited n w) old new done = absurd done
did session (actions.Await count turns) (gave.Act r) old new done = absurd done

-- what holds of the actions from a point on
record From (session : ℕ) (script : List Action) (rs : List ActionResult) (old new : Standing) : Type 0 where
  contexts : new.contexts ≡ old.contexts
  each : are_of script rs ≡ true
  last : old.last_answers session ≤ new.last_answers session
  last_ends : old.last_ends ≤ new.last_ends
  counts : All (FitsCount (new.last_answers session)) rs
  above : list_all (nat_le (old.last_answers session)) (filter_map told_by rs) ≡ true
  rising : never_falls (filter_map told_by rs) ≡ true
  never : old.contexts ≤ old.last_ends → list_all (λ x. not (is_late x)) rs ≡ true
  over : none_late_after_end rs ≡ true
  own : old.answer_loads session + in_all own_reads script rs ≤ new.answer_loads session
  ends : old.end_loads + in_all end_reads script rs ≤ new.end_loads
  found : list_any is_all_ended rs ≡ true → new.contexts ≤ new.last_ends
  replies : new.replies ≡ old.replies ++ filter_map act_in rs
  sights : new.sights ≡ old.sights
  numbers : (s : ℕ) → new.numbers s ≡ old.numbers s
  running : list_any is_all_ended rs ≡ false → old.last_ends < old.contexts → new.last_ends < new.contexts

none_done : (session : ℕ) (s t : Standing) → t ≡ s → From session [] [] s t
none_done session s t e = subst (λ x. From session [] [] s x) (sym e) (record {
  contexts = refl;
  each = refl;
  last = omega arith;
  last_ends = omega arith;
  counts = All-nil (FitsCount (s.last_answers session));
  above = refl;
  rising = refl;
  never = λ h. refl;
  over = refl;
  own = omega arith;
  ends = omega arith;
  found = λ h. absurd (false≢true h);
  replies = sym (append-nil s.replies);
  sights = refl;
  numbers = λ k. refl;
  running = λ h lt. lt;
})

all_above : (m n : ℕ) (ns : List ℕ) → m ≤ n → list_all (nat_le n) ns ≡ true → list_all (nat_le m) ns ≡ true
all_above m n [] le h = refl
all_above m n (x ∷ xs) le h = let parts = and_parts (nat_le n x) (list_all (nat_le n) xs) h in and_from (nat_le m x) (list_all (nat_le m) xs) (le-leb m x (le_trans le (leb-true n x parts.0))) (all_above m n xs le parts.1)

-- the number that an action tells is what was read last
told_is : (session : ℕ) (a : Action) (r : ActionResult) (old mid : Standing) → IsDid session a r old mid → (n : ℕ) → told_by r ≡ Some n → n ≡ mid.last_answers session
told_is session a (gave.Act x) old mid d n e = absurd (cc)
told_is session a (Awaited c (Reached m)) old mid d n e = let here = (d.reached c m refl).0 in cc (here, e)
told_is session a (Awaited c AllEnded) old mid d n e = absurd (cc)
told_is session a (Awaited c (Late m)) old mid d n e = let here = (d.late c m refl).0 in cc (here, e)

joined_above : (m n : ℕ) (o : Option ℕ) (ns : List ℕ) → m ≤ n → ((x : ℕ) → o ≡ Some x → x ≡ n) → list_all (nat_le n) ns ≡ true → list_all (nat_le m) (cons_option o ns) ≡ true
joined_above m n None ns le is h = all_above m n ns le h
joined_above m n (Some x) ns le is h = and_from (nat_le m x) (list_all (nat_le m) ns) (le-leb m x (subst (λ y. m ≤ y) (sym (is x refl)) le)) (all_above m n ns le h)

joined_rising : (n : ℕ) (o : Option ℕ) (ns : List ℕ) → ((x : ℕ) → o ≡ Some x → x ≡ n) → list_all (nat_le n) ns ≡ true → never_falls ns ≡ true → never_falls (cons_option o ns) ≡ true
joined_rising n None ns is h r = r
joined_rising n (Some x) ns is h r = and_from (list_all (nat_le x) ns) (never_falls ns) (subst (λ y. list_all (nat_le y) ns ≡ true) (sym (is x refl)) h) r

-- after all contexts were found ended none is late
not_late : (session : ℕ) (a : Action) (r : ActionResult) (old mid : Standing) → IsDid session a r old mid → old.contexts ≤ old.last_ends → not (is_late r) ≡ true
not_late session a (gave.Act x) old mid d h = refl
not_late session a (Awaited c (Reached n)) old mid d h = refl
not_late session a (Awaited c AllEnded) old mid d h = refl
not_late session a (Awaited c (Late n)) old mid d h = let x = (d.late c n refl).2 in absurd (omega (arith, x, d.contexts, d.last_ends, h))

over_by : (session : ℕ) (a : Action) (r : ActionResult) (rs : List ActionResult) (old mid : Standing) → IsDid session a r old mid → (mid.contexts ≤ mid.last_ends → list_all (λ x. not (is_late x)) rs ≡ true) → (if is_all_ended r then list_all (λ x. not (is_late x)) rs else true) ≡ true
over_by session a (gave.Act x) rs old mid d h = refl
over_by session a (Awaited c (Reached n)) rs old mid d h = refl
over_by session a (Awaited c AllEnded) rs old mid d h = h (d.all_ended c refl)
over_by session a (Awaited c (Late n)) rs old mid d h = refl

found_by : (session : ℕ) (a : Action) (r : ActionResult) (old mid : Standing) → IsDid session a r old mid → is_all_ended r ≡ true → mid.contexts ≤ mid.last_ends
found_by session a (gave.Act x) old mid d h = absurd (false≢true h)
found_by session a (Awaited c (Reached n)) old mid d h = absurd (false≢true h)
found_by session a (Awaited c AllEnded) old mid d h = d.all_ended c refl
found_by session a (Awaited c (Late n)) old mid d h = absurd (false≢true h)

is_ended_so : (r : ActionResult) (c : ℕ) → r ≡ Awaited c AllEnded → is_all_ended r ≡ true
is_ended_so r c e = ap is_all_ended e

cons_is : {A : Type 0} (o : Option A) (xs : List A) → option_to_list o ++ xs ≡ cons_option o xs
cons_is None xs = refl
cons_is (Some x) xs = refl

one_more : (session : ℕ) (a : Action) (rest : List Action) (r : ActionResult) (rs : List ActionResult) (old mid new : Standing) → IsDid session a r old mid → From session rest rs mid new → From session (a ∷ rest) (r ∷ rs) old new
one_more session a rest r rs old mid new d f = record {
  contexts = f.contexts ∙ d.contexts;
  each = and_from (is_of a r) (are_of rest rs) d.of f.each;
  last = le_trans d.last f.last;
  last_ends = le_trans d.last_ends f.last_ends;
  counts = All-cons (FitsCount (new.last_answers session)) r rs (record {
    reached = λ c n e. let x = d.reached c n e in (x.1, omega (arith, x.0, f.last));
    late = λ c n e. let x = d.late c n e in (x.1, omega (arith, x.0, f.last));
  }) f.counts;
  above = joined_above (old.last_answers session) (mid.last_answers session) (told_by r) (filter_map told_by rs) d.last (told_is session a r old mid d) f.above;
  rising = joined_rising (mid.last_answers session) (told_by r) (filter_map told_by rs) (told_is session a r old mid d) f.above f.rising;
  never = λ h. and_from (not (is_late r)) (list_all (λ x. not (is_late x)) rs) (not_late session a r old mid d h) (f.never (omega (arith, h, d.contexts, d.last_ends)));
  over = and_from (if is_all_ended r then list_all (λ x. not (is_late x)) rs else true) (none_late_after_end rs) (over_by session a r rs old mid d f.never) f.over;
  own = omega (arith, d.own, f.own);
  ends = omega (arith, d.ends, f.ends);
  found = λ h. ⊎_elim (λ x. let y = found_by session a r old mid d x in omega (arith, y, f.contexts, f.last_ends)) f.found (or_cases (is_all_ended r) (list_any is_all_ended rs) h);
  replies = f.replies ∙ ap (λ xs. xs ++ filter_map act_in rs) d.replies ∙ append_assoc old.replies (option_to_list (act_in r)) (filter_map act_in rs) ∙ ap (λ xs. old.replies ++ xs) (cons_is (act_in r) (filter_map act_in rs));
  sights = f.sights ∙ d.sights;
  numbers = λ k. f.numbers k ∙ d.numbers k;
  running = λ h lt. let parts = or_parts (is_all_ended r) (list_any is_all_ended rs) h in f.running parts.1 (d.running (λ c e. absurd (false≢true (sym parts.0 ∙ is_ended_so r c e))) lt);
}

all_done : (session : ℕ) (script : List Action) (rs : List ActionResult) (old new : Standing) → AreDone session script rs old new → From session script rs old new
all_done session [] [] old new d = none_done session old new d
all_done session (a ∷ rest) (r ∷ rs) old new d = one_more session a rest r rs old d.0 new (did session a r old d.0 d.1) (all_done session rest rs d.0 new d.2)
all_done session [] (r ∷ rs) old new d = absurd d
all_done session (a ∷ rest) [] old new d = absurd d

pub results_are_told : ResultsAreTold
results_are_told session script rs old new first d =
    let f = all_done session script rs old new d in
    record {
      results = record {
        each = f.each;
        counts = f.counts;
        rising = f.rising;
        over = f.over;
        own_loads = omega (arith, f.own, first.loads);
        ends_loads = omega (arith, f.ends, first.end_loads);
        ended = (λ h. ⊎_elim (λ e. e) (λ e. let lt = f.running e (omega (arith, first.last_ends, first.some)) in absurd (omega (arith, lt, h, f.contexts))) (cases_Bool (list_any is_all_ended rs)), λ e. let h = f.found e in omega (arith, h, f.contexts));
      };
      replies = f.replies;
      sights = f.sights;
      numbers = f.numbers;
      contexts = f.contexts;
    }
