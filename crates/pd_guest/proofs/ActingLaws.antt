-- What acts do to a board, and to what is kept of a context.
use Rattle.std.proofs.Common.{◌≡◌, ℕ, suc, ◌≤◌, ◌+◌, Bool, true, false, ◌||◌, List, [], ◌∷◌, ◌++◌, map, length, take, get_or, ◌<◌, refl, sym, ap, ◌∙◌, subst, ⊎_elim, arith}
use Rattle.std.specs.Prelude.{◌==◌, nat_lt}
use Rattle.std.specs.List.{All, AllByRecursion, list_all, list_any}
use Rattle.std.specs.Option.{ForSome}
use Rattle.std.proofs.lemmas.Bool.{cases_Bool, eqb-true}
use Rattle.std.proofs.lemmas.List.{map-append, append_assoc, append-nil, take_more}
use Rattle.std.proofs.lemmas.List.Elements.{recursion_from_All, All-from_recursion}
use Rattle.std.proofs.lemmas.List.Folds.{list_any-append}
use Rattle.pd_tree.specs.Program.{Program}
use Rattle.pd_machine.specs.Events.{Told}
use Rattle.pd_plan.specs.declared.plan.Plan.{Plan}
use Rattle.pd_log.specs.declared.Entry.{Entry}
use Rattle.pd_board.specs.declared.answers.Known.{Known}
use Rattle.pd_board.specs.declared.answers.Known.TheVariants.{Fresh, Attached, Disposed}
use Rattle.pd_board.specs.declared.answers.Attach.{Attach}
use Rattle.pd_board.specs.declared.answers.Attach.TheVariants as attaches
use Rattle.pd_board.specs.declared.answers.Dispose.{Dispose}
use Rattle.pd_board.specs.declared.answers.Dispose.TheVariants as disposes
use Rattle.pd_board.specs.declared.answers.Toggle.{Toggle}
use Rattle.pd_board.specs.declared.answers.Toggle.TheVariants as toggles
use Rattle.pd_board.specs.declared.answers.ActResult.{ActResult}
use Rattle.pd_board.specs.declared.answers.ActResult.TheVariants as acts
use Rattle.pd_board.specs.Answers.{stage, NumbersBelow, TogglesUpTo, toggle_count, is_attach, has_attach}
use Rattle.pd_board.specs.Standing.{Standing}
use Rattle.pd_record.specs.Logs.{moments_of}
use Rattle.pd_board.specs.Order.{says_gone}
use Rattle.pd_record.specs.Served.{IsServed}
use Rattle.pd_record.specs.Serving.{IsCurrent, log_at}
use Rattle.pd_record.specs.Step.{IsActStep}
use Rattle.pd_record.specs.Turning.{IsDone}
use Rattle.pd_record.proofs.ActSteps.{attach-own, attach-other, dispose-own, dispose-other, enable-own, enable-other, disable-own, disable-other}
use Rattle.pd_record.proofs.ServingLaws.{serving-act}
use Rattle.pd_guest.specs.declared.deliver.Deliveries.{Deliveries}
use Rattle.pd_guest.specs.declared.serving.Opened.{Opened}
use Rattle.pd_guest.specs.Delivering.{HasReplies}
use Rattle.pd_guest.specs.Keeping.{IsOpened, IsKeptAt}
use Rattle.pd_plan.specs.declared.plan.Act.{Act}
use Rattle.pd_guest.specs.Replying.{act_of}
use Rattle.pd_guest.specs.Acting.{AreKnown, IsActDone, AreActsDone}

-- ---- one act

any_map : (test : ActResult → Bool) (done : List (ℕ × ActResult)) → list_any test (map (λ (a : ℕ × ActResult). a.1) done) ≡ list_any (λ (a : ℕ × ActResult). test a.1) done
any_map test [] = refl
any_map test (a ∷ rest) = ap (λ x. test a.1 || x) (any_map test rest)

gone_from : (k l : Known) → stage k ≤ stage l → k ≡ Disposed → l ≡ Disposed
gone_from Fresh l h e = cc
gone_from Attached l h e = cc
gone_from Disposed Fresh h e = absurd (omega (arith, h))
gone_from Disposed Attached h e = absurd (omega (arith, h))
gone_from Disposed Disposed h e = refl

module _ (c : ℕ) (r : ActResult) (old new : Standing) (same : new ≡ record old { replies = new.replies; known = new.known; spare = new.spare })
    (other : (b : ℕ) → (b == c) ≡ false → new.known b ≡ old.known b) (forward : stage (old.known c) ≤ stage (new.known c)) where
  forward_all : (b : ℕ) → stage (old.known b) ≤ stage (new.known b)
  forward_all b = ⊎_elim
      (λ (k : (b == c) ≡ true). subst (λ y. stage (old.known y) ≤ stage (new.known y)) (sym (eqb-true b c k)) forward)
      (λ (k : (b == c) ≡ false). let e : stage (new.known b) ≡ stage (old.known b) = ap stage (other b k) in omega (arith, e))
      (cases_Bool (b == c))

  stays_all : (b : ℕ) → old.known b ≡ Disposed → new.known b ≡ Disposed
  stays_all b = gone_from (old.known b) (new.known b) (forward_all b)

  step_by : (plan : Plan) (p : Program) (ts : List Told) (done : List (ℕ × ActResult))
      → IsDone c (old.known c) (moments_of plan p old.sights ts c) done r (new.known c)
      → ((b : ℕ) → (c == b) ≡ false → IsDone b (old.known b) (moments_of plan p old.sights ts b) done r (new.known b))
      → IsActStep plan p ts done r old new
  step_by plan p ts done own others = record {
    table = ap (λ s. s.table) same;
    sights = ap (λ s. s.sights) same;
    sight_loads = ap (λ s. s.sight_loads) same;
    passes = ap (λ s. s.passes) same;
    loads = ap (λ s. s.loads) same;
    all_loads = ap (λ s. s.all_loads) same;
    forward = forward_all;
    is_done = λ b. ⊎_elim
        (λ (k : (c == b) ≡ true). subst (λ y. IsDone y (old.known y) (moments_of plan p old.sights ts y) done r (new.known y)) (eqb-true c b k) own)
        (λ (k : (c == b) ≡ false). others b k)
        (cases_Bool (c == b));
  }

ends_by : (c : ℕ) (done : List (ℕ × ActResult)) (s : Standing) → AreKnown done s → list_any (says_gone c) (map (λ (a : ℕ × ActResult). a.1) done) ≡ true → s.known c ≡ Disposed
ends_by c done s known h = known c (sym (any_map (says_gone c) done) ∙ h)

-- ---- each kind of act, by what a board's clauses say

fresh_not : (k : Known) → 1 ≤ stage k → k ≡ Fresh → ⊥
fresh_not Fresh h e = omega (arith, h)
fresh_not Attached h e = cc
fresh_not Disposed h e = cc

at_most_gone : (k l : Known) → l ≡ Disposed → stage k ≤ stage l
at_most_gone k Fresh e = cc
at_most_gone k Attached e = cc
at_most_gone Fresh Disposed e = omega arith
at_most_gone Attached Disposed e = omega arith
at_most_gone Disposed Disposed e = omega arith

pub attached : (c : ℕ) (a : Attach) (old new : Standing) → new ≡ record old { replies = new.replies; known = new.known; spare = new.spare }
    → ((b : ℕ) → (b == c) ≡ false → new.known b ≡ old.known b) → stage (old.known c) ≤ stage (new.known c) → 1 ≤ stage (new.known c)
    → (a ≡ attaches.Attached → old.known c ≡ Fresh)
    → ((a ≡ attaches.Already → ⊥) → NumbersBelow c 0 old.sights)
    → ((a ≡ attaches.Already → ⊥) → has_attach c old.replies ≡ false)
    → (a ≡ attaches.Gone → new.known c ≡ Disposed)
    → IsActDone (acts.Attached c a) old new
attached c a old new same other forward known first number reply gone =
    let stays : (b : ℕ) → old.known b ≡ Disposed → new.known b ≡ Disposed = stays_all c (acts.Attached c a) old new same other forward in
    record {
      step = λ plan p ts done stood ended. step_by c (acts.Attached c a) old new same other forward plan p ts done
          (attach-own plan p old.sights ts c done old.known new.known stays (ends_by c done old ended) a first number (λ h. stood.attaches c (reply h)) gone)
          (attach-other plan p old.sights ts c done old.known new.known stays (ends_by c done old ended) a);
      known = λ b h. fresh_not (new.known b) (subst (λ y. 1 ≤ stage (new.known y)) (eqb-true c b h) known);
      same = same;
    }

pub disposed : (c : ℕ) (a : Dispose) (old new : Standing) → new ≡ record old { replies = new.replies; known = new.known; spare = new.spare }
    → ((b : ℕ) → (b == c) ≡ false → new.known b ≡ old.known b)
    → ((a ≡ disposes.Already → ⊥) → old.known c ≡ Disposed → ⊥) → new.known c ≡ Disposed
    → IsActDone (acts.Disposed c a) old new
disposed c a old new same other first known =
    let forward : stage (old.known c) ≤ stage (new.known c) = at_most_gone (old.known c) (new.known c) known in
    let stays : (b : ℕ) → old.known b ≡ Disposed → new.known b ≡ Disposed = stays_all c (acts.Disposed c a) old new same other forward in
    record {
      step = λ plan p ts done stood ended. step_by c (acts.Disposed c a) old new same other forward plan p ts done
          (dispose-own plan p old.sights ts c done old.known new.known stays (ends_by c done old ended) a first known)
          (dispose-other plan p old.sights ts c done old.known new.known stays (ends_by c done old ended) a);
      known = λ b h. absurd (false_true h);
      same = same;
    }
  where
    false_true : false ≡ true → ⊥
    false_true e = cc

toggle_forward : (a : Toggle) (k l : Known) → (a ≡ toggles.Gone → l ≡ Disposed) → ((a ≡ toggles.Gone → ⊥) → l ≡ k) → stage k ≤ stage l
toggle_forward (toggles.At n) k l gone stays = let e : stage l ≡ stage k = ap stage (stays (λ x. cc)) in omega (arith, e)
toggle_forward toggles.Already k l gone stays = let e : stage l ≡ stage k = ap stage (stays (λ x. cc)) in omega (arith, e)
toggle_forward toggles.Gone k l gone stays = at_most_gone k l (gone refl)

pub enabled : (c : ℕ) (a : Toggle) (old new : Standing) → new ≡ record old { replies = new.replies; known = new.known; spare = new.spare }
    → ((b : ℕ) → (b == c) ≡ false → new.known b ≡ old.known b)
    → ((n : ℕ) → a ≡ toggles.At n → NumbersBelow c n old.sights) → (old.known c ≡ Disposed → a ≡ toggles.Gone)
    → (a ≡ toggles.Gone → new.known c ≡ Disposed) → ((a ≡ toggles.Gone → ⊥) → new.known c ≡ old.known c)
    → IsActDone (acts.Enabled c a) old new
enabled c a old new same other count was_gone gone not_gone =
    let forward : stage (old.known c) ≤ stage (new.known c) = toggle_forward a (old.known c) (new.known c) gone not_gone in
    let stays : (b : ℕ) → old.known b ≡ Disposed → new.known b ≡ Disposed = stays_all c (acts.Enabled c a) old new same other forward in
    record {
      step = λ plan p ts done stood ended. step_by c (acts.Enabled c a) old new same other forward plan p ts done
          (enable-own plan p old.sights ts c done old.known new.known stays (ends_by c done old ended) a count was_gone gone)
          (enable-other plan p old.sights ts c done old.known new.known stays (ends_by c done old ended) a);
      known = λ b h. absurd (false_true h);
      same = same;
    }
  where
    false_true : false ≡ true → ⊥
    false_true e = cc

pub disabled : (c : ℕ) (a : Toggle) (old new : Standing) → new ≡ record old { replies = new.replies; known = new.known; spare = new.spare }
    → ((b : ℕ) → (b == c) ≡ false → new.known b ≡ old.known b)
    → ((n : ℕ) → a ≡ toggles.At n → NumbersBelow c n old.sights) → (old.known c ≡ Disposed → a ≡ toggles.Gone)
    → (a ≡ toggles.Gone → new.known c ≡ Disposed) → ((a ≡ toggles.Gone → ⊥) → new.known c ≡ old.known c)
    → IsActDone (acts.Disabled c a) old new
disabled c a old new same other count was_gone gone not_gone =
    let forward : stage (old.known c) ≤ stage (new.known c) = toggle_forward a (old.known c) (new.known c) gone not_gone in
    let stays : (b : ℕ) → old.known b ≡ Disposed → new.known b ≡ Disposed = stays_all c (acts.Disabled c a) old new same other forward in
    record {
      step = λ plan p ts done stood ended. step_by c (acts.Disabled c a) old new same other forward plan p ts done
          (disable-own plan p old.sights ts c done old.known new.known stays (ends_by c done old ended) a count was_gone gone)
          (disable-other plan p old.sights ts c done old.known new.known stays (ends_by c done old ended) a);
      known = λ b h. absurd (false_true h);
      same = same;
    }
  where
    false_true : false ≡ true → ⊥
    false_true e = cc

-- ---- what is kept

parts_of : {X : Type 0} (P : X → Type 0) (xs : List X) (x : X) → AllByRecursion P (xs ++ x ∷ []) → AllByRecursion P xs × P x
parts_of P [] x h = (tt, h.0)
parts_of P (y ∷ ys) x h = let r = parts_of P ys x h.1 in ((h.0, r.0), r.1)

joins : {X : Type 0} (P : X → Type 0) (xs : List X) (x : X) → AllByRecursion P xs → P x → AllByRecursion P (xs ++ x ∷ [])
joins P [] x h p = (p, tt)
joins P (y ∷ ys) x h p = (h.0, joins P ys x h.1 p)

neither : (x y : Bool) → (x || y) ≡ false → (x ≡ false) × (y ≡ false)
neither true y h = absurd (true_false h)
  where
    true_false : true ≡ false → ⊥
    true_false e = cc
neither false y h = (refl, h)

both_not : (x y : Bool) → x ≡ false → y ≡ false → (x || y) ≡ false
both_not true y h k = h
both_not false y h k = k

stood_more : (done : List (ℕ × ActResult)) (n : ℕ) (r : ActResult) (old new : Standing) → new.replies ≡ old.replies ++ r ∷ [] → HasReplies done old → HasReplies (done ++ (n, r) ∷ []) new
stood_more done n r old new e has = record {
  counts = λ b m h.
      let test : ActResult → Type 0 = λ x. ForSome (toggle_count b x) (λ c. c ≤ m) in
      let all = parts_of test old.replies r (recursion_from_All test (old.replies ++ r ∷ []) (subst (λ rs. TogglesUpTo b m rs) e h)) in
      subst (λ rs. TogglesUpTo b m rs) (sym (map-append (λ (a : ℕ × ActResult). a.1) done ((n, r) ∷ [])))
      (All-from_recursion test (map (λ (a : ℕ × ActResult). a.1) done ++ r ∷ [])
      (joins test (map (λ (a : ℕ × ActResult). a.1) done) r (recursion_from_All test (map (λ (a : ℕ × ActResult). a.1) done) (has.counts b m (All-from_recursion test old.replies all.0))) all.1));
  attaches = λ b h.
      let split = neither (has_attach b old.replies) (list_any (is_attach b) (r ∷ [])) (sym (list_any-append (is_attach b) old.replies (r ∷ [])) ∙ ap (has_attach b) (sym e) ∙ h) in
      ap (has_attach b) (map-append (λ (a : ℕ × ActResult). a.1) done ((n, r) ∷ []))
      ∙ list_any-append (is_attach b) (map (λ (a : ℕ × ActResult). a.1) done) (r ∷ [])
      ∙ both_not (has_attach b (map (λ (a : ℕ × ActResult). a.1) done)) (list_any (is_attach b) (r ∷ [])) (has.attaches b split.0) split.1;
}

next_is : (n : ℕ) → suc n ≡ n + 1
next_is n = omega arith

pub are-known : (plan : Plan) (p : Program) (start : ℕ → Known) (n : ℕ) (ts : List Told) (done : List (ℕ × ActResult)) (s : Standing) (opens : List Opened) (kept : Deliveries)
    → IsKeptAt plan p start n ts done s opens kept → AreKnown done s
are-known plan p start n ts done s opens kept k c h = (k.current.served c).acted.disposed_known h

pub kept-act : (plan : Plan) (p : Program) (start : ℕ → Known) (n : ℕ) (ts : List Told) (done : List (ℕ × ActResult)) (opens : List Opened) (kept : Deliveries) (r : ActResult) (old new : Standing)
    → IsActDone r old new → new.replies ≡ old.replies ++ r ∷ []
    → IsKeptAt plan p start (n + 1) ts done old opens kept → IsKeptAt plan p start (n + 1) ts (done ++ (n, r) ∷ []) new opens kept
kept-act plan p start n ts done opens kept r old new act replies k =
    let known : AreKnown done old = are-known plan p start (n + 1) ts done old opens kept k in
    let same_table = ap (λ s. s.table) act.same in
    let same_sights = ap (λ s. s.sights) act.same in
    record {
      current = subst (λ m. IsCurrent plan p kept.context start m ts (done ++ (n, r) ∷ []) new kept.logs.items) (next_is n)
          (serving-act plan p kept.context start ts done n r old new kept.logs.items (act.step plan p ts done k.stood known) act.known
          (subst (λ m. IsCurrent plan p kept.context start m ts done old kept.logs.items) (sym (next_is n)) k.current));
      stood = stood_more done n r old new replies k.stood;
      table = same_table ∙ k.table;
      nodes = ap (λ s. s.nodes) act.same ∙ k.nodes;
      seen = k.seen ∙ sym same_sights;
      count = k.count ∙ sym (ap (λ t. length t.rows) same_table);
      rows = subst (λ t. length t.rows ≤ 4096) (sym same_table) k.rows;
      bound = ap (λ t. list_all (λ x. nat_lt x.binding (length t.rows)) new.sights) same_table ∙ ap (λ ss. list_all (λ x. nat_lt x.binding (length old.table.rows)) ss) same_sights ∙ k.bound;
      opened = subst (λ ss. All (IsOpened plan ss (n + 1)) opens) (sym same_sights) k.opened;
      open_are = k.open_are;
      few = k.few;
      share = let e = ap (λ s. s.draw_share) act.same in omega (arith, e, k.share);
      cleared = let e = ap (λ s. s.cleared) act.same in omega (arith, e, k.cleared);
      loads = let e = ap (λ s. s.all_loads) act.same in omega (arith, e, k.loads);
      nothing_due = λ b. ap (λ s. s.due b) act.same ∙ k.nothing_due b;
      is_open = ap (λ s. s.ended) act.same ∙ k.is_open;
    }

-- room, and the answers of sessions, change nothing
served_else : (plan : Plan) (p : Program) (context : ℕ) (start : Known) (s : Standing) (numbers : ℕ → List ℕ) (shares : ℕ → ℕ) (spare : ℕ) (log : List Entry) (ts : List Told) (done : List (ℕ × ActResult)) (b : ℕ)
    → IsServed plan p context start s log ts done b → IsServed plan p context start (record s { numbers = numbers; answer_share = shares; spare = spare }) log ts done b
served_else plan p context start s numbers shares spare log ts done b i = record { log_is = i.log_is; life = i.life; acted = i.acted; rising = i.rising; none = i.none; ends = i.ends }

kept_else : (plan : Plan) (p : Program) (start : ℕ → Known) (n : ℕ) (ts : List Told) (done : List (ℕ × ActResult)) (opens : List Opened) (kept : Deliveries) (s : Standing) (numbers : ℕ → List ℕ) (shares : ℕ → ℕ) (spare : ℕ)
    → IsKeptAt plan p start n ts done s opens kept → IsKeptAt plan p start n ts done (record s { numbers = numbers; answer_share = shares; spare = spare }) opens kept
kept_else plan p start n ts done opens kept s numbers shares spare k = record {
  current = record {
    seen = k.current.seen;
    all = k.current.all;
    served = λ b. served_else plan p kept.context (start b) s numbers shares spare (log_at kept.logs.items b) ts done b (k.current.served b);
    below = k.current.below;
    acts_below = k.current.acts_below;
    tried = k.current.tried;
  };
  stood = record { counts = k.stood.counts; attaches = k.stood.attaches };
  table = k.table;
  nodes = k.nodes;
  seen = k.seen;
  count = k.count;
  rows = k.rows;
  bound = k.bound;
  opened = k.opened;
  open_are = k.open_are;
  few = k.few;
  share = k.share;
  cleared = k.cleared;
  loads = k.loads;
  nothing_due = k.nothing_due;
  is_open = k.is_open;
}

pub kept-else : (plan : Plan) (p : Program) (start : ℕ → Known) (n : ℕ) (ts : List Told) (done : List (ℕ × ActResult)) (opens : List Opened) (kept : Deliveries) (old new : Standing)
    → new ≡ record old { numbers = new.numbers; answer_share = new.answer_share; spare = new.spare }
    → IsKeptAt plan p start n ts done old opens kept → IsKeptAt plan p start n ts done new opens kept
kept-else plan p start n ts done opens kept old new same k =
    subst (λ s. IsKeptAt plan p start n ts done s opens kept) (sym same) (kept_else plan p start n ts done opens kept old new.numbers new.answer_share new.spare k)

pub kept-room : (plan : Plan) (p : Program) (start : ℕ → Known) (n : ℕ) (ts : List Told) (done : List (ℕ × ActResult)) (opens : List Opened) (kept : Deliveries) (old new : Standing)
    → new ≡ record old { spare = new.spare }
    → IsKeptAt plan p start n ts done old opens kept → IsKeptAt plan p start n ts done new opens kept
kept-room plan p start n ts done opens kept old new same k =
    subst (λ s. IsKeptAt plan p start n ts done s opens kept) (sym same) (kept_else plan p start n ts done opens kept old old.numbers old.answer_share new.spare k)

-- ---- one more act

pub acts-none : (s : Standing) → AreActsDone [] s s
acts-none s = record {
  kept = λ plan p start n ts done opens kept k. subst (λ d. IsKeptAt plan p start (n + 1) ts d s opens kept) (sym (append-nil done)) k;
  replies = sym (append-nil s.replies);
  same = refl;
}

same_on : (old mid roomy new : Standing) → mid ≡ record old { replies = mid.replies; known = mid.known; spare = mid.spare } → roomy ≡ record mid { spare = roomy.spare } → new ≡ record roomy { replies = new.replies; known = new.known; spare = new.spare }
    → new ≡ record old { replies = new.replies; known = new.known; spare = new.spare }
same_on old mid roomy new first room second =
    let over : Standing → Standing = λ s. record s { replies = new.replies; known = new.known; spare = new.spare } in
    let a : over roomy ≡ over mid = ap over room in
    let b : over mid ≡ over old = ap over first in
    second ∙ a ∙ b

pub acts-more : (rs : List ActResult) (r : ActResult) (old mid roomy new : Standing)
    → AreActsDone rs old mid → roomy ≡ record mid { spare = roomy.spare } → IsActDone r roomy new → new.replies ≡ roomy.replies ++ r ∷ [] → AreActsDone (rs ++ r ∷ []) old new
acts-more rs r old mid roomy new before room act replies = record {
  kept = λ plan p start n ts done opens kept k.
      let first = before.kept plan p start n ts done opens kept k in
      let made = kept-room plan p start (n + 1) ts (done ++ map (λ x. (n, x)) rs) opens kept mid roomy room first in
      let more = kept-act plan p start n ts (done ++ map (λ x. (n, x)) rs) opens kept r roomy new act replies made in
      subst (λ d. IsKeptAt plan p start (n + 1) ts d new opens kept)
      (append_assoc done (map {B = ℕ × ActResult} (λ x. (n, x)) rs) ((n, r) ∷ []) ∙ ap (λ x. done ++ x) (sym (map-append {B = ℕ × ActResult} (λ x. (n, x)) rs (r ∷ [])))) more;
  replies = replies ∙ ap (λ x. x ++ r ∷ []) (ap (λ s. s.replies) room ∙ before.replies) ∙ append_assoc old.replies rs (r ∷ []);
  same = same_on old mid roomy new before.same room act.same;
}

pub same-acts : (rs : List ActResult) (r : ActResult) (acts : List Act) (i : ℕ) (d : Act) → i < length acts → map act_of rs ≡ take i acts → act_of r ≡ get_or acts i d
    → map act_of (rs ++ r ∷ []) ≡ take (i + 1) acts
same-acts rs r acts i d h before here =
    map-append act_of rs (r ∷ []) ∙ ap (λ x. x ++ act_of r ∷ []) before ∙ ap (λ x. take i acts ++ x ∷ []) here ∙ sym (take_more acts i d h)
