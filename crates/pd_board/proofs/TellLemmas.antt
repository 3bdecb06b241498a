-- What the answer of an act says of its binding, and of every other one.
use Rattle.std.proofs.Common.{◌≡◌, ◌≢◌, ℕ, ◌+◌, ◌<◌, ◌==◌, ◌&&◌, ◌||◌, not, Bool, true, false, if◌then◌else◌, List, [], ◌∷◌, ◌++◌, length, length-set, get_or-set_other, slice_set, Some, None, inl, inr, sym, ◌∙◌, ap, refl, arith, subst}
use Rattle.std.proofs.lemmas.Bool.{cases_Bool, and_from}
use Rattle.std.proofs.lemmas.Grind.{get_or-set_at}
use Rattle.std.specs.Bool.{beq}
use Rattle.pd_board.specs.declared.answers.Attach.{Attach}
use Rattle.pd_board.specs.declared.answers.Attach.TheVariants as attaches
use Rattle.pd_board.specs.declared.answers.Dispose.{Dispose}
use Rattle.pd_board.specs.declared.answers.Dispose.TheVariants as disposes
use Rattle.pd_board.specs.declared.answers.Toggle.{Toggle}
use Rattle.pd_board.specs.declared.answers.Toggle.TheVariants as toggles
use Rattle.pd_board.specs.declared.answers.Drawn.TheVariants as drawns
use Rattle.pd_board.specs.declared.answers.ActResult.{ActResult}
use Rattle.pd_board.specs.declared.answers.ActResult.TheVariants as acts
use Rattle.pd_board.specs.declared.answers.Sight.{Sight}
use Rattle.pd_board.specs.declared.life.Life.{Life}
use Rattle.pd_board.specs.Life as life
use Rattle.pd_board.specs.Answers.{has_dispose, number_of, number_in}
use Rattle.pd_board.specs.Kept.{life_at, TellsAll, IsMissed, FitsToggles, Tells, attach_follows}
use Rattle.pd_board.proofs.ChainLemmas.{by_eq}
use Rattle.pd_board.proofs.KeptLemmas.{Replies, told_more, seen_none, seen_next}

if_other : (b c n m : ℕ) → b ≢ c → (if b == c then Some n else None) ≡ Some m → ⊥
if_other b c n m other e = grind arith

if_same : (b n m : ℕ) → (if b == b then Some n else None) ≡ Some m → n ≡ m
if_same b n m e = grind arith

-- ---- of another binding

pub other_attach : (c b : ℕ) (s : Life) (a : Attach) → b ≢ c → Replies c s s (acts.Attached b a)
other_attach c b s a other = record {
  count = refl;
  attached = grind arith;
  disposed = grind arith;
  disposals = grind arith;
  attachment = λ live. grind arith;
  final = λ n e. absurd (cc e);
  counted = λ n e. absurd (cc e);
  off = λ n _. refl;
  disables = λ n _. refl;
  enables = λ n _. refl;
  switched = refl;
  answers = λ before _ _ _. grind arith;
}

pub other_dispose : (c b : ℕ) (s : Life) (a : Dispose) → b ≢ c → Replies c s s (acts.Disposed b a)
other_dispose c b s (disposes.Disposed m) other = record {
  count = refl;
  attached = grind arith;
  disposed = grind arith;
  disposals = grind arith;
  attachment = λ _. refl;
  final = λ n e. absurd (if_other b c m n other e);
  counted = λ n e. absurd (cc e);
  off = λ n _. refl;
  disables = λ n _. refl;
  enables = λ n _. refl;
  switched = refl;
  answers = λ before _ _ _. grind arith;
}
other_dispose c b s disposes.Already other = record {
  count = refl;
  attached = grind arith;
  disposed = grind arith;
  disposals = grind arith;
  attachment = λ _. refl;
  final = λ n e. absurd (cc e);
  counted = λ n e. absurd (cc e);
  off = λ n _. refl;
  disables = λ n _. refl;
  enables = λ n _. refl;
  switched = refl;
  answers = λ before _ _ _. grind arith;
}

pub other_disable : (c b : ℕ) (s : Life) (a : Toggle) → b ≢ c → Replies c s s (acts.Disabled b a)
other_disable c b s (toggles.At m) other = record {
  count = refl;
  attached = grind arith;
  disposed = grind arith;
  disposals = grind arith;
  attachment = λ _. refl;
  final = λ n e. absurd (cc e);
  counted = λ n e. absurd (if_other b c m n other e);
  off = λ n _. grind arith;
  disables = λ n _. grind arith;
  enables = λ n _. refl;
  switched = grind arith;
  answers = λ before _ _ _. grind arith;
}
other_disable c b s _ other = record {
  count = refl;
  attached = grind arith;
  disposed = grind arith;
  disposals = grind arith;
  attachment = λ _. refl;
  final = λ n e. absurd (cc e);
  counted = λ n e. absurd (cc e);
  off = λ n _. refl;
  disables = λ n _. refl;
  enables = λ n _. refl;
  switched = refl;
  answers = λ before _ _ _. grind arith;
}

pub other_enable : (c b : ℕ) (s : Life) (a : Toggle) → b ≢ c → Replies c s s (acts.Enabled b a)
other_enable c b s (toggles.At m) other = record {
  count = refl;
  attached = grind arith;
  disposed = grind arith;
  disposals = grind arith;
  attachment = λ _. refl;
  final = λ n e. absurd (cc e);
  counted = λ n e. absurd (if_other b c m n other e);
  off = λ n _. grind arith;
  disables = λ n _. refl;
  enables = λ n _. grind arith;
  switched = grind arith;
  answers = λ before _ _ _. grind arith;
}
other_enable c b s _ other = record {
  count = refl;
  attached = grind arith;
  disposed = grind arith;
  disposals = grind arith;
  attachment = λ _. refl;
  final = λ n e. absurd (cc e);
  counted = λ n e. absurd (cc e);
  off = λ n _. refl;
  disables = λ n _. refl;
  enables = λ n _. refl;
  switched = refl;
  answers = λ before _ _ _. grind arith;
}

-- ---- of the binding itself

attach_shape : (p q : Bool) → attach_follows p q (if p then attaches.Already else if q then attaches.Gone else attaches.Attached) ≡ true
attach_shape true q = refl
attach_shape false true = refl
attach_shape false false = refl

or_second : (x y : Bool) → y ≡ true → (x || y) ≡ true
or_second true y e = refl
or_second false y e = e

pub own_attach : (b : ℕ) (s : Life) → Replies b s (life.after_attach s) (acts.Attached b (life.attached s))
own_attach b s = record {
  count = refl;
  attached = grind arith;
  disposed = grind arith;
  disposals = grind arith;
  attachment = λ live. grind arith;
  final = λ n e. absurd (cc e);
  counted = λ n e. absurd (cc e);
  off = λ n _. refl;
  disables = λ n _. refl;
  enables = λ n _. refl;
  switched = refl;
  answers = λ before p q _. or_second _ _ (subst (λ (x : Bool). attach_follows x (has_dispose b before) (life.attached s) ≡ true) (sym p) (subst (λ (y : Bool). attach_follows s.attached y (life.attached s) ≡ true) (sym q) (attach_shape s.attached s.disposed)));
}

disposed_first : (b : ℕ) (s : Life) → s.disposed ≡ false → Replies b s (life.after_dispose s) (acts.Disposed b (disposes.Disposed s.count))
disposed_first b s first = record {
  count = refl;
  attached = grind arith;
  disposed = grind arith;
  disposals = grind arith;
  attachment = λ _. refl;
  final = λ n e. (refl, sym (if_same b s.count n e));
  counted = λ n e. absurd (cc e);
  off = λ n _. refl;
  disables = λ n _. refl;
  enables = λ n _. refl;
  switched = refl;
  answers = λ before _ q _. or_second _ _ (ap not (q ∙ first));
}

disposed_again : (b : ℕ) (s : Life) → s.disposed ≡ true → Replies b s (life.after_dispose s) (acts.Disposed b disposes.Already)
disposed_again b s again = record {
  count = refl;
  attached = grind arith;
  disposed = grind arith;
  disposals = grind arith;
  attachment = λ _. refl;
  final = λ n e. absurd (cc e);
  counted = λ n e. absurd (cc e);
  off = λ n _. refl;
  disables = λ n _. refl;
  enables = λ n _. refl;
  switched = refl;
  answers = λ before _ q _. or_second _ _ (q ∙ again);
}

-- a toggle that changes nothing
disable_gone : (b : ℕ) (s : Life) → s.disposed ≡ true → Replies b s s (acts.Disabled b toggles.Gone)
disable_gone b s w = record {
  count = refl;
  attached = grind arith;
  disposed = grind arith;
  disposals = grind arith;
  attachment = λ _. refl;
  final = λ n e. absurd (cc e);
  counted = λ n e. absurd (cc e);
  off = λ n _. refl;
  disables = λ n _. refl;
  enables = λ n _. refl;
  switched = refl;
  answers = λ before _ q _. or_second _ _ (q ∙ w);
}

disable_already : (b : ℕ) (s : Life) → (s.disposed ≡ false) × (s.off ≡ true) → Replies b s s (acts.Disabled b toggles.Already)
disable_already b s w = record {
  count = refl;
  attached = grind arith;
  disposed = grind arith;
  disposals = grind arith;
  attachment = λ _. refl;
  final = λ n e. absurd (cc e);
  counted = λ n e. absurd (cc e);
  off = λ n _. refl;
  disables = λ n _. refl;
  enables = λ n _. refl;
  switched = refl;
  answers = λ before _ q l. or_second _ _ (and_from _ _ (ap not (q ∙ w.0)) (l ∙ w.1));
}

enable_gone : (b : ℕ) (s : Life) → s.disposed ≡ true → Replies b s s (acts.Enabled b toggles.Gone)
enable_gone b s w = record {
  count = refl;
  attached = grind arith;
  disposed = grind arith;
  disposals = grind arith;
  attachment = λ _. refl;
  final = λ n e. absurd (cc e);
  counted = λ n e. absurd (cc e);
  off = λ n _. refl;
  disables = λ n _. refl;
  enables = λ n _. refl;
  switched = refl;
  answers = λ before _ q _. or_second _ _ (q ∙ w);
}

enable_already : (b : ℕ) (s : Life) → (s.disposed ≡ false) × (not s.off ≡ true) → Replies b s s (acts.Enabled b toggles.Already)
enable_already b s w = record {
  count = refl;
  attached = grind arith;
  disposed = grind arith;
  disposals = grind arith;
  attachment = λ _. refl;
  final = λ n e. absurd (cc e);
  counted = λ n e. absurd (cc e);
  off = λ n _. refl;
  disables = λ n _. refl;
  enables = λ n _. refl;
  switched = refl;
  answers = λ before _ q l. or_second _ _ (and_from _ _ (ap not (q ∙ w.0)) (ap not l ∙ w.1));
}

disable_at : (b : ℕ) (s : Life) → s.disposed ≡ false → s.off ≡ false → Replies b s (record s { off = true }) (acts.Disabled b (toggles.At s.count))
disable_at b s live on = record {
  count = refl;
  attached = grind arith;
  disposed = grind arith;
  disposals = grind arith;
  attachment = λ _. refl;
  final = λ n e. absurd (cc e);
  counted = λ n e. let h = if_same b s.count n e in omega arith;
  off = λ n above. grind arith;
  disables = λ n below. grind arith;
  enables = λ n _. refl;
  switched = grind arith;
  answers = λ before _ q l. or_second _ _ (and_from _ _ (ap not (q ∙ live)) (ap not (l ∙ on)));
}

enable_at : (b : ℕ) (s : Life) → s.disposed ≡ false → s.off ≡ true → Replies b s (record s { off = false }) (acts.Enabled b (toggles.At s.count))
enable_at b s live off = record {
  count = refl;
  attached = grind arith;
  disposed = grind arith;
  disposals = grind arith;
  attachment = λ _. refl;
  final = λ n e. absurd (cc e);
  counted = λ n e. let h = if_same b s.count n e in omega arith;
  off = λ n above. grind arith;
  disables = λ n _. refl;
  enables = λ n below. grind arith;
  switched = grind arith;
  answers = λ before _ q l. or_second _ _ (and_from _ _ (ap not (q ∙ live)) (ap (λ o. not (not o)) (l ∙ off)));
}

by_bool : {P : Type 0} (a : Bool) → (a ≡ true → P) → (a ≡ false → P) → P
by_bool {P} a set clear = elim (cases_Bool a) as (λ _. P) [ inl e ↦ set e | inr e ↦ clear e ]

pub own_dispose : (b : ℕ) (s : Life) → Replies b s (life.after_dispose s) (acts.Disposed b (life.disposed s))
own_dispose b s = by_bool s.disposed
    (λ (e : s.disposed ≡ true). subst (λ (a : Dispose). Replies b s (life.after_dispose s) (acts.Disposed b a)) (sym (ap (λ d. if d then disposes.Already else disposes.Disposed s.count) e)) (disposed_again b s e))
    (λ (e : s.disposed ≡ false). subst (λ (a : Dispose). Replies b s (life.after_dispose s) (acts.Disposed b a)) (sym (ap (λ d. if d then disposes.Already else disposes.Disposed s.count) e)) (disposed_first b s e))

pub own_disable : (b : ℕ) (s : Life) → Replies b s (life.after_switch true s) (acts.Disabled b (life.switched true s))
own_disable b s = by_bool s.disposed
    (λ (e : s.disposed ≡ true). subst (λ (d : Bool). Replies b s (if d then s else record s { off = true }) (acts.Disabled b (if d then toggles.Gone else if beq s.off true then toggles.Already else toggles.At s.count))) (sym e)
    (disable_gone b s e))
    (λ (e : s.disposed ≡ false). subst (λ (d : Bool). Replies b s (if d then s else record s { off = true }) (acts.Disabled b (if d then toggles.Gone else if beq s.off true then toggles.Already else toggles.At s.count))) (sym e)
    (by_bool s.off
    (λ (o : s.off ≡ true). subst (λ (x : Bool). Replies b s (record s { off = x }) (acts.Disabled b (if beq s.off true then toggles.Already else toggles.At s.count))) o
    (subst (λ (x : Bool). Replies b s s (acts.Disabled b (if beq x true then toggles.Already else toggles.At s.count))) (sym o) (disable_already b s (e, o))))
    (λ (o : s.off ≡ false). subst (λ (x : Bool). Replies b s (record s { off = true }) (acts.Disabled b (if beq x true then toggles.Already else toggles.At s.count))) (sym o) (disable_at b s e o))))

pub own_enable : (b : ℕ) (s : Life) → Replies b s (life.after_switch false s) (acts.Enabled b (life.switched false s))
own_enable b s = by_bool s.disposed
    (λ (e : s.disposed ≡ true). subst (λ (d : Bool). Replies b s (if d then s else record s { off = false }) (acts.Enabled b (if d then toggles.Gone else if beq s.off false then toggles.Already else toggles.At s.count))) (sym e)
    (enable_gone b s e))
    (λ (e : s.disposed ≡ false). subst (λ (d : Bool). Replies b s (if d then s else record s { off = false }) (acts.Enabled b (if d then toggles.Gone else if beq s.off false then toggles.Already else toggles.At s.count))) (sym e)
    (by_bool s.off
    (λ (o : s.off ≡ true). subst (λ (x : Bool). Replies b s (record s { off = false }) (acts.Enabled b (if beq x false then toggles.Already else toggles.At s.count))) (sym o) (enable_at b s e o))
    (λ (o : s.off ≡ false). subst (λ (x : Bool). Replies b s (record s { off = x }) (acts.Enabled b (if beq s.off false then toggles.Already else toggles.At s.count))) o
    (subst (λ (x : Bool). Replies b s s (acts.Enabled b (if beq x false then toggles.Already else toggles.At s.count))) (sym o) (enable_already b s (e, ap not o))))))

-- ---- all bindings

tells_set : (lives : List Life) (b : ℕ) (new : Life) (sights : List Sight) (replies : List ActResult)
    → Tells b new sights replies → ((c : ℕ) → b ≢ c → c < length lives → Tells c (life_at lives c) sights replies) → TellsAll (slice_set lives b new) sights replies
tells_set lives b new sights replies own others c below =
    let len = length-set lives b new in
    by_eq b c
    (λ (e : b ≡ c). subst (λ (k : ℕ). Tells k (life_at (slice_set lives b new) k) sights replies) e
    (subst (λ (s : Life). Tells b s sights replies) (sym (get_or-set_at lives b b new life.untouched refl (omega arith))) own))
    (λ (e : b ≢ c). subst (λ (s : Life). Tells c s sights replies) (sym (get_or-set_other lives b c new life.untouched (λ (f : c ≡ b). e (sym f)))) (others c e (omega arith)))

pub tells_reply : (lives : List Life) (b : ℕ) (new : Life) (sights : List Sight) (replies : List ActResult) (r : ActResult)
    → b < length lives → Replies b (life_at lives b) new r → ((c : ℕ) (s : Life) → b ≢ c → Replies c s s r)
    → TellsAll lives sights replies → TellsAll (slice_set lives b new) sights (replies ++ r ∷ [])
tells_reply lives b new sights replies r within own others all = tells_set lives b new sights (replies ++ r ∷ [])
    (told_more b (life_at lives b) new sights replies r own (all b within))
    (λ c e below. told_more c (life_at lives c) (life_at lives c) sights replies r (others c (life_at lives c) e) (all c below))

-- ---- sights

fits_off : (b : ℕ) (replies : List ActResult) (event c : ℕ) → FitsToggles b replies (record { event = event; binding = c; drawn = drawns.Off })
fits_off b replies event c = record { place = λ _ p e. absurd (cc e); missed = λ _ p e. absurd (cc e) }

other_fits : (b : ℕ) (replies : List ActResult) (x : Sight) → x.binding ≢ b → FitsToggles b replies x
other_fits b replies x other = record { place = λ same. absurd (other same); missed = λ same. absurd (other same) }

none_by_test : (b : ℕ) (x : Sight) → x.binding ≢ b → number_in b x ≡ None
none_by_test b x other = grind arith

some_by_test : (b : ℕ) (x : Sight) (n : ℕ) → x.binding ≡ b → number_of x.drawn ≡ Some n → number_in b x ≡ Some n
some_by_test b x n same some = grind arith

some_same : (m n : ℕ) → Some m ≡ Some n → m ≡ n
some_same m n e = cc

off_by_test : (b : ℕ) (x : Sight) → number_of x.drawn ≡ None → number_in b x ≡ None
off_by_test b x none = grind arith

-- the sight of a draw on a live binding that is switched on, or off
fits_on : (b n : ℕ) (replies : List ActResult) (event : ℕ) → IsMissed b n false replies → FitsToggles b replies (record { event = event; binding = b; drawn = drawns.On n })
fits_on b n replies event h = record { place = λ _ p e. subst (λ (k : ℕ). IsMissed b k false replies) (some_same n p e) h; missed = λ _ p e. absurd (cc e) }

fits_missed : (b n : ℕ) (replies : List ActResult) (event : ℕ) → IsMissed b n true replies → FitsToggles b replies (record { event = event; binding = b; drawn = drawns.Missed n })
fits_missed b n replies event h = record { place = λ _ p e. absurd (cc e); missed = λ _ p e. subst (λ (k : ℕ). IsMissed b k true replies) (some_same n p e) h }

and_true : (a d : Bool) → (a && not d) ≡ true → (a ≡ true) × (d ≡ false)
and_true a d e = (grind arith, grind arith)

own_draw : (b event : ℕ) (s : Life) (sights : List Sight) (replies : List ActResult) → Tells b s sights replies
    → Tells b (life.after_draw s) (sights ++ record { event = event; binding = b; drawn = life.drawn s } ∷ []) replies
own_draw b event s sights replies t = by_bool (life.live s)
    (λ (l : life.live s ≡ true). let p = and_true s.attached s.disposed l in
    subst (λ (y : Bool). Tells b (if y then record s { count = s.count + 1 } else s) (sights ++ record { event = event; binding = b; drawn = if y then if s.off then drawns.Missed s.count else drawns.On s.count else drawns.Off } ∷ []) replies) (sym l)
    (by_bool s.off
    (λ (o : s.off ≡ true). subst (λ (y : Bool). Tells b (record s { count = s.count + 1 }) (sights ++ record { event = event; binding = b; drawn = if y then drawns.Missed s.count else drawns.On s.count } ∷ []) replies) (sym o)
    (seen_next b s sights replies _ (some_by_test b (record { event = event; binding = b; drawn = drawns.Missed s.count }) s.count refl refl)
    (fits_missed b s.count replies event (subst (λ (y : Bool). IsMissed b s.count y replies) o (t.off s.count (omega arith)))) p.0 p.1 t))
    (λ (o : s.off ≡ false). subst (λ (y : Bool). Tells b (record s { count = s.count + 1 }) (sights ++ record { event = event; binding = b; drawn = if y then drawns.Missed s.count else drawns.On s.count } ∷ []) replies) (sym o)
    (seen_next b s sights replies _ (some_by_test b (record { event = event; binding = b; drawn = drawns.On s.count }) s.count refl refl)
    (fits_on b s.count replies event (subst (λ (y : Bool). IsMissed b s.count y replies) o (t.off s.count (omega arith)))) p.0 p.1 t))))
    (λ (l : life.live s ≡ false).
    subst (λ (y : Bool). Tells b (if y then record s { count = s.count + 1 } else s) (sights ++ record { event = event; binding = b; drawn = if y then if s.off then drawns.Missed s.count else drawns.On s.count else drawns.Off } ∷ []) replies) (sym l)
    (seen_none b s sights replies _ (off_by_test b (record { event = event; binding = b; drawn = drawns.Off }) refl) (fits_off b replies event b) t))

pub tells_draw : (lives : List Life) (b event : ℕ) (sights : List Sight) (replies : List ActResult) → b < length lives
    → TellsAll lives sights replies
    → TellsAll (slice_set lives b (life.after_draw (life_at lives b))) (sights ++ record { event = event; binding = b; drawn = life.drawn (life_at lives b) } ∷ []) replies
tells_draw lives b event sights replies within all =
    let x : Sight = record { event = event; binding = b; drawn = life.drawn (life_at lives b) } in
    tells_set lives b (life.after_draw (life_at lives b)) (sights ++ x ∷ []) replies
    (own_draw b event (life_at lives b) sights replies (all b within))
    (λ c e below. seen_none c (life_at lives c) sights replies x (none_by_test c x e) (other_fits c replies x e) (all c below))
