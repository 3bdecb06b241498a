-- The attaches of all sessions before the run.
use Rattle.std.proofs.Common.{◌≡◌, ℕ, List, [], ◌∷◌, ◌++◌, Bool, true, false, ◌||◌, ◌==◌, sym, refl, ap, ◌∙◌, subst, ⊎_elim, append_assoc}
use Rattle.std.specs.Prelude.{flat_map}
use Rattle.std.specs.List.{list_any}
use Rattle.std.proofs.lemmas.List.Folds.{list_any-append}
use Rattle.std.proofs.lemmas.Bool.{or_cases, false≢true, cases_Bool, cond-true, cond-false, eqb-true}
use Rattle.pd_plan.specs.declared.plan.Script.{Script}
use Rattle.pd_board.specs.declared.answers.ActResult.{ActResult}
use Rattle.pd_board.specs.declared.answers.ActResult.TheVariants as acts
use Rattle.pd_board.specs.declared.answers.Attach.{Attach}
use Rattle.pd_board.specs.declared.answers.Attach.TheVariants as attaches
use Rattle.pd_board.specs.declared.answers.Known.TheVariants as knowns
use Rattle.pd_board.specs.Answers.{is_attach, is_dispose, is_disposal, has_attach, has_dispose, has_disposal}
use Rattle.pd_board.specs.Standing.{Standing}
use Rattle.std.proofs.lemmas.List.{append-nil}
use Rattle.pd_session.specs.Attaching.{IsAttach, IsAsBefore, AreAttached}
use Rattle.pd_session.specs.Before.{attach_answer, answers_behind, befores_behind, AreAllAttached}
use Rattle.pd_session.specs.Laws.{BeforesAreAttached}

abbrev among : List ℕ → ℕ → Bool
among bs b = list_any (λ x. x == b) bs

-- a board on which these were attached, and nothing else was done
record Has (earlier : List ℕ) (s : Standing) : Type 0 where
  alone : s.alone ≡ true
  attached : (c : ℕ) → has_attach c s.replies ≡ among earlier c
  none : (c : ℕ) → has_dispose c s.replies ≡ false
  nor : (c : ℕ) → has_disposal c s.replies ≡ false
  known : (c : ℕ) → among earlier c ≡ true → s.known c ≡ knowns.Attached

or_none : (x : Bool) → x ≡ false → (x || false) ≡ false
or_none x e = ap (λ y. y || false) e

must : (a : Attach) (had : Bool) → ((a ≡ attaches.Already → ⊥) → had ≡ false) → had ≡ true → a ≡ attaches.Already
must attaches.Already had h e = refl
must attaches.Attached had h e = absurd (false≢true (sym (h (λ (q : attaches.Attached ≡ attaches.Already). absurd (cc))) ∙ e))
must attaches.Gone had h e = absurd (false≢true (sym (h (λ (q : attaches.Gone ≡ attaches.Already). absurd (cc))) ∙ e))

module _ (earlier : List ℕ) (b : ℕ) (a : Attach) (old new : Standing) (s : Has earlier old) (h : IsAttach b a old new) where
  answer_is : a ≡ attach_answer earlier b
  answer_is =
      ⊎_elim
      (λ (e : among earlier b ≡ true). must a (has_attach b old.replies) h.first_reply (s.attached b ∙ e) ∙ sym (cond-true (among earlier b) attaches.Already attaches.Attached e))
      (λ (e : among earlier b ≡ false). (h.alone_first s.alone).1 (s.attached b ∙ e, s.none b) ∙ sym (cond-false (among earlier b) attaches.Already attaches.Attached e))
      (cases_Bool (among earlier b))

  one_known : (c : ℕ) → (c == b) ≡ true → new.known c ≡ knowns.Attached
  one_known c e = subst (λ x. new.known x ≡ knowns.Attached) (sym (eqb-true c b e)) (h.alone_known s.alone (s.nor b))

  had_known : (c : ℕ) → among earlier c ≡ true → new.known c ≡ knowns.Attached
  had_known c e = ⊎_elim (one_known c) (λ apart. h.other c apart ∙ s.known c e) (cases_Bool (c == b))

  has_more : Has (earlier ++ b ∷ []) new
  has_more = record {
    alone = h.alone ∙ s.alone;
    attached = λ c. ap (has_attach c) h.reply ∙ list_any-append (is_attach c) old.replies (acts.Attached b a ∷ []) ∙ ap (λ x. x || ((b == c) || false)) (s.attached c) ∙ sym (list_any-append (λ x. x == c) earlier (b ∷ []));
    none = λ c. ap (has_dispose c) h.reply ∙ list_any-append (is_dispose c) old.replies (acts.Attached b a ∷ []) ∙ or_none (has_dispose c old.replies) (s.none c);
    nor = λ c. ap (has_disposal c) h.reply ∙ list_any-append (is_disposal c) old.replies (acts.Attached b a ∷ []) ∙ or_none (has_disposal c old.replies) (s.nor c);
    known = λ c e.
        ⊎_elim (had_known c)
        (λ (x : ((b == c) || false) ≡ true). ⊎_elim (λ (y : (b == c) ≡ true). subst (λ z. new.known z ≡ knowns.Attached) (eqb-true b c y) (h.alone_known s.alone (s.nor b))) (λ y. absurd (false≢true y)) (or_cases (b == c) false x))
        (or_cases (among earlier c) ((b == c) || false) (sym (list_any-append (λ x. x == c) earlier (b ∷ [])) ∙ e));
  }

still_has : (earlier : List ℕ) (old new : Standing) → IsAsBefore old new → Has earlier old → Has earlier new
still_has earlier old new d s = record {
  alone = d.alone ∙ s.alone;
  attached = λ c. ap (has_attach c) d.replies ∙ s.attached c;
  none = λ c. ap (has_dispose c) d.replies ∙ s.none c;
  nor = λ c. ap (has_disposal c) d.replies ∙ s.nor c;
  known = λ c e. d.known c ∙ s.known c e;
}

-- one list
record Listed (earlier bs : List ℕ) (rs : List ActResult) (old new : Standing) : Type 0 where
  answers : rs ≡ answers_behind earlier bs
  replies : new.replies ≡ old.replies ++ rs
  has : Has (earlier ++ bs) new

listed : (earlier bs : List ℕ) (rs : List ActResult) (old new : Standing) → Has earlier old → AreAttached bs rs old new → Listed earlier bs rs old new
listed earlier [] [] old new s d = record { answers = refl; replies = d.replies ∙ sym (append-nil old.replies); has = subst (λ xs. Has xs new) (sym (append-nil earlier)) (still_has earlier old new d s) }
listed earlier [] (r ∷ rs) old new s d = absurd d
listed earlier (b ∷ bs) [] old new s d = absurd d
listed earlier (b ∷ bs) (r ∷ rs) old new s d =
    let more = listed (earlier ++ b ∷ []) bs rs d.1 new (has_more earlier b d.0 old d.1 s d.3) d.4 in
    let here : r ≡ acts.Attached b (attach_answer earlier b) = d.2 ∙ ap (acts.Attached b) (answer_is earlier b d.0 old d.1 s d.3) in
    record {
      answers = ap (λ x. x ∷ rs) here ∙ ap (λ xs. acts.Attached b (attach_answer earlier b) ∷ xs) more.answers;
      replies = more.replies ∙ ap (λ xs. xs ++ rs) (d.3.reply ∙ ap (λ x. old.replies ++ x ∷ []) (sym d.2)) ∙ append_assoc old.replies (r ∷ []) rs;
      has = subst (λ xs. Has xs new) (append_assoc earlier (b ∷ []) bs) more.has;
    }

-- all lists
record AllListed (earlier : List ℕ) (sessions : List Script) (befores : List (List ActResult)) (old new : Standing) : Type 0 where
  answers : befores ≡ befores_behind earlier sessions
  replies : new.replies ≡ old.replies ++ flat_map (λ rs. rs) befores
  has : (later : List ℕ) × Has later new

all_listed : (earlier : List ℕ) (sessions : List Script) (befores : List (List ActResult)) (old new : Standing) → Has earlier old → AreAllAttached sessions befores old new → AllListed earlier sessions befores old new
all_listed earlier [] [] old new s d = record { answers = refl; replies = d.replies ∙ sym (append-nil old.replies); has = (earlier, still_has earlier old new d s) }
all_listed earlier [] (r ∷ rs) old new s d = absurd d
all_listed earlier (x ∷ xs) [] old new s d = absurd d
all_listed earlier (x ∷ xs) (rs ∷ more) old new s d =
    let one = listed earlier x.before rs old d.0 s d.1 in
    let rest = all_listed (earlier ++ x.before) xs more d.0 new one.has d.2 in
    record {
      answers = ap (λ y. y ∷ more) one.answers ∙ ap (λ ys. answers_behind earlier x.before ∷ ys) rest.answers;
      replies = rest.replies ∙ ap (λ ys. ys ++ flat_map (λ zs. zs) more) one.replies ∙ append_assoc old.replies rs (flat_map (λ zs. zs) more);
      has = rest.has;
    }

has_none : (s : Standing) → s.alone ≡ true → s.replies ≡ [] → Has [] s
has_none s alone none = record {
  alone = alone;
  attached = λ c. ap (has_attach c) none;
  none = λ c. ap (has_dispose c) none;
  nor = λ c. ap (has_disposal c) none;
  known = λ c e. absurd (false≢true e);
}

pub befores_are_attached : BeforesAreAttached
befores_are_attached sessions befores old new alone none d =
    let all = all_listed [] sessions befores old new (has_none old alone none) d in
    let s = all.has.1 in
    (all.answers, all.replies ∙ ap (λ xs. xs ++ flat_map (λ zs. zs) befores) none, λ b e. s.known b (sym (s.attached b) ∙ e))
