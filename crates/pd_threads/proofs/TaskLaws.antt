-- One task more.
use Rattle.std.proofs.Common.{◌≡◌, ℕ, suc, ◌+◌, ◌<◌, List, [], ◌∷◌, ◌++◌, length, take, get_or, sym, ap, subst, ◌∙◌, arith}
use Rattle.std.proofs.lemmas.List.{take_more}
use Rattle.pd_plan.specs.declared.plan.Script.{Script}
use Rattle.pd_threads.specs.declared.work.Task.{Task}
use Rattle.pd_threads.specs.declared.work.Work.TheVariants.{Context, Session}
use Rattle.pd_threads.specs.Returned.{AreContextTasks, AreSessionTasks}

context_after : (k : ℕ) (ts : List Task) (t : Task) → AreContextTasks k ts → t.work ≡ Context (k + length ts) → AreContextTasks k (ts ++ t ∷ [])
context_after k [] t are is = (is ∙ ap (λ n. Context n) (omega arith), tt)
context_after k (x ∷ xs) t are is = (are.0, context_after (suc k) xs t are.1 (is ∙ ap (λ n. Context n) (omega arith)))

pub context_more : (ts now : List Task) (t : Task) → now ≡ ts ++ t ∷ [] → AreContextTasks 0 ts → t.work ≡ Context (length ts) → AreContextTasks 0 now
context_more ts now t is are work = subst (AreContextTasks 0) (sym is) (context_after 0 ts t are (work ∙ ap (λ n. Context n) (omega arith)))

session_after : (k : ℕ) (xs : List Script) (x : Script) (ts : List Task) (t : Task) → AreSessionTasks k xs ts → t.work ≡ Session (k + length ts) → AreSessionTasks k (xs ++ x ∷ []) (ts ++ t ∷ [])
session_after k [] x [] t are is = (is ∙ ap (λ n. Session n) (omega arith), tt)
session_after k [] x (u ∷ us) t are is = absurd are
session_after k (y ∷ ys) x [] t are is = absurd are
session_after k (y ∷ ys) x (u ∷ us) t are is = (are.0, session_after (suc k) ys x us t are.1 (is ∙ ap (λ n. Session n) (omega arith)))

abbrev blank : Script
blank = record { before = []; actions = []; answers = [] }

pub session_more : (scripts : List Script) (s : ℕ) (ts now : List Task) (t : Task) → s < length scripts → now ≡ ts ++ t ∷ [] → AreSessionTasks 0 (take s scripts) ts → t.work ≡ Session s → length ts ≡ s
    → AreSessionTasks 0 (take (s + 1) scripts) now
session_more scripts s ts now t below is are work len =
    subst (λ xs. AreSessionTasks 0 xs now) (sym (take_more scripts s blank below))
    (subst (AreSessionTasks 0 (take s scripts ++ get_or scripts s blank ∷ [])) (sym is) (session_after 0 (take s scripts) (get_or scripts s blank) ts t are (work ∙ ap (λ n. Session n) (omega (arith, len)))))
