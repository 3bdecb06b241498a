-- What is answered to a suspension, and done.
use Rattle.std.proofs.Common.{◌≡◌, ℕ, zero, suc, ◌<◌, ◌+◌, Bool, true, List, [], ◌∷◌, ◌++◌, map, length, refl, sym, ap, ◌∙◌, subst, arith}
use Rattle.std.specs.Prelude.{nat_lt, if◌then◌else◌, slice_get}
use Rattle.std.specs.List.{AllByRecursion, list_all}
use Rattle.std.proofs.lemmas.Bool.{and_from, lt-ltb}
use Rattle.pd_tree.specs.Program.{Program}
use Rattle.pd_machine.specs.Events.{Told}
use Rattle.pd_values.specs.declared.value.Value.TheVariants as values
use Rattle.pd_plan.specs.declared.plan.Act.{Act}
use Rattle.pd_plan.specs.declared.plan.Act.TheVariants as acts
use Rattle.pd_plan.specs.declared.plan.Answer.{Answer}
use Rattle.pd_plan.specs.declared.plan.BindingSpec.{BindingSpec}
use Rattle.pd_plan.specs.declared.plan.Resume.{Resume}
use Rattle.pd_plan.specs.declared.plan.Resume.TheVariants as resumes
use Rattle.pd_plan.specs.declared.plan.Plan.{Plan}
use Rattle.pd_plan.specs.Sound.{ActRefers, ResumeFits, IsObserver}
use Rattle.pd_board.specs.declared.answers.ActResult.{ActResult}
use Rattle.pd_board.specs.declared.answers.Known.{Known}
use Rattle.pd_board.specs.Standing.{Standing}
use Rattle.pd_suspend.specs.declared.suspension.Suspension.{Suspension}
use Rattle.pd_suspend.specs.Answers.{IsLawful, as_handed}
use Rattle.pd_guest.specs.declared.deliver.Deliveries.{Deliveries}
use Rattle.pd_guest.specs.declared.serving.Opened.{Opened}
use Rattle.pd_guest.specs.Keeping.{IsKeptAt}
use Rattle.pd_guest.specs.Replying.{act_of, answer_of}
use Rattle.pd_guest.specs.Acting.{binding_of, AreActsDone}
use Rattle.pd_guest.specs.Asking.{IsGivenBy, HasNoFunction}
use Rattle.pd_guest.proofs.ActingLaws.{kept-room, kept-else}

-- ---- lawful answers

observer_below : (bs : List BindingSpec) (b : ℕ) → IsObserver (slice_get bs b) → b < length bs
observer_below [] b h = absurd h
observer_below (x ∷ xs) zero h = omega arith
observer_below (x ∷ xs) (suc b) h = let i = observer_below xs b h in omega (arith, i)

below_by : (bs : List BindingSpec) (a : Act) → ActRefers bs a → binding_of a < length bs
below_by bs (acts.Attach b) h = h
below_by bs (acts.Dispose b) h = h
below_by bs (acts.Enable b) h = observer_below bs b h
below_by bs (acts.Disable b) h = observer_below bs b h

all_below : (bs : List BindingSpec) (n : ℕ) → n ≡ length bs → (xs : List Act) → AllByRecursion (ActRefers bs) xs → list_all (λ (x : Act). nat_lt (binding_of x) n) xs ≡ true
all_below bs n e [] h = refl
all_below bs n e (x ∷ xs) h = let low = below_by bs x h.0 in and_from _ _ (lt-ltb (binding_of x) n (omega (arith, low, e))) (all_below bs n e xs h.1)

pub lawful-bindings : (plan : Plan) (a : Answer) (n : ℕ) → n ≡ length plan.bindings → IsLawful plan a → list_all (λ (x : Act). nat_lt (binding_of x) n) a.first ≡ true
lawful-bindings plan a n e law = all_below plan.bindings n e a.first law.acts

no_function : (r : Resume) → ResumeFits r → HasNoFunction r
no_function resumes.Continue h = tt
no_function (resumes.Into n) h = tt
no_function (resumes.Over n) h = tt
no_function (resumes.Out n) h = tt
no_function (resumes.Reenter k) h = tt
no_function (resumes.Return k (values.Number z)) h = tt
no_function (resumes.Return k (values.Bool b)) h = tt
no_function (resumes.Return k (values.Text b)) h = tt
no_function (resumes.Return k values.Null) h = tt
no_function (resumes.Return k (values.Func i)) h = h.1
no_function resumes.Kill h = tt

pub lawful-value : (plan : Plan) (a : Answer) → IsLawful plan a → HasNoFunction a.resume
lawful-value plan a law = no_function a.resume law.resume

-- ---- what is kept

pub asked-kept : (rs : List ActResult) (old roomy took new : Standing) → roomy ≡ record old { spare = roomy.spare }
    → took ≡ record roomy { numbers = took.numbers; answer_share = took.answer_share; spare = took.spare } → AreActsDone rs took new
    → (plan : Plan) (p : Program) (start : ℕ → Known) (n : ℕ) (ts : List Told) (done : List (ℕ × ActResult)) (opens : List Opened) (kept : Deliveries)
    → IsKeptAt plan p start (n + 1) ts done old opens kept → IsKeptAt plan p start (n + 1) ts (done ++ map (λ r. (n, r)) rs) new opens kept
asked-kept rs old roomy took new room take_is acts plan p start n ts done opens kept k =
    acts.kept plan p start n ts done opens kept
    (kept-else plan p start (n + 1) ts done opens kept roomy took take_is (kept-room plan p start (n + 1) ts done opens kept old roomy room k))

pub asked-same : (old roomy took new : Standing) → roomy ≡ record old { spare = roomy.spare }
    → took ≡ record roomy { numbers = took.numbers; answer_share = took.answer_share; spare = took.spare }
    → new ≡ record took { replies = new.replies; known = new.known; spare = new.spare }
    → new ≡ record old { replies = new.replies; known = new.known; numbers = new.numbers; answer_share = new.answer_share; spare = new.spare }
asked-same old roomy took new room take_is acts =
    let over : Standing → Standing = λ s. record s { replies = new.replies; known = new.known; numbers = new.numbers; answer_share = new.answer_share; spare = new.spare } in
    let first : over roomy ≡ over old = ap over room in
    let second : over took ≡ over roomy = ap over take_is in
    let numbers : new.numbers ≡ took.numbers = ap (λ s. s.numbers) acts in
    let shares : new.answer_share ≡ took.answer_share = ap (λ s. s.answer_share) acts in
    let third : new ≡ over took =
    acts ∙ ap (λ ns. record took { replies = new.replies; known = new.known; numbers = ns; spare = new.spare }) (sym numbers)
    ∙ ap (λ ss. record took { replies = new.replies; known = new.known; numbers = new.numbers; answer_share = ss; spare = new.spare }) (sym shares) in
    third ∙ second ∙ first

-- ---- the answerer's list

pub given-by : (admits : Suspension → Answer → Type 0) (keeps : ℕ → Bool) (old new : List (Suspension × Answer)) (x handed : Suspension) (a : Answer)
    → handed ≡ as_handed x → map act_of x.acts ≡ a.first → x.resume ≡ a.resume → admits handed a
    → new ≡ (if keeps handed.session then old ++ (handed, a) ∷ [] else old)
    → IsGivenBy admits keeps old new x
given-by admits keeps old new x handed a same first resume admitted kept =
    let answer : a ≡ answer_of x = ap (λ fs. record { first = fs; resume = a.resume }) (sym first) ∙ ap (λ r. record { first = map act_of x.acts; resume = r }) (sym resume) in
    record {
      admitted = subst (λ (y : Suspension). admits y (answer_of x)) same (subst (admits handed) answer admitted);
      kept = kept ∙ ap (λ (y : Suspension). if keeps y.session then old ++ (y, a) ∷ [] else old) same
          ∙ ap (λ (b : Answer). if keeps x.session then old ++ (as_handed x, b) ∷ [] else old) answer;
    }
