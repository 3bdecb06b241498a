-- The files of a command have one cause.
use Rattle.std.proofs.Common.{◌≡◌, ◌+◌, ◌∙◌, ℕ, List, [], ◌∷◌, length, refl, ap, sym, subst, arith, inl, inr, Option, None, Some, Ok, Err}
use Rattle.std.specs.List.{AllByRecursion}
use Rattle.std.specs.Str.{IsUtf8, IsValidUpTo}
use Rattle.std.proofs.lemmas.Str.{utf8_valid_len-IsValidUpTo, utf8_valid_len-IsUtf8}
use Rattle.pd_sections.specs.Written.{Written}
use Rattle.pd_plan.specs.declared.plan.SourceSpec.{SourceSpec}
use Rattle.pd_plan.specs.declared.plan.Plan.{Plan}
use Rattle.pd_plan.specs.declared.refusal.PlanRefusal.{PlanRefusal}
use Rattle.pd_plan_json.specs.Reading.{Read}
use Rattle.pd_plan_json.specs.Whole.{plan_at}
use Rattle.pd_tree.specs.Program.{Program}
use Rattle.pd_load.specs.declared.refusal.LoadRefusal.{LoadRefusal}
use Rattle.pd_load.specs.declared.refusal.LoadCause.TheVariants.{NotUtf8}
use Rattle.pd_load.specs.Tables.{IsText}
use Rattle.pd_load.specs.Loading.{IsLoaded}
use Rattle.pd_load.proofs.Exclusive.{loaded_not_refused}
use Rattle.pd_top.proofs.RefusalLemmas.{one_refusal}
use Rattle.pd_words.specs.declared.asked.Command.{Command}
use Rattle.pd_words.specs.declared.asked.Command.TheVariants.{Trace, Run, Check, Gen, Coverage, CallTree}
use Rattle.pd_words.specs.Fuel.{with_fuel}
use Rattle.pd_top.specs.Files.{Files, IsContent, IsShort, IsLong, AreSources, IsReachedAmong}
use Rattle.pd_top.specs.Causes.{plan_file, IsPlanRead, IsPlanIn, IsPlanOf, unfit_binding, IsFitPlan, made_sources, read_among, AreGiven, IsReached, IsFirstNotText, IsFirstRefusal, Cause, too_long, plan_refused, no_observer, source_refused, accepted, IsCause}

-- two causes that one answer serves
abbrev pub Agrees : Cause → Cause → Type 0
Agrees (too_long a) (too_long b) = a ≡ b
Agrees (plan_refused a) (plan_refused b) = a ≡ b
Agrees (no_observer a) (no_observer b) = a ≡ b
Agrees (source_refused a) (source_refused b) = a ≡ b
Agrees (accepted p a) (accepted q b) = Unit {0}
Agrees _ _ = ⊥

no_text_utf8 : (bytes : List ℕ) (at : ℕ) → IsValidUpTo bytes at → IsUtf8 bytes → ⊥
no_text_utf8 bytes at valid text = omega (arith, valid.short, utf8_valid_len-IsValidUpTo bytes at valid, utf8_valid_len-IsUtf8 bytes text)

not_text_texts : (number : ℕ) (ws : List Written) (refusal : LoadRefusal) → IsFirstNotText number ws refusal → AllByRecursion IsText ws → ⊥
not_text_texts number [] refusal not all = not
not_text_texts number (w ∷ ws) refusal (inl not) all = no_text_utf8 w.bytes not.0 not.1 all.0
not_text_texts number (w ∷ ws) refusal (inr rest) all = not_text_texts (number + 1) ws refusal rest.1 all.1

one_not_text : (number : ℕ) (ws : List Written) (a b : LoadRefusal) → IsFirstNotText number ws a → IsFirstNotText number ws b → a ≡ b
one_not_text number [] a b x y = absurd x
one_not_text number (w ∷ ws) a b (inl x) (inl y) =
    let places : x.0 ≡ y.0 = sym (utf8_valid_len-IsValidUpTo w.bytes x.0 x.1) ∙ utf8_valid_len-IsValidUpTo w.bytes y.0 y.1 in
    x.2 ∙ ap (λ at. record { source = number; cause = NotUtf8 at }) places ∙ sym y.2
one_not_text number (w ∷ ws) a b (inl x) (inr y) = absurd (no_text_utf8 w.bytes x.0 x.1 y.0)
one_not_text number (w ∷ ws) a b (inr x) (inl y) = absurd (no_text_utf8 w.bytes y.0 y.1 x.0)
one_not_text number (w ∷ ws) a b (inr x) (inr y) = one_not_text (number + 1) ws a b x.1 y.1

one_first_refusal : (plan : Plan) (ws : List Written) (a b : LoadRefusal) → IsFirstRefusal plan ws a → IsFirstRefusal plan ws b → a ≡ b
one_first_refusal plan ws a b (inl x) (inl y) = one_not_text 0 ws a b x y
one_first_refusal plan ws a b (inl x) (inr y) = absurd (not_text_texts 0 ws a x y.0)
one_first_refusal plan ws a b (inr x) (inl y) = absurd (not_text_texts 0 ws b y x.0)
one_first_refusal plan ws a b (inr x) (inr y) = one_refusal plan ws a b x.0 x.1 y.1

module _ (f : List ℕ → Option (List ℕ)) where
  abbrev held : Files
  held = IsContent (Some f)

  one_content : (file a b : List ℕ) → held file a → held file b → a ≡ b
  one_content file a b x y = cc

  not_both : (file bytes : List ℕ) → IsShort held file bytes → IsLong held file → ⊥
  not_both file bytes short long =
      let same : bytes ≡ long.bytes = one_content file bytes long.bytes short.has long.has in
      omega (arith, short.short, long.long, ap length same)

  -- ---- the plan

  one_read : (file : List ℕ) (r s : Read Plan) → IsPlanRead held file r → IsPlanRead held file s → r ≡ s
  one_read file r s x y =
      let same : x.bytes ≡ y.bytes = one_content file x.bytes y.bytes x.short.has y.short.has in
      sym x.read_is ∙ ap plan_at same ∙ y.read_is

  one_plan_in : (file : List ℕ) (fuel : Option ℕ) (p q : Plan) → IsPlanIn held file fuel p → IsPlanIn held file fuel q → p ≡ q
  one_plan_in file fuel p q x y =
      let both : ◌≡◌ {A = Read Plan} (Ok x.0) (Ok y.0) = one_read file (Ok x.0) (Ok y.0) x.1 y.1 in
      let same : x.0 ≡ y.0 = cc in x.2 ∙ ap (with_fuel fuel) same ∙ sym y.2

  one_plan : (command : Command) (p q : Plan) → IsPlanOf held command p → IsPlanOf held command q → p ≡ q
  one_plan (Trace file) p q x y = x ∙ sym y
  one_plan (Run words) p q x y = one_plan_in words.plan words.fuel p q x y
  one_plan (Check file) p q x y = one_plan_in file None p q x y
  one_plan (Gen number) p q x y = x ∙ sym y
  one_plan (Coverage words) p q x y = one_plan_in words.plan words.fuel p q x y
  one_plan (CallTree words) p q x y = one_plan_in words.plan words.fuel p q x y

  -- the bytes of the plan's file are those of a plan, and short
  plan_bytes : (command : Command) (p : Plan) (file : List ℕ) → IsPlanOf held command p → plan_file command ≡ Some file → (read : Plan) × IsPlanRead held file (Ok read)
  plan_bytes (Trace name) p file x is = absurd (cc)
  plan_bytes (Run words) p file x is = let same : words.plan ≡ file = cc in (x.0, subst (λ n. IsPlanRead held n (Ok x.0)) same x.1)
  plan_bytes (Check name) p file x is = let same : name ≡ file = cc in (x.0, subst (λ n. IsPlanRead held n (Ok x.0)) same x.1)
  plan_bytes (Gen number) p file x is = absurd (cc)
  plan_bytes (Coverage words) p file x is = let same : words.plan ≡ file = cc in (x.0, subst (λ n. IsPlanRead held n (Ok x.0)) same x.1)
  plan_bytes (CallTree words) p file x is = let same : words.plan ≡ file = cc in (x.0, subst (λ n. IsPlanRead held n (Ok x.0)) same x.1)

  plan_or_refusal : (command : Command) (p : Plan) (r : PlanRefusal) (file : List ℕ) → IsPlanOf held command p → plan_file command ≡ Some file
      → IsPlanRead held file (Err r) → ⊥
  plan_or_refusal command p r file x is y =
      let read = plan_bytes command p file x is in
      let both : ◌≡◌ {A = Read Plan} (Ok read.0) (Err r) = one_read file (Ok read.0) (Err r) read.1 y in cc

  -- the file of a plan is short
  plan_not_long : (command : Command) (p : Plan) (file : List ℕ) → IsPlanOf held command p → plan_file command ≡ Some file → IsLong held file → ⊥
  plan_not_long command p file x is long = let read = plan_bytes command p file x is in not_both file read.1.bytes read.1.short long

  -- a plan has the binding that the command needs, or lacks it
  fit_or_not : (command : Command) (p q : Plan) (b : ℕ) → IsPlanOf held command p → unfit_binding command p ≡ Some b → IsFitPlan held command q → ⊥
  fit_or_not command p q b x not y =
      let same : p ≡ q = one_plan command p q x y.0 in
      let both : ◌≡◌ {A = Option ℕ} (Some b) None = sym not ∙ ap (unfit_binding command) same ∙ y.1 in cc

  one_unfit : (command : Command) (p q : Plan) (a b : ℕ) → IsPlanOf held command p → unfit_binding command p ≡ Some a → IsPlanOf held command q
      → unfit_binding command q ≡ Some b → a ≡ b
  one_unfit command p q a b x is y also =
      let same : p ≡ q = one_plan command p q x y in
      let both : ◌≡◌ {A = Option ℕ} (Some a) (Some b) = sym is ∙ ap (unfit_binding command) same ∙ also in cc

  -- ---- the sources

  one_written : (ss : List SourceSpec) (ws vs : List Written) → AreSources held ss ws → AreSources held ss vs → ws ≡ vs
  one_written [] [] [] x y = refl
  one_written [] [] (v ∷ vs) x y = absurd y
  one_written [] (w ∷ ws) vs x y = absurd x
  one_written (s ∷ ss) [] vs x y = absurd x
  one_written (s ∷ ss) (w ∷ ws) [] x y = absurd y
  one_written (s ∷ ss) (w ∷ ws) (v ∷ vs) x y =
      let names : w.name ≡ v.name = x.0 ∙ sym y.0 in
      let bytes : w.bytes ≡ v.bytes = one_content s.name w.bytes v.bytes x.1.has y.1.has in
      let rest : ws ≡ vs = one_written ss ws vs x.2 y.2 in
      ap (λ n. record { name = n; bytes = w.bytes } ∷ ws) names ∙ ap (λ b. record { name = v.name; bytes = b } ∷ ws) bytes ∙ ap (λ r. v ∷ r) rest

  one_given : (made : Option (List Written)) (ss : List SourceSpec) (ws vs : List Written) → AreGiven held made ss ws → AreGiven held made ss vs → ws ≡ vs
  one_given None ss ws vs x y = one_written ss ws vs x y
  one_given (Some sources) ss ws vs x y = x ∙ sym y

  none_long : (ss : List SourceSpec) (ws : List Written) (file : List ℕ) → AreSources held ss ws → IsReachedAmong held ss file → IsLong held file → ⊥
  none_long [] ws file x reached long = reached
  none_long (s ∷ ss) [] file x reached long = absurd x
  none_long (s ∷ ss) (w ∷ ws) file x (inl is) long = not_both file w.bytes (subst (λ n. IsShort held n w.bytes) is x.1) long
  none_long (s ∷ ss) (w ∷ ws) file x (inr rest) long = none_long ss ws file x.2 rest.2 long

  none_long_given : (made : Option (List Written)) (ss : List SourceSpec) (ws : List Written) (file : List ℕ) → AreGiven held made ss ws
      → IsReachedAmong held (read_among made ss) file → IsLong held file → ⊥
  none_long_given None ss ws file x reached long = none_long ss ws file x reached long
  none_long_given (Some sources) ss ws file x reached long = reached

  one_long_among : (ss : List SourceSpec) (a b : List ℕ) → IsReachedAmong held ss a → IsLong held a → IsReachedAmong held ss b → IsLong held b → a ≡ b
  one_long_among [] a b x u y v = absurd x
  one_long_among (s ∷ ss) a b (inl x) u (inl y) v = sym x ∙ y
  one_long_among (s ∷ ss) a b (inl x) u (inr y) v = absurd (not_both a y.0 (subst (λ n. IsShort held n y.0) x y.1) u)
  one_long_among (s ∷ ss) a b (inr x) u (inl y) v = absurd (not_both b x.0 (subst (λ n. IsShort held n x.0) y x.1) v)
  one_long_among (s ∷ ss) a b (inr x) u (inr y) v = one_long_among ss a b x.2 u y.2 v

  module _ (command : Command) where
    -- the sources that are read
    abbrev read_of : Plan → List SourceSpec
    read_of plan = read_among (made_sources command) plan.sources

    -- the sources with their bytes
    abbrev Given : Plan → List Written → Type 0
    Given plan sources = AreGiven held (made_sources command) plan.sources sources

    -- ---- one file is too long

    one_long : (a b : List ℕ) → IsReached held command a → IsLong held a → IsReached held command b → IsLong held b → a ≡ b
    one_long a b (inl x) u (inl y) v = cc
    one_long a b (inl x) u (inr y) v = absurd (plan_not_long command y.0 a y.1.0 x u)
    one_long a b (inr x) u (inl y) v = absurd (plan_not_long command x.0 b x.1.0 y v)
    one_long a b (inr x) u (inr y) v =
        let same : x.0 ≡ y.0 = one_plan command x.0 y.0 x.1.0 y.1.0 in
        one_long_among (read_of y.0) a b (subst (λ (p : Plan). IsReachedAmong held (read_of p) a) same x.2) u y.2 v

    -- the plan's file is read, so it is short
    long_or_refusal : (a : List ℕ) (r : PlanRefusal) (file : List ℕ) → IsReached held command a → IsLong held a → plan_file command ≡ Some file
        → IsPlanRead held file (Err r) → ⊥
    long_or_refusal a r file (inl x) u is y = let same : a ≡ file = cc in not_both a y.bytes (subst (λ n. IsShort held n y.bytes) (sym same) y.short) u
    long_or_refusal a r file (inr x) u is y = plan_or_refusal command x.0 r file x.1.0 is y

    -- the plan's file is short, and without the binding no source is read
    long_or_unfit : (a : List ℕ) (p : Plan) (b : ℕ) → IsReached held command a → IsLong held a → IsPlanOf held command p → unfit_binding command p ≡ Some b → ⊥
    long_or_unfit a p b (inl x) u plan not = plan_not_long command p a plan x u
    long_or_unfit a p b (inr x) u plan not = fit_or_not command p x.0 b plan not x.1

    -- all files are read, so they are short
    long_or_read : (a : List ℕ) (p : Plan) (ws : List Written) → IsReached held command a → IsLong held a → IsFitPlan held command p → Given p ws → ⊥
    long_or_read a p ws (inl x) u plan sources = plan_not_long command p a plan.0 x u
    long_or_read a p ws (inr x) u plan sources =
        let same : x.0 ≡ p = one_plan command x.0 p x.1.0 plan.0 in
        none_long_given (made_sources command) p.sources ws a sources (subst (λ (q : Plan). IsReachedAmong held (read_of q) a) same x.2) u

    -- ---- sources are refused or accepted

    one_source_refusal : (p q : Plan) (ws vs : List Written) (a b : LoadRefusal) → IsFitPlan held command p → Given p ws → IsFirstRefusal p ws a
        → IsFitPlan held command q → Given q vs → IsFirstRefusal q vs b → a ≡ b
    one_source_refusal p q ws vs a b x read refused y again also =
        let plans : p ≡ q = one_plan command p q x.0 y.0 in
        let sources : ws ≡ vs = one_given (made_sources command) q.sources ws vs (subst (λ (m : Plan). Given m ws) plans read) again in
        one_first_refusal q vs a b (subst (λ us. IsFirstRefusal q us a) sources (subst (λ m. IsFirstRefusal m ws a) plans refused)) also

    refused_or_accepted : (p q : Plan) (ws vs : List Written) (r : LoadRefusal) (program : Program) → IsFitPlan held command p → Given p ws
        → IsFirstRefusal p ws r → IsFitPlan held command q → Given q vs → AllByRecursion IsText vs → IsLoaded q vs program → ⊥
    refused_or_accepted p q ws vs r program x a refused y b texts loaded =
        let plans : p ≡ q = one_plan command p q x.0 y.0 in
        let sources : ws ≡ vs = one_given (made_sources command) q.sources ws vs (subst (λ (m : Plan). Given m ws) plans a) b in
        elim (subst (λ us. IsFirstRefusal q us r) sources (subst (λ m. IsFirstRefusal m ws r) plans refused)) [
          | inl not ↦ not_text_texts 0 vs r not texts
          | inr later ↦ loaded_not_refused q vs loaded.0 program texts loaded.1 loaded.2 r later.1
        ]

    -- ---- the cause

    pub one_cause : (x y : Cause) → IsCause held command x → IsCause held command y → Agrees x y
    one_cause (too_long a) (too_long b) x y = one_long a b x.0 x.1 y.0 y.1
    one_cause (too_long a) (plan_refused r) x y = long_or_refusal a r y.0 x.0 x.1 y.1 y.2
    one_cause (too_long a) (no_observer b) x y = long_or_unfit a y.0 b x.0 x.1 y.1 y.2
    one_cause (too_long a) (source_refused r) x y = long_or_read a y.0 y.1 x.0 x.1 y.2 y.3
    one_cause (too_long a) (accepted p program) x y = long_or_read a p y.0 x.0 x.1 y.1 y.2
    one_cause (plan_refused r) (too_long a) x y = long_or_refusal a r x.0 y.0 y.1 x.1 x.2
    one_cause (plan_refused r) (plan_refused s) x y =
        let same : x.0 ≡ y.0 = cc in
        let both : ◌≡◌ {A = Read Plan} (Err r) (Err s) = one_read y.0 (Err r) (Err s) (subst (λ n. IsPlanRead held n (Err r)) same x.2) y.2 in cc
    one_cause (plan_refused r) (no_observer b) x y = plan_or_refusal command y.0 r x.0 y.1 x.1 x.2
    one_cause (plan_refused r) (source_refused s) x y = plan_or_refusal command y.0 r x.0 y.2.0 x.1 x.2
    one_cause (plan_refused r) (accepted p program) x y = plan_or_refusal command p r x.0 y.1.0 x.1 x.2
    one_cause (no_observer a) (too_long b) x y = long_or_unfit b x.0 a y.0 y.1 x.1 x.2
    one_cause (no_observer a) (plan_refused r) x y = plan_or_refusal command x.0 r y.0 x.1 y.1 y.2
    one_cause (no_observer a) (no_observer b) x y = one_unfit command x.0 y.0 a b x.1 x.2 y.1 y.2
    one_cause (no_observer a) (source_refused r) x y = fit_or_not command x.0 y.0 a x.1 x.2 y.2
    one_cause (no_observer a) (accepted p program) x y = fit_or_not command x.0 p a x.1 x.2 y.1
    one_cause (source_refused r) (too_long a) x y = long_or_read a x.0 x.1 y.0 y.1 x.2 x.3
    one_cause (source_refused r) (plan_refused s) x y = plan_or_refusal command x.0 s y.0 x.2.0 y.1 y.2
    one_cause (source_refused r) (no_observer b) x y = fit_or_not command y.0 x.0 b y.1 y.2 x.2
    one_cause (source_refused r) (source_refused s) x y = one_source_refusal x.0 y.0 x.1 y.1 r s x.2 x.3 x.4 y.2 y.3 y.4
    one_cause (source_refused r) (accepted p program) x y = refused_or_accepted x.0 p x.1 y.0 r program x.2 x.3 x.4 y.1 y.2 y.3 y.4
    one_cause (accepted p program) (too_long a) x y = long_or_read a p x.0 y.0 y.1 x.1 x.2
    one_cause (accepted p program) (plan_refused r) x y = plan_or_refusal command p r y.0 x.1.0 y.1 y.2
    one_cause (accepted p program) (no_observer b) x y = fit_or_not command y.0 p b y.1 y.2 x.1
    one_cause (accepted p program) (source_refused r) x y = refused_or_accepted y.0 p y.1 x.0 r program y.2 y.3 y.4 x.1 x.2 x.3 x.4
    one_cause (accepted p program) (accepted q other) x y = tt
