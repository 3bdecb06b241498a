-- What was given in a part of a call was given in the call.
use Rattle.std.proofs.Common.{◌≡◌, ◌∙◌, ℕ, List, [], ◌∷◌, ◌++◌, refl, ap, sym, subst, arith, append_assoc, inl, inr, Option, None, Some, Ok, Err}
use Rattle.std.proofs.lemmas.List.{append-nil}
use Rattle.std.proofs.lemmas.List.Elements.{Contains-append_left, Contains-append_right}
use Rattle.pd_outside.specs.Files.{Given}
use Rattle.pd_sections.specs.Written.{Written}
use Rattle.pd_plan.specs.declared.plan.SourceSpec.{SourceSpec}
use Rattle.pd_plan.specs.declared.plan.Plan.{Plan}
use Rattle.pd_plan_json.specs.Reading.{Read}
use Rattle.pd_words.specs.declared.asked.Command.{Command}
use Rattle.pd_words.specs.declared.asked.Command.TheVariants.{Trace, Run, Check, Gen, Coverage, CallTree}
use Rattle.pd_top.specs.Files.{Files, Held, IsContent, IsGrown, IsAdded, IsRead, IsShort, IsLong, AreSources, IsReachedAmong}
use Rattle.pd_top.specs.Causes.{IsPlanRead, IsPlanIn, IsPlanOf, IsFitPlan, made_sources, read_among, AreGiven, IsReached, Cause, too_long, plan_refused, no_observer, source_refused, accepted, IsCause}

-- ---- the answers of a library

pub grown_none : (a : List Given) → IsGrown a a
grown_none a = ([], sym (append-nil a))

grown_by : (a b c xs ys : List Given) → b ≡ a ++ xs → c ≡ b ++ ys → c ≡ a ++ (xs ++ ys)
grown_by a b c xs ys first then = then ∙ ap (λ l. l ++ ys) first ∙ append_assoc a xs ys

pub grown_more : (a b c : List Given) → IsGrown a b → IsGrown b c → IsGrown a c
grown_more a b c x y = (x.0 ++ y.0, grown_by a b c x.0 y.0 x.1 y.1)

pub one_added : (a b : List Given) (x : Given) → b ≡ a ++ x ∷ [] → IsAdded a b x
one_added a b x is = (x ∷ [], is, (0, omega arith, refl))

pub added_first : (a b c : List Given) (x : Given) → IsAdded a b x → IsGrown b c → IsAdded a c x
added_first a b c x added more =
    (added.0 ++ more.0, grown_by a b c added.0 more.0 added.1 more.1, Contains-append_left added.0 more.0 x added.2)

pub added_later : (a b c : List Given) (x : Given) → IsGrown a b → IsAdded b c x → IsAdded a c x
added_later a b c x more added =
    (more.0 ++ added.0, grown_by a b c more.0 added.0 more.1 added.1, Contains-append_right more.0 added.0 x added.2)

-- ---- files that were read in a part of a call

-- each file has the bytes in the one sense that it has in the other
abbrev pub Within : Files → Files → Type 0
Within P Q = (file bytes : List ℕ) → P file bytes → Q file bytes

pub read_first : (held : Held) (a b c : List Given) → IsGrown b c → Within (IsRead held a b) (IsRead held a c)
read_first held a b c more = λ file bytes read. record { content = read.content; answer = added_first a b c _ read.answer more }

pub read_later : (held later : Held) (a b c : List Given) → later ≡ held → IsGrown a b → Within (IsRead later b c) (IsRead held a c)
read_later held later a b c same more = λ file bytes read.
    record { content = subst (λ h. IsContent h file bytes) same read.content; answer = added_later a b c _ more read.answer }

-- ---- what is said of files

module _ (P Q : Files) (within : Within P Q) where
  pub short_within : (file bytes : List ℕ) → IsShort P file bytes → IsShort Q file bytes
  short_within file bytes s = record { has = within file bytes s.has; short = s.short }

  pub long_within : (file : List ℕ) → IsLong P file → IsLong Q file
  long_within file l = record { bytes = l.bytes; has = within file l.bytes l.has; long = l.long }

  pub sources_within : (ss : List SourceSpec) (ws : List Written) → AreSources P ss ws → AreSources Q ss ws
  sources_within [] [] are = tt
  sources_within [] (w ∷ ws) are = absurd are
  sources_within (s ∷ ss) [] are = absurd are
  sources_within (s ∷ ss) (w ∷ ws) are = (are.0, short_within s.name w.bytes are.1, sources_within ss ws are.2)

  pub among_within : (ss : List SourceSpec) (file : List ℕ) → IsReachedAmong P ss file → IsReachedAmong Q ss file
  among_within [] file reached = absurd reached
  among_within (s ∷ ss) file (inl is) = inl is
  among_within (s ∷ ss) file (inr rest) = inr (rest.0, short_within s.name rest.0 rest.1, among_within ss file rest.2)

  pub plan_read_within : (file : List ℕ) (read : Read Plan) → IsPlanRead P file read → IsPlanRead Q file read
  plan_read_within file read x = record { bytes = x.bytes; short = short_within file x.bytes x.short; read_is = x.read_is }

  plan_in_within : (file : List ℕ) (fuel : Option ℕ) (plan : Plan) → IsPlanIn P file fuel plan → IsPlanIn Q file fuel plan
  plan_in_within file fuel plan is = (is.0, plan_read_within file (Ok is.0) is.1, is.2)

  pub plan_within : (command : Command) (plan : Plan) → IsPlanOf P command plan → IsPlanOf Q command plan
  plan_within (Trace file) plan is = is
  plan_within (Run words) plan is = plan_in_within words.plan words.fuel plan is
  plan_within (Check file) plan is = plan_in_within file None plan is
  plan_within (Gen number) plan is = is
  plan_within (Coverage words) plan is = plan_in_within words.plan words.fuel plan is
  plan_within (CallTree words) plan is = plan_in_within words.plan words.fuel plan is

  pub fit_within : (command : Command) (plan : Plan) → IsFitPlan P command plan → IsFitPlan Q command plan
  fit_within command plan is = (plan_within command plan is.0, is.1)

  pub given_within : (made : Option (List Written)) (ss : List SourceSpec) (ws : List Written) → AreGiven P made ss ws → AreGiven Q made ss ws
  given_within None ss ws are = sources_within ss ws are
  given_within (Some sources) ss ws are = are

  pub reached_within : (command : Command) (file : List ℕ) → IsReached P command file → IsReached Q command file
  reached_within command file (inl is) = inl is
  reached_within command file (inr (plan, is, among)) =
      inr (plan, fit_within command plan is, among_within (read_among (made_sources command) plan.sources) file among)

  pub cause_within : (command : Command) (cause : Cause) → IsCause P command cause → IsCause Q command cause
  cause_within command (too_long file) is = (reached_within command file is.0, long_within file is.1)
  cause_within command (plan_refused refusal) is = (is.0, is.1, plan_read_within is.0 (Err refusal) is.2)
  cause_within command (no_observer binding) is = (is.0, plan_within command is.0 is.1, is.2)
  cause_within command (source_refused refusal) is =
      (is.0, is.1, fit_within command is.0 is.2, given_within (made_sources command) is.0.sources is.1 is.3, is.4)
  cause_within command (accepted plan program) is =
      (is.0, fit_within command plan is.1, given_within (made_sources command) plan.sources is.0 is.2, is.3, is.4)
