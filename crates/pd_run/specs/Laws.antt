-- For proofs above: no public contract needs it.
-- What all seats tell together.
use Rattle.std.specs.Prelude.{◌≡◌, ℕ, ◌<◌, true, List, [], ◌∷◌, map, ◌++◌, ◌+◌, ◌≤◌, ◌^◌, length, slice_index, slice_index_or, drop}
use Rattle.std.specs.List.{All, AllZip}
use Rattle.pd_plan.specs.declared.plan.Plan.{Plan}
use Rattle.pd_board.specs.declared.answers.ActResult.{ActResult}
use Rattle.pd_board.specs.declared.answers.Known.{Known}
use Rattle.pd_board.specs.declared.answers.Known.TheVariants as knowns
use Rattle.pd_board.specs.declared.answers.BindingTally.{BindingTally}
use Rattle.pd_board.specs.Answers.{has_attach}
use Rattle.pd_board.specs.Tally.{no_tally}
use Rattle.pd_core.specs.Layout.{Layout, bindings}
use Rattle.pd_shared.specs.declared.token.Token.{Token}
use Rattle.pd_shared.specs.declared.sights.Sights.{Sights}
use Rattle.pd_core.specs.Tokens.{Hub}
use Rattle.pd_shared.specs.Closed.{IsWhole, IsClosed}
use Rattle.pd_shared.specs.Sitting.{Sitting, IsOf}
use Rattle.pd_shared.specs.Left.{Leaves, TakesIn, DidLeave, HasLearned}
use Rattle.pd_shared.specs.Book.{reads_at}
use Rattle.pd_plan.specs.declared.plan.Action.{Action}
use Rattle.pd_board.specs.Standing.{Standing}
use Rattle.pd_session.specs.declared.record.ActionResult.{ActionResult}
use Rattle.pd_session.specs.Results.{AreResults}
use Rattle.pd_seats.specs.Back.{numbers_for, times_taken, HasGathered}
use Rattle.pd_run.specs.Life.{Whole, IsLife}
use Rattle.pd_run.specs.Answers.{AreAnswers}
use Rattle.pd_run.specs.Hands.{ContextHand, ScriptHand, IsContext, IsScript, acted}
use Rattle.pd_run.specs.Run.{readings_in}

-- the tokens of these pieces of work, contexts first
abbrev pub tokens_of : List ContextHand → List ScriptHand → List Token
tokens_of contexts scripts = map (λ h. h.token) contexts ++ map (λ h. h.token) scripts

-- what they tell together, after these answers of attaches before the run
abbrev pub whole_of : List ActResult → List ContextHand → List ScriptHand → Whole
whole_of before contexts scripts = record { before = before; contexts = map (λ h. h.part) contexts; scripts = map acted scripts }

-- the seat of `first` attached bindings before the run, and did nothing else; `start` is what it knew then
pub record IsBefore (start : ℕ → Known) (first : Token) : Type 0 where
  pub sights : first.journal.sights ≡ []
  pub numbers : (s x : ℕ) → times_taken s x first.pass.view.talk ≡ 0
  pub known : (b : ℕ) → has_attach b first.journal.replies ≡ true → start b ≡ knowns.Attached

-- a board was closed with the token `now`, which had gathered all seats
pub record IsOver (p : Layout) (plan : Plan) (start : ℕ → Known) (first now : Token) (contexts : List ContextHand) (scripts : List ScriptHand) (tallies : List BindingTally) (counts : List ℕ) : Type 0 where
  pub closed : IsClosed p now tallies counts
  pub whole : IsWhole now
  pub before : IsBefore start first
  pub contexts_are : All (IsContext (bindings p) plan start) contexts
  pub scripts_are : All (IsScript p.sessions p.contexts) scripts
  pub left : List Sights
  pub gathered : HasGathered first (tokens_of contexts scripts) left now

-- then the life of each binding is as the tally says
abbrev pub LivesAreTold : Type 0
LivesAreTold = (p : Layout) (plan : Plan) (start : ℕ → Known) (first now : Token) (contexts : List ContextHand) (scripts : List ScriptHand) (tallies : List BindingTally) (counts : List ℕ) → IsOver p plan start first now contexts scripts tallies counts
    → (b : ℕ) → b < bindings p → IsLife plan b (whole_of first.journal.replies contexts scripts) (slice_index_or tallies b no_tally)

-- and so are the answers of each session
abbrev pub AnswersAreTold : Type 0
AnswersAreTold = (p : Layout) (plan : Plan) (start : ℕ → Known) (first now : Token) (contexts : List ContextHand) (scripts : List ScriptHand) (tallies : List BindingTally) (counts : List ℕ) → IsOver p plan start first now contexts scripts tallies counts
    → (s : ℕ) → s < p.sessions → AreAnswers (slice_index counts s) (map (λ h. numbers_for s h.token) contexts)

-- and what each session was answered: no number that it was told is above the session's number of answers, and what it left tells how often it read
abbrev pub ScriptsAreTold : Type 0
ScriptsAreTold = (p : Layout) (plan : Plan) (start : ℕ → Known) (first now : Token) (contexts : List ContextHand) (scripts : List ScriptHand) (tallies : List BindingTally) (counts : List ℕ) (o : IsOver p plan start first now contexts scripts tallies counts)
    → AllZip (λ (h : ScriptHand) (s : Sights). AreResults p.contexts (slice_index counts h.session) (readings_in h.session s) h.script h.results) scripts (drop (length contexts) o.left)
