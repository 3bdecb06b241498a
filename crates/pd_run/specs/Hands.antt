-- For proofs above: no public contract needs it.
-- What a piece of work brings back from its thread.
use Rattle.std.specs.Prelude.{◌≡◌, ℕ, ◌<◌, ◌||◌, not, Bool, true, false, List, [], map, Option, Some, None}
use Rattle.std.specs.List.{list_all, list_any, filter_map}
use Rattle.pd_plan.specs.declared.plan.Action.{Action}
use Rattle.pd_plan.specs.declared.plan.Plan.{Plan}
use Rattle.pd_board.specs.declared.answers.ActResult.{ActResult}
use Rattle.pd_board.specs.declared.answers.ActResult.TheVariants as acts
use Rattle.pd_board.specs.declared.answers.Known.{Known}
use Rattle.pd_board.specs.declared.answers.Known.TheVariants as knowns
use Rattle.pd_board.specs.declared.answers.Sight.{Sight}
use Rattle.pd_board.specs.Answers.{has_dispose}
use Rattle.pd_board.specs.OnContext.{rises}
use Rattle.pd_record.specs.Acts.{uses_up}
use Rattle.pd_session.specs.declared.record.ActionResult.{ActionResult}
use Rattle.pd_session.specs.Results.{Readings, act_in, AreResults}
use Rattle.pd_shared.specs.declared.token.Token.{Token}
use Rattle.pd_shared.specs.Book.{known_at, reads_at}
use Rattle.pd_seats.specs.Back.{numbers_for}
use Rattle.pd_run.specs.Part.{Part, is_spent, HasLife}

-- ---- the answers of a context's board, and those of its acts

-- an answer that the board of a context gave, at this event: to an act of a session's answer, or to the context's own disposal of a
-- binding that was used up
pub record Deed : Type 0 where
  pub event : ℕ
  pub own : Bool
  pub reply : ActResult

-- the answer with its event, where it is one to an act
abbrev pub unless_own : Bool → ℕ × ActResult → Option (ℕ × ActResult)
unless_own true x = None
unless_own false x = Some x

abbrev pub act_of : Deed → Option (ℕ × ActResult)
act_of d = unless_own d.own (d.event, d.reply)

-- whether the answer is one to a dispose of a binding that was used up
abbrev pub is_end : Plan → List Sight → ActResult → Bool
is_end plan seen (acts.Disposed c a) = list_any (is_spent plan c) seen
is_end plan seen _ = false

-- whether the answer is one to an act, or else to such a dispose
abbrev pub is_rightful : Plan → List Sight → Deed → Bool
is_rightful plan seen d = not d.own || is_end plan seen d.reply

-- whether the sight doesn't use up its binding, or one of these answers is that of a dispose of the binding
abbrev pub is_ended : Plan → List Deed → Sight → Bool
is_ended plan deeds s = not (uses_up plan s.binding s.drawn) || has_dispose s.binding (map (λ d. d.reply) deeds)

-- the answers of a context's board, in order, are those of its acts and those of its own disposals: one where a hit used up a binding
pub record AreReplies (plan : Plan) (c : Part) (deeds : List Deed) (replies : List ActResult) : Type 0 where
  pub all : replies ≡ map (λ d. d.reply) deeds
  pub acts : c.acts ≡ filter_map act_of deeds
  pub own : list_all (is_rightful plan c.seen) deeds ≡ true
  pub ends : list_all (is_ended plan deeds) c.seen ≡ true

-- ---- what is handed back

-- a context's: its token, its part, and the answers of its board one by one
pub record ContextHand : Type 0 where
  pub token : Token
  pub part : Part
  pub deeds : List Deed

-- the token is that of a context's seat that knew `start` of the bindings at first: what it saw and did is the part, by what it knows now
pub record IsContext (bindings : ℕ) (plan : Plan) (start : ℕ → Known) (h : ContextHand) : Type 0 where
  pub seen : h.token.journal.sights ≡ h.part.seen
  pub replies : AreReplies plan h.part h.deeds h.token.journal.replies
  pub lives : (b : ℕ) → b < bindings → HasLife plan b (start b ≡ knowns.Attached) (known_at h.token.known.items b ≡ knowns.Disposed) h.part
  pub numbers : (s : ℕ) → rises (numbers_for s h.token) ≡ true

-- ---- a session's

-- its number, its token, its actions, and what these were answered
pub record ScriptHand : Type 0 where
  pub session : ℕ
  pub token : Token
  pub script : List Action
  pub results : List ActionResult

-- the answers of its acts
abbrev pub acted : ScriptHand → List ActResult
acted h = filter_map act_in h.results

-- how often its seat read the session's word and that of ended contexts
abbrev pub readings_by : ℕ → Token → Readings
readings_by s t = record { loads = (reads_at t.sessions.items s).loads; end_loads = t.ends.loads; last_ends = t.ends.last }

-- the token is that of a session's seat: it saw nothing, took no answer numbers, and its answers are those of its acts; what its awaits
-- tell is at most what it read last
pub record IsScript (sessions contexts : ℕ) (h : ScriptHand) : Type 0 where
  pub within : h.session < sessions
  pub seen : h.token.journal.sights ≡ []
  pub replies : h.token.journal.replies ≡ acted h
  pub numbers : (s : ℕ) → numbers_for s h.token ≡ []
  pub answered : AreResults contexts (reads_at h.token.sessions.items h.session).last (readings_by h.session h.token) h.script h.results
