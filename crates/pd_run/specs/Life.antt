-- Definition, which public contracts cite.
-- The life of a binding over all contexts and sessions of a run.
use Rattle.std.specs.Prelude.{◌≡◌, ℕ, ◌<◌, ◌≤◌, ◌||◌, Bool, true, if◌then◌else◌, List, ◌++◌, count_by, flat_map}
use Rattle.std.specs.List.{All, list_any}
use Rattle.std.specs.Option.{ForSome}
use Rattle.pd_plan.specs.declared.plan.Plan.{Plan}
use Rattle.pd_board.specs.declared.answers.ActResult.{ActResult}
use Rattle.pd_board.specs.declared.answers.Sight.{Sight}
use Rattle.pd_board.specs.declared.answers.State.TheVariants as states
use Rattle.pd_board.specs.declared.answers.BindingTally.{BindingTally}
use Rattle.pd_board.specs.Answers.{has_attach, has_attachment, has_disposal, is_disposal, disposal, TogglesUpTo}
use Rattle.pd_board.specs.Kept.{numbers_of, IsMissed, FitsToggles, EachAfter}
use Rattle.pd_board.specs.Tally.{state_by}
use Rattle.pd_board.specs.Order.{has_gone, IsInOrder}
use Rattle.pd_board.specs.Order.{OnceBelow, is_first, HasCause}
use Rattle.pd_run.specs.Part.{Part, replies_of, is_spent, HasLife}

-- what all contexts and sessions tell of bindings: the answers of the attaches before the run, in order; of each context its part; and of
-- each session the answers of its acts, in order
pub record Whole : Type 0 where
  pub before : List ActResult
  pub contexts : List Part
  pub scripts : List (List ActResult)

-- all that was seen, and all answers that are recorded
abbrev pub seen_in : Whole → List Sight
seen_in w = flat_map (λ c. c.seen) w.contexts

abbrev pub recorded : Whole → List ActResult
recorded w = w.before ++ (flat_map replies_of w.contexts ++ flat_map (λ rs. rs) w.scripts)

-- the binding is disposed in the end
abbrev pub IsGone : BindingTally → Type 0
IsGone t = t.state ≡ states.Disposed

-- P of the answers of the acts of each context, and of those of each session
pub record OfEach (P : List ActResult → Type 0) (w : Whole) : Type 0 where
  pub contexts : All (λ c. P (replies_of c)) w.contexts
  pub scripts : All P w.scripts

-- the life of binding b of the plan, with this tally
pub record IsLife (plan : Plan) (b : ℕ) (w : Whole) (t : BindingTally) : Type 0 where
  -- on each context, with what its acts there say
  pub lives : All (HasLife plan b (has_attach b w.before ≡ true) (IsGone t)) w.contexts
  -- over all contexts the numbers are those below its count, each once
  pub numbers : OnceBelow t.count (numbers_of b (seen_in w))
  -- of all attaches, where there are any, exactly one answered `Attached` or `Gone`; where the count is above 0, `Attached`
  pub first : count_by (is_first b) (recorded w) ≡ (if has_attach b (recorded w) then 1 else 0)
  pub attached : 0 < t.count → has_attachment b (recorded w) ≡ true
  -- at most one dispose answered `Disposed`, with the count
  pub disposals : count_by (is_disposal b) (recorded w) ≤ 1
  pub final : All (λ r. ForSome (disposal b r) (λ n. n ≡ t.count)) (recorded w)
  -- it is disposed exactly where there is such an answer, or where a hit used it up; else live exactly where an attach answered `Attached`
  pub state : t.state ≡ state_by (has_disposal b (recorded w) || list_any (is_spent plan b) (seen_in w)) (has_attachment b (recorded w))
  -- an answer that says that it is disposed stands only where it is
  pub gone : has_gone b (recorded w) ≡ true → IsGone t
  -- toggles counted at most the count; of those up to any number, and so of all, the disables are as many as the enables, or one more; and
  -- each number is a place, or missed, as the toggles up to it say
  pub counted : TogglesUpTo b t.count (recorded w)
  pub toggles : (n : ℕ) → (off : Bool) × IsMissed b n off (recorded w)
  pub toggled : All (FitsToggles b (recorded w)) (seen_in w)
  -- a toggle that found nothing to change rests on one that made it so
  pub causes : OfEach (EachAfter (HasCause b (recorded w))) w
  -- the answers to the acts of one context, and of one session, are in order
  pub order : OfEach (EachAfter (IsInOrder b)) w
