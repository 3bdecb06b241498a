-- For the code's proofs: no public contract needs it.
-- What the serving of an event adds to what was seen, and to the board's answers.
use Rattle.std.specs.Prelude.{◌≡◌, ℕ, ◌==◌, true, List, ◌++◌, map}
use Rattle.std.specs.List.{list_all, filter_map}
use Rattle.pd_plan.specs.declared.plan.Plan.{Plan}
use Rattle.pd_board.specs.declared.answers.ActResult.{ActResult}
use Rattle.pd_board.specs.declared.answers.Sight.{Sight}
use Rattle.pd_board.specs.Standing.{Standing}
use Rattle.pd_record.specs.Replies.{used_up_by, of_hit, AreFor}

-- at event n these were seen more, and the board answered the disposals of those that were used up
pub record IsMore (plan : Plan) (n : ℕ) (old new : Standing) : Type 0 where
  pub news : List Sight
  pub sights : new.sights ≡ old.sights ++ news
  pub now : list_all (λ x. x.event == n) news ≡ true
  pub more : List ActResult
  pub replies : new.replies ≡ old.replies ++ more
  pub replied : AreFor (map of_hit (filter_map (used_up_by plan n) news)) more
