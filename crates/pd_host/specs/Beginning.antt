-- For the code's proofs: no public contract needs it.
-- How a run begins: on a new board, with a task for each context and each session.
use Rattle.std.specs.Prelude.{◌≡◌, ℕ, ◌≤◌, ◌<◌, List, ◌++◌, length}
use Rattle.pd_tree.specs.Program.{Program}
use Rattle.pd_plan.specs.declared.plan.Plan.{Plan}
use Rattle.pd_filter.specs.Matching.{table_of}
use Rattle.pd_board.specs.Standing.{Standing, IsNew}
use Rattle.pd_core.specs.Views.{first_view}
use Rattle.pd_shared.specs.Sitting.{Sitting, standing_of}
use Rattle.pd_threads.specs.declared.work.Task.{Task}
use Rattle.pd_threads.specs.Returned.{AreContextTasks, AreSessionTasks}
use Rattle.pd_run.specs.Done.{IsLaidOut}

-- the first seat of a new board for the plan and its program
pub record IsFirstOf (plan : Plan) (p : Program) (s : Sitting) : Type 0 where
  pub laid_out : IsLaidOut plan s.hub.layout
  pub view : s.token.pass.view ≡ first_view
  pub new : IsNew (table_of plan p) (length p.nodes) (length plan.sessions) (length plan.contexts) (standing_of s)

-- there is a share for one draw, and one of each session's answers
pub record HasRoom (s : Standing) : Type 0 where
  pub draws : 1 ≤ s.draw_share
  pub answers : (t : ℕ) → t < s.sessions → 1 ≤ s.answer_share t

-- a task for each context, and then one for each session
pub record AreTasksOf (plan : Plan) (tasks : List Task) : Type 0 where
  pub contexts : List Task
  pub sessions : List Task
  pub all : tasks ≡ contexts ++ sessions
  pub count : length contexts ≡ length plan.contexts
  pub contexts_are : AreContextTasks 0 contexts
  pub sessions_are : AreSessionTasks 0 plan.sessions sessions
