-- Definition, which public contracts cite.
-- What a context tells of bindings, and the life of a binding there. Where its board knows a binding as disposed, or the tally says so, the
-- binding is gone.
use Rattle.std.specs.Prelude.{ℕ, ◌==◌, ◌&&◌, Bool, List, map}
use Rattle.pd_tree.specs.Program.{Program}
use Rattle.pd_machine.specs.Events.{Told}
use Rattle.pd_plan.specs.declared.plan.Plan.{Plan}
use Rattle.pd_board.specs.declared.answers.ActResult.{ActResult}
use Rattle.pd_board.specs.declared.answers.Drawn.{Drawn}
use Rattle.pd_board.specs.declared.answers.Sight.{Sight}
use Rattle.pd_board.specs.OnContext.{IsLifeOn}
use Rattle.pd_suspend.specs.declared.context.ContextRecord.{ContextRecord}
use Rattle.pd_suspend.specs.Answers.{acts_of}
use Rattle.pd_record.specs.Logs.{moments_of}
use Rattle.pd_record.specs.Life.{numbers_of}
use Rattle.pd_record.specs.Acts.{uses_up}

-- what it saw; of each binding its subject events, by event, each with its number and the answer there; and the acts of the context's
-- answers, by event and in an answer's order, each with its event
pub record Part : Type 0 where
  pub seen : List Sight
  pub given : ℕ → List (ℕ × Drawn)
  pub acts : List (ℕ × ActResult)

-- what the record of a context with these events tells of bindings
abbrev pub part_of : Plan → Program → List Told → ContextRecord → Part
part_of plan p events r = record { seen = r.seen; given = moments_of plan p r.seen events; acts = acts_of r.stops }

-- the answers of a context's acts, without their events
abbrev pub replies_of : Part → List ActResult
replies_of c = map (λ x. x.1) c.acts

-- whether the sight is the hit that uses up b
abbrev pub is_spent : Plan → ℕ → Sight → Bool
is_spent plan b s = (s.binding == b) && uses_up plan b s.drawn

-- the life of binding b on one context; it was attached before the context began, or not
abbrev pub HasLife : Plan → ℕ → Type 0 → Type 0 → Part → Type 0
HasLife plan b attached gone c = IsLifeOn (uses_up plan b) attached gone b (numbers_of c.seen b) (c.given b) c.acts
