-- For the program that runs the cases: no library's contract cites it.
-- The plan of a case.
use Rattle.std.specs.Prelude.{[], ◌∷◌, codes}
use Rattle.pd_plan.specs.declared.plan.Language.{Language}
use Rattle.pd_plan.specs.declared.plan.Plan.{Plan}

-- one source in this language, and one context at its `main`
abbrev pub case_plan : Language → Plan
case_plan language = record {
  sources = record { name = codes "case"; language = language } ∷ [];
  exports = [];
  contexts = record { source = 0; entry = codes "main"; fuel = 1 } ∷ [];
  bindings = [];
  sessions = [];
}
