use Rattle.pd_record.proofs.Matching.{rows_are}
use Rattle.pd_record.proofs.ServingLaws.{serving-enter, serving-end, serving-drawn, serving-passed, serving-swept, serving-refused, serving-over, serving-act, current-quiet}
use Rattle.pd_record.proofs.WholeLaws.{life-on, observed-all}
use Rattle.pd_record.proofs.serving_law.Goals as goal

pub returns-clause-enter : goal.returns-clause-enter
returns-clause-enter c plan p context start ts done t has old new logs enter rows loaded i = serving-enter plan p context start ts t done has old new logs enter rows loaded i

pub returns-clause-end_of : goal.returns-clause-end_of
returns-clause-end_of c plan p context start ts done t s logs end_there opened i = serving-end plan p context start ts t done s logs end_there opened i

pub returns-clause-draw : goal.returns-clause-draw
returns-clause-draw c plan p context start ts done t left old new logs newer b d i next logged drawn = serving-drawn plan p context start ts t done left old new logs newer b d i next logged drawn

pub returns-clause-pass : goal.returns-clause-pass
returns-clause-pass c plan p context start ts done t left old new logs b i next gone end_there passed = serving-passed plan p context start ts t done left old new logs b i next gone end_there passed

pub returns-clause-sweep : goal.returns-clause-sweep
returns-clause-sweep c plan p context start ts done t left old new logs b i next gone enter quiet = serving-swept plan p context start ts t done left old new logs b i next gone enter quiet

pub returns-clause-refusal : goal.returns-clause-refusal
returns-clause-refusal c plan p context start ts done t left old new logs b enter false_there refused i = serving-refused plan p context start ts t done left old new logs b enter false_there refused i

pub returns-clause-over : goal.returns-clause-over
returns-clause-over c plan p context start ts done t left s logs n over number opened i = serving-over plan p context start ts t done left s logs n over number opened i

pub returns-clause-act : goal.returns-clause-act
returns-clause-act c plan p context start ts done n r old new logs act known i = serving-act plan p context start ts done n r old new logs act known i

pub returns-clause-quiet : goal.returns-clause-quiet
returns-clause-quiet c plan p context start ts done n old new logs i quiet = current-quiet plan p context start n ts done old new logs i quiet

pub returns-clause-rows : goal.returns-clause-rows
returns-clause-rows c plan p b n = rows_are plan p b n

pub returns-clause-life : goal.returns-clause-life
returns-clause-life c plan p context start s log events done b i = life-on plan p context start s log events done b i

pub returns-clause-all : goal.returns-clause-all
returns-clause-all c plan p context n start now events r seen count i = observed-all plan p context n start now events r seen count i
