use Rattle.pd_record.proofs.HitsLaws.{reasons-seen}
use Rattle.pd_record.proofs.StoppingLaws.{stopped-none, stopping-begins, stopping-runs, stopping-stops, stopping-ends, stopping-over, stopped-all}
use Rattle.pd_record.proofs.stopping_law.Goals as goal

pub returns-clause-reasons : goal.returns-clause-reasons
returns-clause-reasons c plan p context ts before new stops t s old at order = reasons-seen plan p context ts before new stops t s old at order

pub returns-clause-first : goal.returns-clause-first
returns-clause-first c plan p context seen = stopped-none plan p context seen

pub returns-clause-begin : goal.returns-clause-begin
returns-clause-begin c plan p context ts t n seen more_seen stops number kept i = stopping-begins plan p context ts t n seen more_seen stops number kept i

pub returns-clause-runs : goal.returns-clause-runs
returns-clause-runs c plan p context ts t s ss seen stops none i = stopping-runs plan p context ts t s ss seen stops none i

pub returns-clause-stops : goal.returns-clause-stops
returns-clause-stops c plan p context ts t s ss seen stops r rs given some goes i = stopping-stops plan p context ts t s ss seen stops r rs given some goes i

pub returns-clause-ends : goal.returns-clause-ends
returns-clause-ends c plan p context ts t s ss seen stops r rs given some ends i = stopping-ends plan p context ts t s ss seen stops r rs given some ends i

pub returns-clause-over : goal.returns-clause-over
returns-clause-over c plan p context ts t seen stops i = stopping-over plan p context ts t seen stops i

pub returns-clause-all : goal.returns-clause-all
returns-clause-all c plan p context n events seen stops i = stopped-all plan p context n events seen stops i
