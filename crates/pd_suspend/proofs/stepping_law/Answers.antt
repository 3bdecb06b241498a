use Rattle.pd_suspend.proofs.Stepping.{counters_see}
use Rattle.pd_suspend.proofs.Following.{new_is_idle, sees_the_end, sees_one_more, arms_the_step, steps_follow_stops, one_more_is_numbered}
use Rattle.pd_suspend.proofs.stepping_law.Goals as goal

pub returns-clause-counters : goal.returns-clause-counters
returns-clause-counters c p past a t numbered within number = counters_see p past a t numbered within number

pub returns-clause-new : goal.returns-clause-new
returns-clause-new c p = new_is_idle p

pub returns-clause-end : goal.returns-clause-end
returns-clause-end c p past o s t numbered number stepping = sees_the_end p past o s t numbered number stepping

pub returns-clause-more : goal.returns-clause-more
returns-clause-more c p past o s t stepping = sees_one_more p past o s t stepping

pub returns-clause-arm : goal.returns-clause-arm
returns-clause-arm c p past t x at = arms_the_step p past t x at

pub returns-clause-steps : goal.returns-clause-steps
returns-clause-steps c = steps_follow_stops

pub returns-clause-numbered : goal.returns-clause-numbered
returns-clause-numbered c events t numbered number = one_more_is_numbered events t numbered number
