-- What `ends_with` says of a text, as the function on lists.
use Rattle.std.proofs.Common.{codes}
use Rattle.std.proofs.lemmas.Str.Pattern.{ends_text}
use Rattle.pd_top.proofs.plans.is_pl0_name.Goals as goal

pub returns : goal.returns
returns c = ends_text c.ends_with.result (codes ".pl0") c.args.name.now c.ends_with.ensures.cases
