use Rattle.pd_sections.proofs.Splitting.{splits_once, offends_once, splits_or_offends}
use Rattle.pd_sections.proofs.splitting_law.Goals as goal

pub returns : goal.returns
returns c = record {
  tokens = λ f at bytes xs ys l k. splits_once f l k;
  refusal = λ f at bytes x y l k. offends_once f l k;
  never_both = λ f at bytes xs x l k. splits_or_offends f l k;
}
