use Rattle.std.proofs.Common.{◌≡◌, ◌∙◌, ◌==◌, ◌<◌, ◌||◌, ◌&&◌, ℕ, List, [], Bool, ap, sym, subst, arith, rules}
use Rattle.std.specs.Prelude.{slice_index_or}
use Rattle.std.specs.List.{All, list_any}
use Rattle.pd_board.proofs.PlainLemmas.{row_read}
use Rattle.pd_shared.proofs.MatchingLemmas.{all_within, next_row, all_rows, no_rows}
use Rattle.pd_shared.proofs.matching.Matching.of.Goals as goal

pub loop-b-init : goal.loop-b-init
loop-b-init c = record {
  nodes = search rules;
  bindings = search rules;
  width = search rules;
  set = λ m k. c.in_ok-matching.ensures.clear m k ∙ no_rows k (list_any (λ n. n == m) (slice_index_or c.args.rows.now k []));
}

pub set_all-requires-clause-row : goal.set_all-requires-clause-row
set_all-requires-clause-row c =
    let row : c.as_slice.result.now ≡ slice_index_or c.args.rows.now c.loop-b.b [] = c.as_slice.ensures ∙ row_read c.args.rows.now c.loop-b.b c.index-rows-b.result (search rules) c.index-rows-b.is in
    subst (λ (x : List ℕ × ℕ). All (λ n. n < x.1) x.0) (λ i. (sym row i, sym c.loop-b.invariant.nodes i)) (all_within (slice_index_or c.args.rows.now c.loop-b.b []) c.args.nodes (c.requires.within c.loop-b.b))

pub loop-b-preserved : goal.loop-b-preserved
loop-b-preserved c =
    let row : c.as_slice.result.now ≡ slice_index_or c.args.rows.now c.loop-b.b [] = c.as_slice.ensures ∙ row_read c.args.rows.now c.loop-b.b c.index-rows-b.result (search rules) c.index-rows-b.is in
    record {
      nodes = c.set_all.ensures.alike.nodes ∙ c.loop-b.invariant.nodes;
      bindings = c.set_all.ensures.alike.bindings ∙ c.loop-b.invariant.bindings;
      width = c.set_all.ensures.alike.width ∙ c.loop-b.invariant.width;
      set = λ m k. c.set_all.ensures.set m k ∙ (ap (λ (t : Bool). (list_any (λ n. n == m) c.as_slice.result.now && k == c.loop-b.b) || t) (c.loop-b.invariant.set m k) ∙ next_row c.args.rows.now c.as_slice.result.now c.loop-b.b m k row);
    }

pub returns-clause-stand : goal.returns-clause-stand
returns-clause-stand c n b = c.loop-b.invariant.set n b ∙ all_rows c.args.rows.now c.loop-b.b n b (omega arith)
