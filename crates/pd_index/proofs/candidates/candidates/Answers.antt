-- A breakpoint stops at Statements of one line, a pause at all.
use Rattle.std.proofs.Common.{◌≡◌, ℕ, List, length, sym, ◌∙◌, ap, subst}
use Rattle.pd_values.specs.declared.value.Tag.TheVariants.{Statement}
use Rattle.pd_break.specs.declared.resolving.Resolved.{Resolved}
use Rattle.pd_break.specs.declared.resolving.Resolved.TheVariants.{Line}
use Rattle.pd_break.specs.Resolving.{is_statement}
use Rattle.pd_plan.specs.declared.plan.BindingSpec.{BindingSpec}
use Rattle.pd_plan.specs.declared.plan.BindingSpec.TheVariants.{Break, Pause}
use Rattle.pd_filter.specs.Matching.{is_about, starts_at, stop_line}
use Rattle.pd_index.specs.Indexing.{bears, tagged, on_line}
use Rattle.pd_index.specs.Among.{IsAmong}
use Rattle.pd_index.proofs.FilterLaws.{among_line, among_weaker}
use Rattle.pd_index.proofs.candidates.candidates.Goals as goal

pub returns-in_ok-numbers-in-Line : goal.returns-in_ok-numbers-in-Line
returns-in_ok-numbers-in-Line c =
    let p = c.args.program.now in
    let count = length p.nodes in
    let spec = c.in-Break.spec in
    let line = c.in-Line.line in
    let items : c.in_ok-numbers-in-Line.field-0.items ≡ on_line p spec.source line = c.in_ok-numbers-in-Line.ensures ∙ c.by_line.ensures p c.requires.of_the_program in
    let stops : Line line ≡ stop_line p (Break spec) = sym c.in-Line.is ∙ c.requires.of_the_binding ∙ ap (stop_line p) c.in-Break.is in
    let on_lines : IsAmong count (starts_at p spec.source (Line line)) (on_line p spec.source line) = among_line p spec.source line in
    let about : IsAmong count (is_about p (Break spec)) (on_line p spec.source line) = subst (λ (r : Resolved). IsAmong count (starts_at p spec.source r) (on_line p spec.source line)) stops on_lines in
    subst (λ (xs : List ℕ). IsAmong count (is_about p c.args.binding.now) xs) (sym items)
    (subst (λ (b : BindingSpec). IsAmong count (is_about p b) (on_line p spec.source line)) (sym c.in-Break.is) about)

pub returns-in_ok-numbers-in-Pause : goal.returns-in_ok-numbers-in-Pause
returns-in_ok-numbers-in-Pause c =
    let p = c.args.program.now in
    let count = length p.nodes in
    let items : c.in_ok-numbers-in-Pause.field-0.items ≡ tagged p Statement = c.in_ok-numbers-in-Pause.ensures ∙ c.by_tag.ensures p c.requires.of_the_program in
    let about : IsAmong count (is_about p (Pause c.in-Pause.session)) (tagged p Statement) = among_weaker p (is_statement p) (bears p Statement) (λ n h. h) in
    subst (λ (xs : List ℕ). IsAmong count (is_about p c.args.binding.now) xs) (sym items)
    (subst (λ (b : BindingSpec). IsAmong count (is_about p b) (tagged p Statement)) (sym c.in-Pause.is) about)
