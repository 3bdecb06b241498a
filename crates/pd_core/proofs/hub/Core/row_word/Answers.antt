use Rattle.std.proofs.Common.{◌≡◌, ℕ, ◌+◌, ◌*◌, ◌<◌, ◌^◌, arith, sym, ap, ◌∙◌, subst}
use Rattle.pd_core.specs.Layout.{Layout, row_at, width, front}
use Rattle.pd_core.specs.Tokens.{Hub}
use Rattle.pd_core.proofs.Places.{row_inside, row_is}
use Rattle.pd_core.proofs.hub.Core.row_word.Goals as goal

below : (p : Layout) (n r rows nodes behind bs : ℕ) → n < p.nodes → r < width p → rows ≡ width p → nodes ≡ p.nodes → behind ≡ front p + bs → behind < 2 ^ 42
    → (nodes + (n * rows + r) ≡ row_at p n r) × (nodes + (n * rows + r) < 2 ^ 42)
below p n r rows nodes behind bs h k e f g m =
    let product : n * rows ≡ n * width p = ap (λ w. n * w) e in
    let value : nodes + (n * rows + r) ≡ row_at p n r = omega (arith, row_is p n r) in
    (value, omega (arith, row_inside p n r h k))

pub overflow_mul-result : goal.overflow_mul-result
overflow_mul-result c = let same = ap (λ (h : Hub). h.layout) c.self.view_is in let i = c.self.invariant in
    omega (arith, (below _ c.args.n c.args.r _ _ _ _ (subst (λ (p : Layout). c.args.n < p.nodes) (sym same) c.requires.0) (subst (λ (p : Layout). c.args.r < width p) (sym same) c.requires.1) i.8 i.0 i.4 i.6).1)

pub overflow_add-result : goal.overflow_add-result
overflow_add-result c = let same = ap (λ (h : Hub). h.layout) c.self.view_is in let i = c.self.invariant in
    omega (arith, (below _ c.args.n c.args.r _ _ _ _ (subst (λ (p : Layout). c.args.n < p.nodes) (sym same) c.requires.0) (subst (λ (p : Layout). c.args.r < width p) (sym same) c.requires.1) i.8 i.0 i.4 i.6).1)

pub overflow_add-result-2 : goal.overflow_add-result-2
overflow_add-result-2 c = let same = ap (λ (h : Hub). h.layout) c.self.view_is in let i = c.self.invariant in
    omega (arith, (below _ c.args.n c.args.r _ _ _ _ (subst (λ (p : Layout). c.args.n < p.nodes) (sym same) c.requires.0) (subst (λ (p : Layout). c.args.r < width p) (sym same) c.requires.1) i.8 i.0 i.4 i.6).1)

pub returns : goal.returns
returns c = let same = ap (λ (h : Hub). h.layout) c.self.view_is in let i = c.self.invariant in
    (below _ c.args.n c.args.r _ _ _ _ (subst (λ (p : Layout). c.args.n < p.nodes) (sym same) c.requires.0) (subst (λ (p : Layout). c.args.r < width p) (sym same) c.requires.1) i.8 i.0 i.4 i.6).0 ∙ ap (λ (p : Layout). row_at p c.args.n c.args.r) same
