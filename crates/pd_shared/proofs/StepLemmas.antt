-- How many steps each call takes.
use Rattle.std.proofs.Common.{◌≡◌, ℕ, zero, suc, ◌+◌, ◌*◌, ◌/◌, length, Bool, true, false, if◌then◌else◌, ◌==◌, sym, refl, ap, ◌∙◌, arith}
use Rattle.std.specs.Prelude.{slice_index}
use Rattle.pd_core.specs.declared.view.View.{View}
use Rattle.pd_core.specs.Layout.{Layout, row, width}
use Rattle.pd_core.specs.Words.{bit_of}
use Rattle.pd_core.specs.Views.{fresh, found_attached}
use Rattle.pd_core.specs.Kinds.{Kind, effect, load_node, load_binding, draw, clear_bit, set_bit, set_attached, set_disposed, count_answer, load_answers, count_end, load_ends, load_row, set_summary, set_off, clear_off}
use Rattle.pd_shared.specs.Took.{Took, drew, looked, both}
use Rattle.pd_shared.specs.Steps.{MarkedTo, LoadedIf, LoadedTo, rows_below, CountsOne, CountsChain, CountsAttach, CountsDraw}

effect_steps : (p : Layout) (k : Kind) (w : ℕ) (v : View) → (effect p k w v).steps ≡ v.steps
effect_steps p (load_node n) w v = refl
effect_steps p (load_binding event b) w v = refl
effect_steps p (draw event b) w v = refl
effect_steps p (clear_bit n b) w v = refl
effect_steps p (set_bit n b) w v = refl
effect_steps p (set_attached b) w v = refl
effect_steps p (set_disposed b) w v = refl
effect_steps p (count_answer s) w v = refl
effect_steps p (load_answers s) w v = refl
effect_steps p count_end w v = refl
effect_steps p load_ends w v = refl
effect_steps p (load_row n r) w v = refl
effect_steps p (set_summary n r) w v = refl
effect_steps p (set_off b) w v = refl
effect_steps p (clear_off b) w v = refl

took_one : (p : Layout) (k : Kind) (v : View) (w : ℕ) (next : View) → Took p k v w next → next.steps ≡ v.steps + 1
took_one p k v w next t = let e = ap (λ (y : View). y.steps) t.1 in let same = effect_steps p k w v in omega arith

pub counts_one : CountsOne
counts_one p k v next t = took_one p k v t.0 next t.1

marked : (p : Layout) (b k : ℕ) (v next : View) → MarkedTo p b k v next → next.steps ≡ v.steps + 2 * k
marked p b zero v next t = let e = ap (λ (y : View). y.steps) t in omega arith
marked p b (suc k) v next t = let before = marked p b k v t.0 t.2 in let one = counts_one p (set_bit (slice_index (row p b) k) b) t.0 t.1 t.3 in let two = counts_one p (set_summary (slice_index (row p b) k) (b / 64)) t.1 next t.4 in omega arith

pub counts_attach : CountsAttach
counts_attach p b v next t = let before = marked p b (length (row p b)) v t.0 t.1 in let one = counts_one p (set_attached b) t.0 next t.2 in omega arith

one_row : (p : Layout) (n r : ℕ) (m next : View) (has_it : Bool) → LoadedIf has_it p n r m next → next.steps ≡ m.steps + (if has_it then 1 else 0)
one_row p n r m next true t = counts_one p (load_row n r) m next t
one_row p n r m next false t = let e = ap (λ (y : View). y.steps) t in omega arith

loaded : (p : Layout) (n summary r : ℕ) (v next : View) → LoadedTo p n summary r v next → next.steps ≡ v.steps + rows_below summary r
loaded p n summary zero v next t = let e = ap (λ (y : View). y.steps) t in omega arith
loaded p n summary (suc r) v next t = let before = loaded p n summary r v t.0 t.1 in let one = one_row p n r t.0 next (bit_of summary r == 1) t.2 in omega arith

pub counts_chain : CountsChain
counts_chain p n rows v next t = let first = took_one p (load_node n) v t.0 t.1 t.2 in let behind = loaded p n t.0 (width p) t.1 next t.3 in omega (arith, first, behind, t.4)

pub counts_draw : CountsDraw
counts_draw p event b v next drawn later (drew w is took d l) = let e = took_one p (draw event b) v w next took in (omega arith, omega arith, λ _. e)
counts_draw p event b v next drawn later (looked w new took dead d l) = let e = took_one p (load_binding event b) v w next took in (omega arith, omega arith, λ _. e)
counts_draw p event b v next drawn later (both u w between new first on took d l) =
    let one = took_one p (load_binding event b) v u between first in
    let two = took_one p (draw event b) between w next took in
    (omega arith, omega arith, λ is. absurd (let q : fresh ≡ found_attached = sym new ∙ is in cc))
