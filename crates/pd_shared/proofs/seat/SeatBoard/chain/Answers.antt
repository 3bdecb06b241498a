use Rattle.std.proofs.Common.{rules, refl, ◌≡◌, ◌<◌, ◌≤◌, ◌+◌, ◌^◌, ◌==◌, if◌then◌else◌, sym, ap, ◌∙◌, subst, arith, length, length-set, List, ℕ}
use Rattle.std.specs.Prelude.{slice_index}
use Rattle.pd_shared.specs.declared.token.Token.{Token}
use Rattle.pd_shared.specs.Sitting.{Sitting}
use Rattle.pd_shared.proofs.LoadLemmas.{loads_more, loads_low, number_read}
use Rattle.pd_core.specs.declared.view.View.{View}
use Rattle.pd_shared.specs.Held.{IsHeld}
use Rattle.pd_shared.proofs.HeldLemmas.{held_same}
use Rattle.pd_shared.proofs.seat.SeatBoard.chain.Goals as goal

pub index_mut-requires : goal.index_mut-requires
index_mut-requires c =
    let node : c.n.inside.0 < c.self.inside.board.now.core.layout.nodes = search rules in
    let same : c.load_chain-chain.new.token.loads.items ≡ c.self.inside.token.loads.items = ap (λ (t : Token). t.loads.items) c.load_chain-chain.ensures.rest in
    let within : c.n.inside.0 < length c.load_chain-chain.new.token.loads.items = subst (λ (i : ℕ). c.n.inside.0 < i) (sym (ap length same ∙ c.self.invariant.1.loads.0)) node in
    search rules

pub overflow_add-index_mut : goal.overflow_add-index_mut
overflow_add-index_mut c =
    let node : c.n.inside.0 < c.self.inside.board.now.core.layout.nodes = search rules in
    let same : c.load_chain-chain.new.token.loads.items ≡ c.self.inside.token.loads.items = ap (λ (t : Token). t.loads.items) c.load_chain-chain.ensures.rest in
    let within : c.n.inside.0 < length c.load_chain-chain.new.token.loads.items = subst (λ (i : ℕ). c.n.inside.0 < i) (sym (ap length same ∙ c.self.invariant.1.loads.0)) node in
    let is : c.index_mut.result.now ≡ slice_index c.load_chain-chain.new.token.loads.items c.n.inside.0 = number_read c.load_chain-chain.new.token.loads.items c.n.inside.0 c.index_mut.result.now within c.index_mut.ensures.value in
    let low : (m : ℕ) → slice_index c.load_chain-chain.new.token.loads.items m ≤ c.self.inside.token.all_loads = subst (λ (xs : List ℕ). (m : ℕ) → slice_index xs m ≤ c.self.inside.token.all_loads) (sym same) c.self.invariant.1.loads.1 in
    let room : c.self.inside.token.all_loads + 1 < 2 ^ 32 = subst (λ (s : Sitting). s.token.all_loads + 1 < 2 ^ 32) (sym c.self.view_is) c.requires.room in
    let fits : c.index_mut.result.now + 1 < 2 ^ 32 = (let here = low c.n.inside.0 in omega arith) in
    search rules

pub invariant_of-self : goal.invariant_of-self
invariant_of-self c =
    let node : c.n.inside.0 < c.self.inside.board.now.core.layout.nodes = search rules in
    let same : c.load_chain-chain.new.token.loads.items ≡ c.self.inside.token.loads.items = ap (λ (t : Token). t.loads.items) c.load_chain-chain.ensures.rest in
    let within : c.n.inside.0 < length c.load_chain-chain.new.token.loads.items = subst (λ (i : ℕ). c.n.inside.0 < i) (sym (ap length same ∙ c.self.invariant.1.loads.0)) node in
    let is : c.index_mut.result.now ≡ slice_index c.load_chain-chain.new.token.loads.items c.n.inside.0 = number_read c.load_chain-chain.new.token.loads.items c.n.inside.0 c.index_mut.result.now within c.index_mut.ensures.value in
    let low : (m : ℕ) → slice_index c.load_chain-chain.new.token.loads.items m ≤ c.self.inside.token.all_loads = subst (λ (xs : List ℕ). (m : ℕ) → slice_index xs m ≤ c.self.inside.token.all_loads) (sym same) c.self.invariant.1.loads.1 in
    let t = c.load_chain-chain.ensures.tied in (
      c.load_chain-chain.ensures.id ∙ c.self.invariant.0,
      record {
        idle = t.idle;
        known_is = t.known_is;
        deeds = t.deeds;
        reads = t.reads;
        all_loads = t.all_loads;
        cleared = t.cleared;
        alone = t.alone;
        gone = t.gone;
        loads = (
          length-set c.load_chain-chain.new.token.loads.items c.n.inside.0 (c.index_mut.result.now + 1) ∙ t.loads.0,
          λ m. let bound = loads_low c.load_chain-chain.new.token.loads.items c.n.inside.0 c.index_mut.result.now c.self.inside.token.all_loads within is low m in omega (arith, bound, c.load_chain-chain.ensures.all_loads),
        );
      },
      subst (λ (v : View). IsHeld c.self.inside.board.now.core.layout v c.load_chain-chain.new.token.seats c.load_chain-chain.new.token.counts.items) (sym c.load_chain-chain.ensures.view)
          (subst (λ (t : Token). IsHeld c.self.inside.board.now.core.layout (record c.self.inside.token.pass.view { loads = c.load_chain-chain.new.token.pass.view.loads; loaded = c.load_chain-chain.new.token.pass.view.loaded; found_disposed = c.load_chain-chain.new.token.pass.view.found_disposed; steps = c.load_chain-chain.new.token.pass.view.steps; last = c.load_chain-chain.new.token.pass.view.last }) t.seats t.counts.items) (sym c.load_chain-chain.ensures.rest)
          (held_same c.self.inside.board.now.core.layout c.self.inside.token.pass.view _ c.self.inside.token.seats c.self.inside.token.counts.items refl refl refl c.self.invariant.2)),
    )

pub returns-clause-loads : goal.returns-clause-loads
returns-clause-loads c m =
    let node : c.n.inside.0 < c.self.inside.board.now.core.layout.nodes = search rules in
    let same : c.load_chain-chain.new.token.loads.items ≡ c.self.inside.token.loads.items = ap (λ (t : Token). t.loads.items) c.load_chain-chain.ensures.rest in
    let within : c.n.inside.0 < length c.load_chain-chain.new.token.loads.items = subst (λ (i : ℕ). c.n.inside.0 < i) (sym (ap length same ∙ c.self.invariant.1.loads.0)) node in
    let is : c.index_mut.result.now ≡ slice_index c.load_chain-chain.new.token.loads.items c.n.inside.0 = number_read c.load_chain-chain.new.token.loads.items c.n.inside.0 c.index_mut.result.now within c.index_mut.ensures.value in
    let low : (m : ℕ) → slice_index c.load_chain-chain.new.token.loads.items m ≤ c.self.inside.token.all_loads = subst (λ (xs : List ℕ). (m : ℕ) → slice_index xs m ≤ c.self.inside.token.all_loads) (sym same) c.self.invariant.1.loads.1 in
    rw (← c.self.view_is, ← c.n.view_is)
    (loads_more c.load_chain-chain.new.token.loads.items c.n.inside.0 c.index_mut.result.now m within is
    ∙ ap (λ (xs : List ℕ). slice_index xs m + (if m == c.n.inside.0 then 1 else 0)) same)

pub returns-clause-steps : goal.returns-clause-steps
returns-clause-steps c = rw (← c.self.view_is, ← c.n.view_is) c.load_chain-chain.ensures.steps
