-- A machine that was made of the entry's frame begins as the pure one.
use Rattle.std.proofs.Common.{◌≡◌, ℕ, List, [], ◌∷◌, Result, Ok, Err, ap, ◌∙◌}
use Rattle.std.specs.Prelude.{IfOk, map}
use Rattle.std.specs.declared.alloc.AllocError.{AllocError}
use Rattle.pd_values.specs.declared.value.Value.{Value}
use Rattle.pd_tree.specs.Program.{Program, node_at}
use Rattle.pd_machine.specs.declared.run.Frame.{Frame}
use Rattle.pd_machine.specs.declared.run.Mode.TheVariants.{Entering}
use Rattle.pd_machine.specs.declared.run.Pending.TheVariants.{InCall}
use Rattle.pd_machine.specs.Held.{Held}
use Rattle.pd_meaning.specs.Meaning.{entry_frame, main_variables, opening}
use Rattle.pd_meaning.specs.Machine.{start}
use Rattle.pd_meaning.specs.Steps.{with_events}

abbrev pub first_held : Frame → List (List Value) → ℕ → Held
first_held f ms fuel = record { mode = Entering f.root; stack = InCall 0 f ∷ []; frames = f ∷ []; mains = ms; output = []; told = 0; left = fuel; fuel = fuel }

pub begun : (p : Program) (fuel root : ℕ) (r : Result Held AllocError) (f : Frame) (ms : List (List Value)) → f ≡ entry_frame root (node_at p root) (opening p fuel) → ms ≡ map (main_variables p) p.mains → IfOk r (λ m. m ≡ first_held f ms fuel) → IfOk r (λ m. with_events m [] ≡ start p fuel root)
begun p fuel root (Err e) f ms frame mains h = tt
begun p fuel root (Ok m) f ms frame mains h =
    ap (λ x. with_events x []) h ∙ ap (λ g. with_events (first_held g ms fuel) []) frame ∙ ap (λ q. with_events (first_held (entry_frame root (node_at p root) (opening p fuel)) q fuel) []) mains
