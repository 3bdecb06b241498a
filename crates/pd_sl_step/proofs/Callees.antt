-- A call by its callee.
use Rattle.std.proofs.Common.{◌≡◌, ℕ, List, ◌∷◌, drop, None, Some, refl, sym, ap}
use Rattle.pd_values.specs.declared.value.Value.{Value}
use Rattle.pd_values.specs.declared.value.Value.TheVariants.{Func}
use Rattle.pd_values.specs.declared.value.Fault.TheVariants.{WrongKind}
use Rattle.pd_tree.specs.Program.{Program, item_at}
use Rattle.pd_machine.specs.declared.run.Pending.{Pending}
use Rattle.pd_machine.specs.declared.run.Mode.TheVariants.{Coming}
use Rattle.pd_machine.specs.declared.run.NodeResult.TheVariants.{Faults}
use Rattle.pd_machine.specs.Events.{State}
use Rattle.pd_meaning.specs.Machine.{machine, item_called, value_called}
use Rattle.pd_sl_step.specs.Sl.{callee_of}

pub no_callee : (p : Program) (n : ℕ) (values : List Value) (stack : List Pending) (s : State) → None ≡ callee_of values → value_called p n values stack s ≡ machine (Coming (Faults WrongKind n)) stack s
no_callee p n (Func i ∷ arguments) stack s h = cc
no_callee p n _ stack s h = refl

pub some_callee : (p : Program) (n i : ℕ) (values : List Value) (stack : List Pending) (s : State) → Some i ≡ callee_of values → value_called p n values stack s ≡ item_called p n (item_at p i).root (drop 1 values) stack s
some_callee p n i (Func j ∷ arguments) stack s h = let e : i ≡ j = cc in ap (λ k. item_called p n (item_at p k).root arguments stack s) (sym e)
some_callee p n i _ stack s h = cc
