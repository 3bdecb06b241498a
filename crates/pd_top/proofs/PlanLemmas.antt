-- The plans that are run are sound: that of `trace`, and one with another fuel.
use Rattle.std.proofs.Common.{◌≡◌, ◌<◌, ◌≤◌, ℕ, suc, Option, None, Some, map, List, [], ◌∷◌, length, refl, ap, subst, sym, arith}
use Rattle.std.specs.Prelude.{IfSome, Bool, true, false, if◌then◌else◌}
use Rattle.std.specs.List.{AllByRecursion}
use Rattle.pd_plan.specs.declared.plan.Plan.{Plan}
use Rattle.pd_plan.specs.declared.plan.ContextSpec.{ContextSpec}
use Rattle.pd_plan.specs.Sound.{IsFrom, ContextFits, ListFits, IsSound}
use Rattle.pd_words.specs.Words.{IsFuel}
use Rattle.pd_words.specs.Fuel.{context_with, with_fuel}
use Rattle.pd_top.specs.Plans.{trace_plan}

none_fit : {A : Type 0} (high : ℕ) (P : A → Type 0) → ListFits {A = A} 0 high P []
none_fit high P = record { len = (omega arith, omega arith); all = tt }

one_fits : {A : Type 0} (low high : ℕ) (P : A → Type 0) (x : A) → low ≤ 1 → 1 ≤ high → P x → ListFits low high P (x ∷ [])
one_fits low high P x above below fits = record { len = (above, below); all = (fits, tt) }

pub trace_sound : (name : List ℕ) → IsSound (trace_plan name)
trace_sound name = record {
  fits = record {
    sources = one_fits 1 16 _ _ (omega arith) (omega arith) tt;
    exports = none_fit 256 _;
    contexts = one_fits 1 16 _ _ (omega arith) (omega arith) (record { fuel = (omega arith, omega arith) });
    bindings = one_fits 0 4096 _ _ (omega arith) (omega arith) (record {
      tags = one_fits 0 64 _ _ (omega arith) (omega arith) tt;
      not_tags = none_fit 64 _;
      sources = none_fit 64 _;
      lines = none_fit 64 _;
      roots = none_fit 64 _;
    });
    sessions = one_fits 0 16 _ _ (omega arith) (omega arith) (record {
      before = one_fits 0 4096 _ _ (omega arith) (omega arith) tt;
      actions = none_fit 1000 _;
      answers = none_fit 10000 _;
    });
  };
  refers = record {
    exports = tt;
    contexts = (omega arith, tt);
    bindings = (tt, tt);
    sessions = (record { before = (omega arith, tt); actions = tt; answers = tt }, tt);
  };
}

-- ---- the fuel that is asked for

fuel_length : (fuel : ℕ) (cs : List ContextSpec) → length (map (context_with fuel) cs) ≡ length cs
fuel_length fuel [] = refl
fuel_length fuel (c ∷ cs) = ap suc (fuel_length fuel cs)

fuel_fits : (fuel : ℕ) → IsFuel fuel → (cs : List ContextSpec) → AllByRecursion ContextFits (map (context_with fuel) cs)
fuel_fits fuel is [] = tt
fuel_fits fuel is (c ∷ cs) = (record { fuel = is }, fuel_fits fuel is cs)

fuel_refers : (count fuel : ℕ) (cs : List ContextSpec) → AllByRecursion (λ c. c.source < count) cs
    → AllByRecursion (λ c. c.source < count) (map (context_with fuel) cs)
fuel_refers count fuel [] all = tt
fuel_refers count fuel (c ∷ cs) all = (all.0, fuel_refers count fuel cs all.1)

-- a sound plan is sound with another fuel
pub fuel_sound : (plan : Plan) (fuel : Option ℕ) → IfSome fuel IsFuel → IsSound plan → IsSound (with_fuel fuel plan)
fuel_sound plan None is sound = sound
fuel_sound plan (Some fuel) is sound = record {
  fits = record {
    sources = sound.fits.sources;
    exports = sound.fits.exports;
    contexts = record { len = subst (IsFrom 1 16) (sym (fuel_length fuel plan.contexts)) sound.fits.contexts.len; all = fuel_fits fuel is plan.contexts };
    bindings = sound.fits.bindings;
    sessions = sound.fits.sessions;
  };
  refers = record {
    exports = sound.refers.exports;
    contexts = fuel_refers (length plan.sources) fuel plan.contexts sound.refers.contexts;
    bindings = sound.refers.bindings;
    sessions = sound.refers.sessions;
  };
}

-- ---- the binding that a command asks for

-- where it isn't told, it fits
pub binding_fits : (fits : Bool) (binding : ℕ) → ◌≡◌ {A = Option ℕ} (if fits then None else Some binding) None → fits ≡ true
binding_fits true binding none = refl
binding_fits false binding none = cc
