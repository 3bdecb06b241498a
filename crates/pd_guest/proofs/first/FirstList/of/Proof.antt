-- `of` makes a value of no bytes, at what its clauses name.
use mathlib.Core.Path.{refl}
use mathlib.Core.List.{[], ◌∷◌}
use seplogic.Ra.Ura.{Ura}
use mir.MapTy.{inst_fn}
use mir.Syntax.{named, Dict, a_type, dcons, dnil}
use denote.Param.{bounded}
use mir.Val.{vptr, vstruct, vnil}
use base.Logic.{SProp, via, fst∗}
use prog.Memory.{Memory}
use prog.Routine.{Routine}
use prog.Wp.{Calls, Loops, WpFn, Tables}
use types.Logic.{Logic}
use contract.Monad.{Fun}
use contract.Running.{tables, tables_of}
use sound.WpLaws.{WpFn-mono}
use types.Kit.{‵, raw, ◌$◌, ◌∵◌, !, qed, move, suffices, done}
use types.Run.{no_more, returns, enter}
use types.Part.{agg}
use types.ByLocal.{alloc_all, pass_all, free_all, look_at, sets}
use denote.Exit.{yes}
use denote.RattleType.{owns, RattleType}
use denote.Param.Laws.{Laws}
use denote.Ref.{shr_vals, shr_Tells}
use denote.Shadow.{pure_i}
use denote.Signature.{plain, types_at}
use denote.Triple.Entry.{alive}
use denote.Triple.Spec.{Meets, triple_of}
use denote.Triple.Table.{entered}
use denote.Triple.Walked.{says, stay_none_ref, Stays, Walks, ends_at, walked, Goes-none_ref, walk_Meets}
use Rattle.pd_guest.specs.declared.first.FirstList.{FirstList}
use Rattle.pd_suspend.specs.declared.answerer.Answerer.{Ghosts}
use Rattle.pd_guest.specs.contracts.first.FirstList as first
use Rattle.pd_guest.specs.contracts.first.FirstList.of.Key.{name as key}
use Rattle.pd_guest.specs.contracts.first.FirstList.of as f
use Rattle.pd_guest.proofs.first.FirstList.of.Statement as stated
use Rattle.pd_guest.proofs.first.FirstList.of.Code as code

module _ (A : RattleType) (laws : Laws A) (G : Ghosts A.Denot) (dict : Dict) where
  abbrev stayed : Stays (f.ended A G dict).signature.params (f.ended A G dict).kept
  stayed = (stay_none_ref (0 ∷ []) tt (plain (λ _. f.A-row A)) yes, tt)

  module _ {M : Type 1} {𝓤 : Ura M} (𝓛 : Logic 𝓤) (mem : Memory → SProp 𝓤) (run : Routine → Fun 𝓤) (C : Calls 𝓤 𝓛.H) (Λ : Loops 𝓤 𝓛.H) where
    open 𝓛 use {H}

    walks : Walks 𝓛 (f.ended A G dict) stayed (WpFn 𝓤 H C Λ (inst_fn (bounded (a_type ∷ []) (A, tt {1}) (dcons dict dnil)) code.function)) (f.clauses A G dict 𝓛 mem run)
    walks =
        walked 𝓛 (f.ended A G dict) stayed (f.clauses A G dict 𝓛 mem run) (WpFn 𝓤 H C Λ (inst_fn (bounded (a_type ∷ []) (A, tt {1}) (dcons dict dnil)) code.function)) (λ κs. (shr_vals, tt))
        (λ κs. (shr_Tells (named 0) κs.0 (f.A-row A), tt))
        (λ κs qs bounds a g are. via 𝓤 _ (fst∗ 𝓤 _ ((f.clauses A G dict 𝓛 mem run κs a).requires g)) (
        let x = vptr a.0.ref_ptr.0 a.0.ref_ptr.1 in
        let made : FirstList = record { list = G.list a.0.now } in
        qed 𝓛 (raw (alive 𝓛 (f.signature A) κs qs) ∷ ‵ (owns (types_at (f.signature A).params κs) a (x ∷ [], tt)) ∷ []) ∵
        enter ! C Λ (inst_fn (bounded (a_type ∷ []) (A, tt {1}) (dcons dict dnil)) code.function) (x ∷ []) _ $
        alloc_all ! (λ l. pass_all ! refl ((tt, tt), tt) $ sets ! (agg ! (no_more !)) refl (tt, tt) $
        returns ! (look_at ! 0 refl) $ free_all ! refl $
        suffices ! _ (ends_at 𝓛 (f.ended A G dict) stayed (f.clauses A G dict 𝓛 mem run) ((κs, qs, bounds, a, (x ∷ [], tt)), tt) (vstruct vnil) made (tt, tt) (tt, tt)) $
        says ! refl $ pure_i ! (first.the_row.own_val made (vstruct vnil ∷ [])) ((λ vss. (tt, tt)), tt) ((tt, (refl, tt)), tt) $
        move ! (1 ∷ 2 ∷ 0 ∷ []) $ done !)))

  meets : {M : Type 1} {𝓤 : Ura M} (𝓛 : Logic 𝓤) (mem : Memory → SProp 𝓤) (run : Routine → Fun 𝓤) (𝓣 : Tables 𝓤 𝓛.H)
      → Meets 𝓛 (f.signature A) (WpFn 𝓤 𝓛.H 𝓣.C 𝓣.Λ (inst_fn (bounded (a_type ∷ []) (A, tt {1}) (dcons dict dnil)) code.function)) (f.spec A G dict 𝓛 mem run)
  meets {𝓤 = 𝓤} 𝓛 mem run 𝓣 =
      walk_Meets 𝓛 (f.ended A G dict) stayed (Goes-none_ref 𝓛 2 (0 ∷ []) tt (plain (λ _. f.A-row A)) yes, tt)
      (f.clauses A G dict 𝓛 mem run) (WpFn 𝓤 𝓛.H 𝓣.C 𝓣.Λ (inst_fn (bounded (a_type ∷ []) (A, tt {1}) (dcons dict dnil)) code.function)) (WpFn-mono 𝓤 𝓛.H 𝓛.laws 𝓣 (inst_fn (bounded (a_type ∷ []) (A, tt {1}) (dcons dict dnil)) code.function)) (walks 𝓛 mem run 𝓣.C 𝓣.Λ)

pub of_spec : {M : Type 1} → stated.statement M
unfolding tables_of
of_spec 𝓤 𝓛 𝓜 𝓡 wired A laws G dict met =
    entered 𝓤 𝓛.H (triple_of 𝓛 (f.signature A) (f.spec A G dict 𝓛 𝓜.mem 𝓡.returns))
    (tables 𝓤 𝓛.H 𝓜 𝓡 𝓡.env).C (tables 𝓤 𝓛.H 𝓜 𝓡 𝓡.env).Λ (key (bounded (a_type ∷ []) (A, tt {1}) (dcons dict dnil))) (inst_fn (bounded (a_type ∷ []) (A, tt {1}) (dcons dict dnil)) code.function) (code.unfolded 𝓤 𝓛.H 𝓜 𝓡 wired (A, tt {1}) dict)
    (meets A laws G dict 𝓛 𝓜.mem 𝓡.returns (tables_of 𝓤 𝓛.H 𝓜 (tables 𝓤 𝓛.H 𝓜 𝓡 𝓡.env)))
