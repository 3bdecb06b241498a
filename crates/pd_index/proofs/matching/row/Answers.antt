-- Among all nodes that the binding is about, the candidates leave out none.
use Rattle.std.proofs.Common.{◌≡◌, ℕ, List, length, IfOk, subst}
use Rattle.std.specs.Prelude.{IfSome}
use Rattle.std.specs.declared.vec.Vec.{Vec}
use Rattle.std.specs.declared.alloc.Global.{Global}
use Rattle.std.specs.List.{filter}
use Rattle.pd_index.specs.Among.{IsAmong}
use Rattle.pd_filter.specs.Matching.{is_about}
use Rattle.pd_index.proofs.AmongLaws.{among}
use Rattle.pd_index.proofs.matching.row.Goals as goal

pub returns-in-Some : goal.returns-in-Some
returns-in-Some c =
    let p = c.args.program.now in
    let test = is_about p c.args.binding.now in
    let is : IsAmong (length p.nodes) test c.in-Some.numbers.items = subst (λ o. IfSome o (λ (v : Vec ℕ Global). IsAmong (length p.nodes) test v.items)) c.in-Some.is c.in_ok-numbers.ensures in
    subst (λ (ns : List ℕ). IfOk c.among.result (λ row. row ≡ ns)) (among test (length p.nodes) c.in-Some.numbers.items is)
    (subst (λ (ns : List ℕ). IfOk c.among.result (λ row. row ≡ filter test ns)) c.as_slice.ensures.value c.among.ensures)
