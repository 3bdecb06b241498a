-- What a search by event finds, and what it doesn't.
use Rattle.std.proofs.Common.{rules, ◌≡◌, ap, subst, ◌∙◌}
use Rattle.std.proofs.lemmas.List.{get_or_default}
use Rattle.std.proofs.lemmas.List.Sorted.{answers_always}
use Rattle.pd_log.specs.Pairing.{no_entry, entry_at}
use Rattle.pd_machine.specs.declared.event.EventKind.TheVariants.{Enter}
use Rattle.pd_log.proofs.Places.{found, only_place, absent}
use Rattle.pd_log.proofs.enter_of.Goals as goal

pub returns-in-Enter : goal.returns-in-Enter
returns-in-Enter c =
    let by_event = c.in-Ok.ensures.position (λ e. e.event) (answers_always _ _ _ (λ f a r g called. search rules)) in
    record { in_log = c.in-Ok.ensures.bound; begins = ap (λ e. e.kind) (get_or_default _ _ no_entry _ c.in-Ok.ensures.bound) ∙ c.in-Enter.is; same = found _ c.requires.of_one_context _ _ by_event }

pub returns-in_default : goal.returns-in_default
returns-in_default c j enter =
    let by_event = c.in-Ok.ensures.position (λ e. e.event) (answers_always _ _ _ (λ f a r g called. search rules)) in
    let here = only_place _ c.requires.of_one_context _ _ j c.in-Ok.ensures.bound (found _ c.requires.of_one_context _ _ by_event) enter in
    c.in_default.not-Enter (ap (λ e. e.kind) (get_or_default _ _ _ no_entry c.in-Ok.ensures.bound) ∙ subst (λ k. (entry_at c.args.log.now k).kind ≡ Enter) here enter.begins)

pub returns-in-Err : goal.returns-in-Err
returns-in-Err c j enter =
    let by_event = c.in-Err.ensures.position (λ e. e.event) (answers_always _ _ _ (λ f a r g called. search rules)) in
    absent _ c.requires.of_one_context _ _ c.in-Err.ensures.bound by_event j enter
