-- The frames of each event, by the definition.
use Rattle.std.proofs.Common.{ℕ, List, [], ◌∷◌, map, sym, subst}
use Rattle.std.specs.List.{All, AllByRecursion}
use Rattle.std.proofs.lemmas.List.Elements.{All-from_recursion}
use Rattle.pd_tree.specs.Program.{Program}
use Rattle.pd_machine.specs.Events.{Told}
use Rattle.pd_meaning.specs.Meaning.{Verdicts, meaning_of}
use Rattle.pd_order.proofs.Runs.{meaning_ordered}
use Rattle.pd_running.specs.Running.{moments}
use Rattle.pd_running.specs.Nested.{IsNested}
use Rattle.pd_running.specs.Laws.{next_open, stacked_by, running_with}
use Rattle.pd_running.proofs.Stack.{stack_runs, none_stacked}
use Rattle.pd_nesting.specs.Nesting.{AreRooted}
use Rattle.pd_nesting.proofs.Nested.{nested_from}
use Rattle.pd_framing.specs.Framing.{IsFramed, RunsParts}
use Rattle.pd_framing.proofs.Framing.{IsFramedAt, AreFramed, meaning_framed}

each_stacked : (p : Program) (live ts : List Told) → AreFramed p live ts → AllByRecursion (λ (r : List Told × Told). IsFramedAt p r.0 r.1) (stacked_by live ts)
each_stacked p live [] h = tt
each_stacked p live (t ∷ ts) h = (h.0, each_stacked p (next_open live t) ts h.1)

each_moment : (p : Program) (ms : List (List Told × Told)) → AllByRecursion (λ (r : List Told × Told). IsFramedAt p r.0 r.1) (map running_with ms) → AllByRecursion (λ (m : List Told × Told). IsFramed p m.0 m.1) ms
each_moment p [] h = tt
each_moment p (m ∷ ms) h = (record { roots = h.0.roots; blocks = h.0.blocks; depth = h.0.depth }, each_moment p ms h.1)

pub framed_run : (p : Program) (v : Verdicts) (fuel entry : ℕ) → AreRooted p → RunsParts p → All (λ (m : List Told × Told). IsFramed p m.0 m.1) (moments (meaning_of p entry fuel v).events)
framed_run p v fuel entry rooted parts =
    let events = (meaning_of p entry fuel v).events in
    let nested : IsNested [] 0 events = nested_from events 0 [] (meaning_ordered p v fuel entry) in
    All-from_recursion (λ (m : List Told × Told). IsFramed p m.0 m.1) (moments events)
    (each_moment p (moments events)
    (subst (λ rs. AllByRecursion (λ (r : List Told × Told). IsFramedAt p r.0 r.1) rs) (sym (stack_runs events [] [] 0 none_stacked nested))
    (each_stacked p [] events (meaning_framed p v fuel entry rooted parts))))
