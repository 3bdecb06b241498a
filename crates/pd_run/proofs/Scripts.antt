-- What sessions were answered, by what the tally says of them.
use Rattle.std.proofs.Common.{ℕ, ◌≤◌, List, [], ◌∷◌, map, drop, length, sym, ap, subst, arith}
use Rattle.std.specs.Prelude.{slice_index}
use Rattle.std.specs.List.{AllZip, AllByRecursion}
use Rattle.std.proofs.lemmas.List.Elements.{recursion_from_All, All-weaker}
use native.Mathlib.Nat.{le_trans}
use Rattle.pd_board.specs.declared.answers.BindingTally.{BindingTally}
use Rattle.pd_core.specs.Layout.{Layout}
use Rattle.pd_shared.specs.declared.token.Reads.{Reads as Word}
use Rattle.pd_shared.specs.declared.sights.Sights.{Sights}
use Rattle.pd_shared.specs.Book.{reads_at}
use Rattle.pd_shared.specs.Closed.{FitsTally}
use Rattle.pd_shared.specs.Left.{Leaves}
use Rattle.pd_session.specs.Results.{FitsCount, Readings, AreResults}
use Rattle.pd_run.specs.Run.{readings_in}
use Rattle.pd_run.specs.Hands.{ContextHand, ScriptHand, readings_by, IsScript}
use Rattle.pd_run.specs.Laws.{tokens_of, ScriptsAreTold}

-- a larger bound is a bound
answered_within : (contexts most bound : ℕ) (read : Readings) (h : ScriptHand) → most ≤ bound → AreResults contexts most read h.script h.results → AreResults contexts bound read h.script h.results
answered_within contexts most bound read h le a = record {
  each = a.each;
  counts = All-weaker (FitsCount most) (FitsCount bound) (λ r x. record { reached = λ c n e. let y = x.reached c n e in (y.0, le_trans y.1 le); late = λ c n e. let y = x.late c n e in (y.0, le_trans y.1 le) }) h.results a.counts;
  rising = a.rising;
  over = a.over;
  own_loads = a.own_loads;
  ends_loads = a.ends_loads;
  ended = a.ended;
}

abbrev Told : Layout → List ℕ → ScriptHand → Sights → Type 0
Told p counts h s = AreResults p.contexts (slice_index counts h.session) (readings_in h.session s) h.script h.results

module _ (p : Layout) (tallies : List BindingTally) (counts : List ℕ) where
  one : (h : ScriptHand) (s : Sights) → IsScript p.sessions p.contexts h → Leaves h.token s → FitsTally p tallies counts s.journal.replies s.sessions.items → Told p counts h s
  one h s script leaves fits =
      let same = ap (λ ws. reads_at ws h.session) leaves.sessions in
      let le : (reads_at h.token.sessions.items h.session).last ≤ slice_index counts h.session = omega (arith, ap (λ (w : Word). w.last) same, fits.read h.session script.within) in
      let bound = answered_within p.contexts (reads_at h.token.sessions.items h.session).last (slice_index counts h.session) (readings_by h.session h.token) h le script.answered in
      subst (λ (w : Word). AreResults p.contexts (slice_index counts h.session) (record { loads = (reads_at s.sessions.items h.session).loads; end_loads = w.loads; last_ends = w.last }) h.script h.results) (sym leaves.ends)
      (subst (λ (w : Word). AreResults p.contexts (slice_index counts h.session) (record { loads = w.loads; end_loads = h.token.ends.loads; last_ends = h.token.ends.last }) h.script h.results) (sym same) bound)

  each : (hs : List ScriptHand) (left : List Sights) → AllByRecursion (IsScript p.sessions p.contexts) hs → AllZip Leaves (map (λ h. h.token) hs) left → AllByRecursion (λ s. FitsTally p tallies counts s.journal.replies s.sessions.items) left → AllZip (Told p counts) hs left
  each [] [] a z f = tt
  each (h ∷ hs) (s ∷ ss) a z f = (one h s a.0 z.0 f.0, each hs ss a.1 z.1 f.1)
  each [] (s ∷ ss) a z f = absurd z
  each (h ∷ hs) [] a z f = absurd z

  behind : (cs : List ContextHand) (hs : List ScriptHand) (left : List Sights) → AllByRecursion (IsScript p.sessions p.contexts) hs → AllZip Leaves (tokens_of cs hs) left → AllByRecursion (λ s. FitsTally p tallies counts s.journal.replies s.sessions.items) left → AllZip (Told p counts) hs (drop (length cs) left)
  behind [] hs left a z f = each hs left a z f
  behind (c ∷ cs) hs [] a z f = absurd z
  behind (c ∷ cs) hs (s ∷ ss) a z f = behind cs hs ss a z.1 f.1

pub scripts_are_told : ScriptsAreTold
scripts_are_told p plan start first now contexts scripts tallies counts o =
    behind p tallies counts contexts scripts o.left (recursion_from_All (IsScript p.sessions p.contexts) scripts o.scripts_are) o.gathered.leaves
    (recursion_from_All (λ s. FitsTally p tallies counts s.journal.replies s.sessions.items) o.left (o.closed.others o.left o.gathered.learned))
