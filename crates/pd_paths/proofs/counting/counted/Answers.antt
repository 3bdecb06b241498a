use Rattle.std.proofs.Common.{◌+◌, map, drop, rules, sym, subst}
use Rattle.std.proofs.lemmas.List.Sorted.{answers_always}
use Rattle.pd_running.specs.Running.{mark_in}
use Rattle.pd_paths.specs.Tally.{IsTally}
use Rattle.pd_paths.specs.Counting.{IsStanding}
use Rattle.pd_paths.proofs.Entries.{next_entry, no_entries}
use Rattle.pd_paths.proofs.Sorting.{before, before_order, room_at_end, ended, tally_sorted}
use Rattle.pd_paths.proofs.counting.counted.Goals as goal

pub pass-requires : goal.pass-requires
pass-requires c =
    let all = map mark_in c.args.log.now in
    let k = c.loop-entry.entry-index in
    record {
      events = c.args.events;
      all = all;
      rest = drop (k + 1) all;
      few = c.ranges.events.fits;
      standing = subst (λ ms. IsStanding c.args.events all ms c.loop-entry.counter) (next_entry c.args.log.now k c.entry-item.result c.loop-entry-test.true c.entry-item.is) c.loop-entry.invariant;
    }

pub loop-entry-preserved : goal.loop-entry-preserved
loop-entry-preserved c =
    let all = map mark_in c.args.log.now in
    let k = c.loop-entry.entry-index in
    c.in_ok-pass.ensures c.args.events all (drop (k + 1) all)
    (subst (λ ms. IsStanding c.args.events all ms c.loop-entry.counter) (next_entry c.args.log.now k c.entry-item.result c.loop-entry-test.true c.entry-item.is) c.loop-entry.invariant)

pub count_to-requires : goal.count_to-requires
count_to-requires c =
    let all = map mark_in c.args.log.now in
    let k = c.loop-entry.entry-index in
    room_at_end c.args.events all (drop k all) c.loop-entry.counter c.ranges.events.fits (no_entries c.args.log.now k c.loop-entry-test.false) c.loop-entry.invariant

pub returns : goal.returns
returns c =
    let all = map mark_in c.args.log.now in
    let k = c.loop-entry.entry-index in
    let e = ended c.args.events all (drop k all) c.loop-entry.counter c.count_to.new.self (no_entries c.args.log.now k c.loop-entry-test.false) c.loop-entry.invariant c.count_to.ensures in
    subst (IsTally c.args.events all) (sym c.of.ensures)
    (tally_sorted c.args.events all c.count_to.new.self.paths.items c.remove.new.self.items c.sort_unstable_by.new.self.items e c.remove.ensures.items c.sort_unstable_by.ensures.permutation
    (c.sort_unstable_by.ensures.sorted before before_order (answers_always _ _ _ (λ f a r g h. search rules))))
