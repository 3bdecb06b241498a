-- The items that loading finds are ones that there are.
use Rattle.std.proofs.Common.{◌≡◌, ℕ, List, [], length, Ok, arith}
use Rattle.pd_plan.specs.declared.plan.Plan.{Plan}
use Rattle.pd_tree.specs.declared.addition.Addition.{Addition}
use Rattle.pd_tree.specs.Linked.{joined, items_of}
use Rattle.pd_link.specs.Linking.{AllFound, AllBelow}
use Rattle.pd_load.specs.Names.{Symbol}
use Rattle.pd_load.specs.Linked.{interfaces, all_found, exports_from, entries_from}
use Rattle.pd_load.proofs.Items.{AllMain, all_items, behind_grows, InterfacesBelow, interfaces_below, exports_below, entries_below, found_below}

module _ (plan : Plan) (trees : List (List Addition)) (symbols : List Symbol)
    (exported : exports_from (interfaces 1 plan.sources trees) 0 [] plan.exports ≡ Ok symbols) (main : AllMain plan.sources trees) where
  all : InterfacesBelow (length (items_of (joined trees))) (interfaces 1 plan.sources trees)
  all = interfaces_below (length (items_of (joined trees))) 1 plan.sources trees main (omega (arith, all_items (joined trees)))

  pub all_found_below : AllFound (length (items_of (joined trees))) (all_found symbols 1 plan.sources trees)
  all_found_below =
      found_below (length (items_of (joined trees))) symbols 1 plan.sources trees (omega (arith, all_items (joined trees), behind_grows 1 (joined trees)))
      (exports_below (length (items_of (joined trees))) (interfaces 1 plan.sources trees) 0 [] plan.exports symbols all tt exported) (omega (arith, all_items (joined trees)))

  pub all_entries_below : (entries : List ℕ) → entries_from (interfaces 1 plan.sources trees) 0 [] plan.contexts ≡ Ok entries → AllBelow (length (items_of (joined trees))) entries
  all_entries_below entries h = entries_below (length (items_of (joined trees))) (interfaces 1 plan.sources trees) 0 [] plan.contexts entries all tt h
