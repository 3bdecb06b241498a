-- What is used is a difference from the fuel.
use Rattle.std.proofs.Common.{ℕ, ◌≤◌, arith}
use Rattle.pd_tree.specs.Program.{item_at}
use Rattle.pd_meaning.specs.Meaning.{Outcome, ends, ran, from_root, meaning_of}
use Rattle.pd_meaning.proofs.reader.fuel_law.Goals as goal

used_le : (fuel : ℕ) (o : Outcome) → (ran fuel o).used ≤ fuel
used_le fuel (ends r s) = omega arith

pub returns : goal.returns
unfolding meaning_of
returns c p v entry = used_le c.args.fuel (from_root p v c.args.fuel (item_at p entry).root)
