-- `desk::search::searched` meets its contract: the loop of `pairs::examine_pairs`. Its invariant: of all netlist bytes
-- what was under way where it began still is. The measure is how many nodes are left. Assumes nothing.
use Rattle.std.proofs.Common.{ℕ, ◌-◌, List}
use Rattle.rules.specs.Records.{most_nodes}
use Rattle.pairs.specs.Underway.{Underway}
use Rattle.desk.proofs.search.searched.Given as goal

abbrev pub invariant-loop-examined : goal.invariant-loop-examined
invariant-loop-examined l =
    (bytes before : List ℕ) → Underway bytes most_nodes l.limit before l.examined.netlist l.work l.initial.progress → Underway bytes most_nodes l.limit before l.examined.netlist l.work l.progress

abbrev pub decreases-loop-examined : goal.decreases-loop-examined
decreases-loop-examined l = l.progress.nodes - l.progress.next
