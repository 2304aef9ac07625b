-- `node_values::feeding_marks` meets its contract. The invariant: the marks lead to the points that feed the node,
-- with i nodes to go. Assumes nothing.
use mathlib.Core.Path.{◌≡◌}
use lib.ListN.{length}
use Rattle.rules.specs.Records.{most_nodes}
use Rattle.netlists.specs.Netlists.{Formed}
use Rattle.node_values.proofs.Marks.{Leads}
use Rattle.node_values.proofs.feeding_marks.Given as goal

abbrev pub invariant-loop-i : goal.invariant-loop-i
invariant-loop-i l = (length l.marks ≡ most_nodes) × ((f : Formed l.netlist) → Leads f.netlist l.node l.marks l.i)
