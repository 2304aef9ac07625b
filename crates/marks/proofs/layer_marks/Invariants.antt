-- `marks::layer_marks` meets its contract. The loop's invariant: the nodes below `from` are marked, and no other.
-- The measure is what is left of them. Assumes nothing.
use Prim.Native.Nat.{◌-◌, ◌≤◌}
use mathlib.Core.Path.{◌≡◌}
use lib.ListN.{take}
use Rattle.rules.specs.Records as Records
use Rattle.rules.specs.Records.{most_nodes}
use Rattle.netlists.specs.Netlists.{flat_of}
use Rattle.families.specs.Layers.{number_of}
use Rattle.suspects.specs.Suspects.{reports_in}
use Rattle.marks.specs.Marks.{flat_marks}
use Rattle.marks.proofs.layer_marks.Given as goal

abbrev pub invariant-loop-node : goal.invariant-loop-node
invariant-loop-node l =
    (l.from ≤ l.netlist.count) × ((n : Records.Netlist) → l.netlist ≡ flat_of n → l.marks ≡ flat_marks (take l.from (reports_in n (number_of l.layer) l.work)))

abbrev pub decreases-loop-node : goal.decreases-loop-node
decreases-loop-node l = l.netlist.count - l.from
