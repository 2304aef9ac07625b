-- `write_bytes::put_nodes` meets its contract. The loop's invariant: the records of the first i nodes are stored behind
-- the variables'. Assumes nothing.
use Prim.Native.Nat.{◌+◌, ◌*◌, ◌≤◌}
use mathlib.Core.Path.{◌≡◌}
use lib.ListN.{length, take}
use Rattle.rules.specs.Records.{Netlist, nodes_out, most_record}
use Rattle.netlists.specs.Netlists.{flat_of}
use Rattle.listing_lines.specs.Text.{Appended}
use Rattle.write_bytes.proofs.put_nodes.Given as goal

abbrev pub invariant-loop-node : goal.invariant-loop-node
invariant-loop-node l =
    (l.next ≤ l.at + most_record * l.node-index) × (length l.out ≡ length l.initial.out)
    × ((n : Netlist) → l.fn.netlist ≡ flat_of n → Appended l.initial.out l.out l.at l.next (nodes_out (take l.node-index n.nodes)))
