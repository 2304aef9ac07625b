-- `write_words::put_nodes` meets its contract. The loop's invariant: the lines of the first i nodes are behind the
-- variables'. Assumes nothing.
use Prim.Native.Nat.{◌+◌, ◌*◌, ◌≤◌}
use mathlib.Core.Path.{◌≡◌}
use mathlib.Core.List.{map}
use lib.ListN.{length, take}
use Rattle.rules.specs.Records.{Netlist, node}
use Rattle.netlists.specs.Netlists.{flat_of}
use Rattle.listing_lines.specs.Text.{Appended}
use Rattle.write_words.specs.Worded.{record_lines, most_node_line}
use Rattle.write_words.proofs.put_nodes.Given as goal

abbrev pub invariant-loop-node : goal.invariant-loop-node
invariant-loop-node l =
    (l.next ≤ l.at + most_node_line * l.node-index) × (length l.text ≡ length l.initial.text)
    × ((n : Netlist) → l.fn.netlist ≡ flat_of n → Appended l.initial.text l.text l.at l.next (record_lines (map node (take l.node-index n.nodes))))
