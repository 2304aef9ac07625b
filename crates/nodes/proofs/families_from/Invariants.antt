-- `nodes::families_from` meets its contract. The invariant: the first i nodes are done, of the netlist that is checked.
-- Assumes nothing.
use mathlib.Core.Path.{◌≡◌}
use Rattle.netlists.specs.Netlists.{Formed}
use Rattle.nodes.proofs.Nodes.{nodes_done}
use Rattle.nodes.proofs.families_from.Given as goal

abbrev pub invariant-loop-i : goal.invariant-loop-i
invariant-loop-i l = (f : Formed l.netlist) → l.work ≡ nodes_done f.netlist l.initial.work l.i
