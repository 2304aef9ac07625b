-- `node_values::settled_values` meets its contract. The invariant: the values of the first i nodes stand, of the
-- netlist that is asked, and beyond them all is 0. A value beyond the table is 0 as well, so the rule gives of either list the
-- same. Assumes nothing.
use Prim.Native.Nat.{ℕ}
use mathlib.Core.Path.{◌≡◌}
use mathlib.Core.Bool.{Bool, false}
use mathlib.Core.List.{List, []}
use lib.ListN.{length, take}
use Rattle.rules.specs.Tables.{table}
use Rattle.rules.specs.Records.{Netlist, bits, most_nodes}
use Rattle.rules.specs.Values.{Assignment, value_rule}
use Rattle.netlists.specs.Netlists.{padded, Formed}
use Rattle.node_values.proofs.settled_values.Given as goal

-- ---- the values of the first nodes

abbrev pub under : Netlist → ℕ → Assignment
under n x = bits (length n.variables) x

-- of the first i
abbrev pub first : Netlist → Assignment → ℕ → List Bool
first n x i = table (value_rule x) [] (take i n.nodes)

abbrev pub valuesDone : Netlist → ℕ → ℕ → List Bool
valuesDone n x i = padded most_nodes false (first n (under n x) i)

abbrev pub invariant-loop-i : goal.invariant-loop-i
invariant-loop-i l =
    (length l.values ≡ most_nodes) × ((f : Formed l.netlist) → l.values ≡ valuesDone f.netlist l.assignment l.i)
