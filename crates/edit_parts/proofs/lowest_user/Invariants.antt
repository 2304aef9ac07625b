-- `edit_parts::lowest_user` meets its contract. The invariant: of the netlist's nodes none of the first j uses node i
-- (`Used`), at first since their operands are lower. Assumes nothing.
use mathlib.Core.Path.{◌≡◌}
use Rattle.rules.specs.Records.{Netlist, WellFormed}
use Rattle.netlists.specs.Netlists.{flat_of}
use Rattle.edit_rules.proofs.Used.{Passed}
use Rattle.edit_parts.proofs.lowest_user.Given as goal

abbrev pub invariant-loop-j : goal.invariant-loop-j
invariant-loop-j l = (n : Netlist) → WellFormed n → l.block ≡ flat_of n → Passed l.i n.nodes l.j
