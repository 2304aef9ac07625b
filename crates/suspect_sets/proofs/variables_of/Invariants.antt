-- `suspect_sets::variables_of` meets its contract. The loop's invariant: the set is that of the variables passed,
-- and below 2 to the power of their number. Assumes nothing.
use Prim.Native.Nat.{◌^◌, ◌<◌}
use mathlib.Core.Path.{◌≡◌}
use lib.ListN.{take}
use Rattle.rules.specs.Records as Records
use Rattle.rules.specs.Records.{Class, class_byte}
use Rattle.netlists.specs.Netlists.{flat_of}
use Rattle.suspect_sets.specs.Sets.{variables_of}
use Rattle.suspect_sets.proofs.variables_of.Given as goal

abbrev pub invariant-loop-v : goal.invariant-loop-v
invariant-loop-v l =
    (l.set < 2 ^ l.v)
    × ((n : Records.Netlist) (d : Class) → l.netlist ≡ flat_of n → l.class ≡ class_byte d → l.set ≡ variables_of d (take l.v n.variables))
