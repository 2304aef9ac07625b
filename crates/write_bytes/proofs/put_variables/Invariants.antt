-- `write_bytes::put_variables` meets its contract. The loop's invariant: the records of the first i variables are
-- stored at the front. Assumes nothing.
use Prim.Native.Nat.{◌*◌, ◌≤◌}
use mathlib.Core.Path.{◌≡◌}
use lib.ListN.{length, take}
use Rattle.rules.specs.Records.{Netlist, variables_out}
use Rattle.netlists.specs.Netlists.{flat_of}
use Rattle.listing_lines.specs.Text.{Appended}
use Rattle.write_bytes.proofs.put_variables.Given as goal

abbrev pub invariant-loop-class : goal.invariant-loop-class
invariant-loop-class l =
    (l.at ≤ 2 * l.class-index) × (length l.out ≡ length l.initial.out)
    × ((n : Netlist) → l.fn.netlist ≡ flat_of n → Appended l.initial.out l.out 0 l.at (variables_out (take l.class-index n.variables)))
