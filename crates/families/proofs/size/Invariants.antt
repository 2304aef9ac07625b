-- `families::size` meets its contract. The loop's invariant: `sets` counts those of the sets of the bytes passed that
-- the part holds. Assumes nothing.
use Prim.Native.Nat.{◌*◌}
use mathlib.Core.Path.{◌≡◌}
use lib.ListN.{length}
use Rattle.families.specs.Parts.{sets_under}
use Rattle.families.proofs.size.Given as goal

abbrev pub invariant-loop-byte : goal.invariant-loop-byte
invariant-loop-byte l = l.sets ≡ length (sets_under l.work l.part (8 * l.byte-index))
