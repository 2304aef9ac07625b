-- `families::ones` meets its contract: at each byte, by a test that antt computes (`eights_count`). Assumes nothing.
use Prim.Native.Nat.{ℕ, ◌/◌, ◌≤◌}
use native.Mathlib.Omega.{arith}
use lib.Bits.{and_le_l, and_le_r}
use Rattle.families.proofs.Bits.{twos, fours, eights_count}
use Rattle.families.proofs.ones.Goals as goal

few : (byte : ℕ) → fours byte ≤ 102
few byte = omega (arith, and_le_r (twos byte) 51, and_le_r (twos byte / 4) 51)

pub overflow_sub-twos : goal.overflow_sub-twos
overflow_sub-twos c = omega (arith, and_le_l (c.args.byte / 2) 85)

pub overflow_add-fours : goal.overflow_add-fours
overflow_add-fours c = omega (arith, few c.args.byte)

pub overflow_add-result : goal.overflow_add-result
overflow_add-result c = omega (arith, few c.args.byte)

pub returns : goal.returns
returns c = eights_count c.args.byte (omega arith)
