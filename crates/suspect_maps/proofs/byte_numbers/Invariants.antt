-- `suspect_maps::byte_numbers` meets its contract. The loop's invariant: each entry passed is its own number.
-- Assumes nothing.
use Prim.Native.Nat.{ℕ, ◌<◌}
use mathlib.Core.Path.{◌≡◌}
use lib.ListN.{get_or}
use Rattle.suspect_maps.proofs.byte_numbers.Given as goal

abbrev pub invariant-loop-j : goal.invariant-loop-j
invariant-loop-j l = (i : ℕ) → i < l.j → get_or l.number-items i 0 ≡ i
