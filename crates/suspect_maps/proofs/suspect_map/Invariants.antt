-- `suspect_maps::suspect_map` meets its contract. The loop's invariant: of the bytes passed, each bit says
-- whether its set meets the mask of the secrets, and not that of the masks; each other one is its own number.
-- Assumes nothing.
use Prim.Native.Nat.{ℕ, ◌+◌, ◌*◌, ◌/◌, ◌^◌, ◌<◌, ◌≤◌}
use mathlib.Core.Path.{◌≡◌}
use lib.ListN.{length, get_or}
use Rattle.rules.specs.Records.{odd}
use Rattle.suspect_maps.specs.Maps.{suspect_by}
use Rattle.suspect_maps.proofs.suspect_map.Given as goal

abbrev pub invariant-loop-byte : goal.invariant-loop-byte
invariant-loop-byte l = record {
  long : length l.byte-items ≡ 128;
  passed : (i k : ℕ) → i < l.byte-index → k < 8 → odd (get_or l.byte-items i 0 / 2 ^ k) ≡ suspect_by l.secrets l.masks (8 * i + k);
  numbers : (i : ℕ) → l.byte-index ≤ i → i < 128 → get_or l.byte-items i 0 ≡ i;
}
