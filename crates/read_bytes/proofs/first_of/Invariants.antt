-- `read_bytes::first_of` meets its contract. The loop's invariant: from `count` on the bytes below j are 0, and the others
-- are those of the body. Assumes nothing.
use Rattle.std.proofs.Common.{◌≡◌, ℕ, ◌≤◌, ◌<◌, get_or}
use Rattle.read_bytes.proofs.first_of.Given as goal

abbrev pub invariant-loop-j : goal.invariant-loop-j
invariant-loop-j l = record {
  kept : (i : ℕ) → i < l.count → get_or l.first i 0 ≡ get_or l.fn.body i 0;
  beyond : (i : ℕ) → l.count ≤ i → i < l.j → get_or l.first i 0 ≡ 0;
}
