-- `records::body_behind` meets its contract. The loop's invariant: the first bytes are those behind the kind byte.
-- Assumes nothing.
use Rattle.std.proofs.Common.{◌≡◌, ℕ, ◌+◌, ◌<◌, get_or}
use Rattle.records.proofs.body_behind.Given as goal

abbrev pub invariant-loop-j : goal.invariant-loop-j
invariant-loop-j l = (i : ℕ) → i < l.j → get_or l.byte-items i 0 ≡ get_or l.bytes (l.here + (1 + i)) 0
