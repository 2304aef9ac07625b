-- `count` is at most the length of the slice, which stays.
use Rattle.std.proofs.Common.{length, ◌-◌, ◌≤◌}
use Rattle.input_bytes.proofs.read_input.Given as goal

abbrev pub invariant-loop-count : goal.invariant-loop-count
invariant-loop-count g l = l.count ≤ length l.into

abbrev pub decreases-loop-count : goal.decreases-loop-count
decreases-loop-count g l = length l.into - l.count
