-- `desk::why::say_steps` is safe and ends. The loop's invariant: after k steps no more wait than k and one.
-- Assumes nothing.
use Rattle.std.proofs.Common.{◌+◌, ◌≤◌}
use Rattle.desk.proofs.why.say_steps.Given as goal

abbrev pub invariant-loop-k : goal.invariant-loop-k
invariant-loop-k l = l.waiting.count ≤ l.k + 1
