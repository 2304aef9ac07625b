-- From `k` on the numbers are as they were.
use Rattle.telgouin.specs.Files.{SameBehind}
use Rattle.telgouin.proofs.files.take_numbers.Given as goal

abbrev pub invariant-loop-k : goal.invariant-loop-k
invariant-loop-k g l = SameBehind l.k l.initial.into l.into
