-- After i turns the slice holds the first i records at its front.
use Rattle.std.proofs.Common.{◌≡◌}
use Rattle.checker.specs.Work.{record_in, stored}
use Rattle.checker.proofs.store.Given as goal

abbrev pub invariant-loop-i : goal.invariant-loop-i
invariant-loop-i l = l.nodes ≡ stored (record_in l.examined) l.initial.nodes l.i
