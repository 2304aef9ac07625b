-- `test_trial::fill` meets its contract. The invariant: the first k bytes are those that stand there before a check.
-- Assumes nothing.
use mathlib.Core.Path.{◌≡◌}
use lib.ListN.{take}
use Rattle.rules.specs.Lists.{tabulate}
use Rattle.test_trial.specs.Before.{byte_before}
use Rattle.test_trial.proofs.fill.Given as goal

abbrev pub invariant-loop-k : goal.invariant-loop-k
invariant-loop-k l = take l.k l.work ≡ tabulate byte_before l.k
