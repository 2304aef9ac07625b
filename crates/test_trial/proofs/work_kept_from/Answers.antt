-- `test_trial::work_kept_from` meets its contract: the test is of the byte that stands there. Assumes nothing.
use Rattle.std.proofs.Common.{rules}
use Rattle.test_trial.proofs.work_kept_from.Goals as goal

pub returns : goal.returns
returns c = c.kept_from.ensures _ (λ k b h is. search rules)
