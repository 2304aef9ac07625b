-- `checker::read_marks` meets its contract: the lowest marked node of either layer is that half of the answer.
-- Assumes nothing.
use Rattle.checker.proofs.Core.{looks}
use Rattle.checker.proofs.read_marks.Goals as goal

pub returns : goal.returns
returns c = looks _ _ _ _ c.lowest_marked.ensures c.lowest_marked-2.ensures
