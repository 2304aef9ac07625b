-- `node_values::mark_all` meets its contract. The loop's invariant: with the operands that are left marked too, all are.
-- Assumes nothing.
use Rattle.std.proofs.Common.{◌≡◌, drop}
use Rattle.node_values.specs.Marks.{mark_all}
use Rattle.node_values.proofs.mark_all.Given as goal

abbrev pub invariant-loop-operand : goal.invariant-loop-operand
invariant-loop-operand l =
    mark_all (drop l.operand-index l.operand-items) l.marked ≡ mark_all l.operand-items l.initial.marked
