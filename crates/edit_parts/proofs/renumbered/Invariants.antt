-- `edit_parts::renumbered` meets its contract. The loop's invariant: the operands before the index follow, and the
-- others stand. Assumes nothing.
use mathlib.Core.List.{map}
use Rattle.netlists.proofs.Without.{Becoming}
use Rattle.edit_rules.specs.Edits.{lowered}
use Rattle.edit_parts.proofs.renumbered.Given as goal

abbrev pub invariant-loop-operand : goal.invariant-loop-operand
invariant-loop-operand l =
    Becoming 0 l.initial.operand-items (map (lowered l.removed) l.initial.operand-items) l.operand-items l.operand-index
