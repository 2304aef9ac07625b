-- `edit_parts::without_node` meets its contract. The loop's invariant: of the node records behind
-- the one that is removed those up to `i` have moved down by one, renumbered, and all others stand.
-- Assumes nothing.
use Rattle.edit_parts.proofs.MovesDown.{Reached}
use Rattle.edit_parts.proofs.without_node.Given as goal

abbrev pub invariant-loop-i : goal.invariant-loop-i
invariant-loop-i l = Reached l.initial.shorter l.shorter l.removed l.i
