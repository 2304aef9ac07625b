-- `explain_cell` and `explain_operands` end: an operand's number is below that of the node whose step needs it, so
-- 2 × node + 1 of a claim falls to 2 × node + 2 of the highest operand that its step needs, and that to the operand's
-- claim. Assumes nothing.
use Rattle.std.proofs.Common.{ℕ, ◌+◌, ◌*◌, max}
use Rattle.derivation_steps.specs.declared.Way.{Way}
use Rattle.derivation_steps.specs.declared.Way.TheVariants.{Own, Operand, Empty, First, Second, Both}
use Rattle.derivations.proofs.+explain_cell_explain_operands.Given as goal

abbrev pub highest : Way → ℕ
highest Own = 0
highest (Operand c) = 2 * c.node + 2
highest Empty = 0
highest (First c) = 2 * c.node + 2
highest (Second c) = 2 * c.node + 2
highest (Both c d) = 2 * max c.node d.node + 2

abbrev pub decreases-explain_cell : goal.decreases-explain_cell
decreases-explain_cell l = 2 * l.claim.node + 1

abbrev pub decreases-explain_operands : goal.decreases-explain_operands
decreases-explain_operands l = highest l.way
