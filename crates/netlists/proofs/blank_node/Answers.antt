-- `netlists::blank_node` meets its contract: where there are no operands, both fields are 0. Assumes nothing.
use mathlib.Core.Path.{◌∙◌}
use Rattle.netlists.proofs.blank_node.Goals as goal

pub returns : goal.returns
returns c = c.node_of.ensures ∙ rw c.before.no_operands.ensures.1
