-- `desk::node_words::node_of` meets its contract. Assumes nothing.
use Rattle.std.proofs.Common.{refl, arith}
use Rattle.desk.proofs.node_words.node_of.Goals as goal

pub returns-then-i-lt-MOST_NODES : goal.returns-then-i-lt-MOST_NODES
returns-then-i-lt-MOST_NODES c = (λ h. refl, λ h. absurd (omega arith))

pub returns-else-i-lt-MOST_NODES : goal.returns-else-i-lt-MOST_NODES
returns-else-i-lt-MOST_NODES c = (λ h. absurd (omega arith), λ h. c.blank_node.ensures)
