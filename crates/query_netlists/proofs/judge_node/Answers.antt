-- `query_netlists::judge_node` meets its contract: the row of the node is the code's test of the count.
-- Assumes nothing.
use borrow.Author.Tests.{le-leb, lt-leb}
use Rattle.rules.specs.Checks.{judged, node_check}
use Rattle.netlists.proofs.Netlists.{value_count}
use Rattle.query_netlists.proofs.judge_node.Goals as goal

pub returns-then-netlist-node : goal.returns-then-netlist-node
unfolding judged node_check
returns-then-netlist-node c = λ n e. rw (← value_count n e, le-leb _ _ c.if-netlist-node.true, c.at.ensures)

pub returns : goal.returns
unfolding judged node_check
returns c = λ n e. rw (← value_count n e, lt-leb _ _ c.if-netlist-node.false)
