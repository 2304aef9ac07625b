-- `netlists::with_node` meets its contract: the store behind the nodes is one node more of the flat netlist.
-- Assumes nothing.
use mathlib.Core.Path.{refl}
use Rattle.netlists.proofs.Netlists.{value_node}
use Rattle.netlists.proofs.with_node.Goals as goal

pub returns : goal.returns
returns c = record {
  value = λ n cell e l. rw l (value_node n e cell c.requires);
  more = (refl, refl);
}
