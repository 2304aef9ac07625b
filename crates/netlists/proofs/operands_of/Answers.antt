-- `netlists::operands_of` meets its contract: of a node's record the kind tells how many operands there are, and the
-- fields are these, with 0 beyond them. Assumes nothing.
use mathlib.Core.Path.{refl, ap}
use Rattle.rules.specs.declared.Node.{Node}
use Rattle.rules.specs.Slices.{entry}
use Rattle.netlists.proofs.Netlists.{fields_padded}
use Rattle.netlists.proofs.operands_of.Goals as goal

pub returns : goal.returns
unfolding entry
returns c = record {
  count_value = λ cell e. (c.operand_count.ensures.value cell (ap (λ (n : Node). n.kind) e), rw e (fields_padded cell));
  few = (c.operand_count.ensures.few, refl);
}
