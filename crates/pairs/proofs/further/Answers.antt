-- `pairs::further` meets its contract: the pairs of one node more. Assumes nothing.
use mathlib.Core.Path.{refl}
use native.Mathlib.Omega.{arith}
use Rattle.netlists.proofs.Netlists.{few_nodes}
use Rattle.pairs.proofs.Underway.{not_done, goes_further}
use Rattle.pairs.proofs.further.Goals as goal

pub search_node-requires : goal.search_node-requires
search_node-requires c =
    (c.requires.0, omega (arith, not_done c.args.progress c.requires.2, c.requires.1))

pub overflow_add-result : goal.overflow_add-result
overflow_add-result c =
    omega (arith, not_done c.args.progress c.requires.2, c.requires.1, few_nodes c.requires.0.formed)

pub returns : goal.returns
returns c = record {
  by_index = λ bytes entries before u. goes_further bytes entries _ before _ _ _ u c.requires.2 _ c.search_node.ensures;
  next = (refl, (not_done c.args.progress c.requires.2).0, refl);
}
