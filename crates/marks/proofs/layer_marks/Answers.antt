-- `marks::layer_marks` meets its contract. The loop's invariant: the nodes below `from` are marked, and no other.
-- The measure is what is left of them. Assumes nothing.
use mathlib.Core.Path.{sym, ap, ◌∙◌}
use native.Mathlib.Omega.{arith}
use lib.ListN.{length}
use lib.Seq.{take_all}
use Rattle.rules.specs.Records.{most_nodes}
use Rattle.netlists.proofs.Netlists.{padded_none, value_count}
use Rattle.families.specs.Layers.{number_of}
use Rattle.suspects.specs.Suspects.{reports_in}
use Rattle.suspects.proofs.Search.{reports_length}
use Rattle.marks.specs.Marks.{flat_marks}
use Rattle.marks.proofs.Layers.{all_found, next_found}
use Rattle.marks.proofs.layer_marks.Goals as goal

pub loop-node-init : goal.loop-node-init
unfolding flat_marks
loop-node-init c = (omega arith, λ n e. sym (padded_none most_nodes 0))

pub loop-node-preserved : goal.loop-node-preserved
loop-node-preserved c = (
  omega (arith, c.in-Suspect.ensures.within),
  λ n e.
      let many = reports_length n (number_of c.args.layer) c.args.work.now in
      let count = value_count n e in
      let bound = c.requires.nodes in
      rw (c.loop-node.invariant.1 n e)
      (next_found _ _ _ _ (omega arith) (omega (arith, c.in-Suspect.ensures.within)) (sym (c.in-Suspect.ensures.found n e))),
)

pub returns : goal.returns
returns c =
    λ n e.
    let reports = reports_in n (number_of c.args.layer) c.args.work.now in
    let many = reports_length n (number_of c.args.layer) c.args.work.now in
    let count = value_count n e in
    let bound = c.requires.nodes in
    c.loop-node.invariant.1 n e
    ∙ all_found _ _ (omega arith) (omega arith) (sym (c.in_default.ensures.found n e))
    ∙ ap flat_marks (take_all (length reports) reports (omega arith))
