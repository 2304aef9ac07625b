-- `edits::loaded_by` meets its contract. The loop's invariant: each array has the field of so many of the records,
-- and zeros beyond them. Assumes nothing.
use mathlib.Core.Path.{◌≡◌, sym}
use native.Mathlib.Omega.{arith}
use lib.ListN.{length}
use Rattle.edits.specs.Edited.{loaded_from}
use Rattle.edits.proofs.Loaded.{column_none, column_more}
use Rattle.edits.proofs.loaded_by.Goals as goal

pub loop-i-init : goal.loop-i-init
loop-i-init c = (rw c.blank_node-nodes.ensures (sym (column_none _ _ _)), sym (column_none _ _ _), sym (column_none _ _ _))

pub loop-i-preserved : goal.loop-i-preserved
loop-i-preserved c =
    let (in-nodes, in-settled, in-glitch) = c.loop-i.invariant in (
      rw in-nodes (sym (column_more _ _ _ _ (omega arith) (omega arith))),
      rw in-settled (sym (column_more _ _ _ _ (omega arith) (omega arith))),
      rw in-glitch (sym (column_more _ _ _ _ (omega arith) (omega arith))),
    )

pub returns : goal.returns
unfolding loaded_from
returns c =
    let (in-nodes, in-settled, in-glitch) = c.loop-i.invariant in
    let end : c.loop-i.i ≡ length c.args.records.now = omega arith in
    rw (in-nodes, in-settled, in-glitch, end)
