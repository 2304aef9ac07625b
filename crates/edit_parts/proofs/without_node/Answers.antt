-- `edit_parts::without_node` meets its contract. The loop's invariant: of the node records behind
-- the one that is removed those up to `i` have moved down by one, renumbered, and all others stand.
-- Assumes nothing.
use Prim.Native.Nat.{◌+◌, ◌<◌}
use mathlib.Core.Path.{refl}
use native.Mathlib.Omega.{arith}
use Rattle.netlists.proofs.Netlists.{value_count}
use Rattle.edit_parts.proofs.MovesDown.{none_moved, next_moved, shortened_formed}
use Rattle.edit_parts.proofs.without_node.Goals as goal

pub loop-i-init : goal.loop-i-init
loop-i-init c =
    let there = c.requires.0 in
    record { variables = refl; classes = refl; moving = λ n formed is. rw is (none_moved n _ formed (omega (arith, value_count n is))) }

pub loop-i-preserved : goal.loop-i-preserved
loop-i-preserved c =
    let reached = c.loop-i.invariant in
    let more : c.loop-i.i + 1 < c.args.block.count = omega arith in
    record {
      variables = reached.variables;
      classes = reached.classes;
      moving = λ n formed is.
          let count = value_count n is in
          next_moved n _ formed (omega arith) _ _ _ c.loop-i.auto.i (omega arith) c.renumbered.ensures (reached.moving n formed is);
    }

pub returns-clause-value : goal.returns-clause-value
returns-clause-value c =
    rw c.blank_node.ensures (shortened_formed _ _ _ _ (omega arith) (omega arith) c.loop-i.invariant)
