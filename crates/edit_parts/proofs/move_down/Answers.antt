-- `edit_parts::move_down` meets its contract: what is copied is as long as what is left behind the node. Assumes nothing.
use Prim.Native.Nat.{◌+◌, ◌*◌, ◌-◌}
use mathlib.Core.Path.{◌≡◌}
use native.Mathlib.Omega.{arith}
use Rattle.edit_parts.specs.Parts.{moved_down}
use Rattle.edit_parts.proofs.move_down.Goals as goal

pub returns : goal.returns
unfolding moved_down
returns c =
    let size : 256 * c.args.count - 256 * (c.args.removed + 1) ≡ 256 * (c.args.count - 1 - c.args.removed) = omega arith in
    rw (← size) c.copy_within.ensures.after
