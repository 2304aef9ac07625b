-- `marks::without_mark` meets its contract: the marks behind the one that is removed move down by one, and all others
-- stand. Assumes nothing.
use Prim.Native.Nat.{ℕ, suc, ◌+◌, ◌-◌, ◌≤◌}
use mathlib.Core.Path.{◌≡◌}
use native.Mathlib.Omega.{arith}
use Rattle.marks.proofs.Layers.{moved_down}
use Rattle.marks.proofs.without_mark.Goals as goal

pub returns : goal.returns
returns c = λ reports many is.
    let (copied, below, from) = c.copy_within.ensures.by_index in
    let removed = c.args.removed in
    let next : (k : ℕ) → removed ≤ k → (removed + 1) + (k - removed) ≡ suc k = λ k h. omega arith in
    moved_down reports removed (omega arith) c.copy_within.new.self (c.args.count - 1) (omega arith) (omega arith)
    (rw is at c.copy_within.ensures.len) (λ k h. rw is at (below k 0 h)) (λ k h l. rw (is, next k h) at (copied k 0 h (omega arith)))
    (λ k h. rw is at (from k 0 (omega arith)))
