-- `families::unite` meets its contract. The loop's invariant: the part's first j bytes are those of the union,
-- and all else is as it was (`Filled`), so that each byte read is one at entry. Assumes nothing.
use Prim.Native.Nat.{ℕ, ◌+◌, ◌*◌, ◌<◌}
use mathlib.Core.Logic.{inl, inr}
use native.Mathlib.Omega.{arith}
use borrow.Author.Rules.{rules}
use lib.ListN.{get_or}
use Rattle.families.proofs.Filling.{fill_start, fill_more, fill_end, unwritten, joined}
use Rattle.families.proofs.unite.Goals as goal

pub loop-j-init : goal.loop-j-init
loop-j-init c = fill_start

pub loop-j-preserved : goal.loop-j-preserved
loop-j-preserved c =
    let args = c.args in
    let j = c.loop-j.j in
    let low : (i : ℕ) → get_or c.loop-j.work i 0 < 256 = λ i. search rules in
    fill_more c.requires.0 c.loop-j-test.true c.loop-j.invariant
    (joined
    (unwritten args.into j c.loop-j.invariant (inr (omega arith)) (omega arith) (low (128 * args.into + j)))
    (unwritten args.from j c.loop-j.invariant (inl (omega arith)) (omega arith) (low (128 * args.from + j))))

pub returns : goal.returns
returns c = fill_end c.requires.0 (omega arith) c.loop-j.invariant
