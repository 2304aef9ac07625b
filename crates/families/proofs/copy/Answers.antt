-- `families::copy` meets its contract: the bytes of the lower part, which are its family's, are those of the part.
-- Assumes nothing.
use Prim.Native.Nat.{ℕ, ◌+◌, ◌*◌, ◌-◌, ◌<◌}
use mathlib.Core.Path.{◌≡◌, ◌∙◌}
use native.Mathlib.Omega.{arith}
use borrow.Author.Rules.{rules}
use lib.ListN.{get_or}
use Rattle.families.specs.Parts.{with_family}
use Rattle.families.proofs.Parts.{own_bytes}
use Rattle.families.proofs.copy.Goals as goal

pub returns : goal.returns
unfolding with_family
returns c =
    let work = c.args.work.now in
    let from = c.args.from in
    let all : 128 * from + 128 - 128 * from ≡ 128 = omega arith in
    let low : (i : ℕ) → get_or work i 0 < 256 = λ i. search rules in
    c.copy_within.ensures.after ∙ rw (own_bytes work from _ (omega arith) all low, all)
