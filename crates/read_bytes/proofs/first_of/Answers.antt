-- `read_bytes::first_of` meets its contract. Assumes nothing.
use Rattle.std.proofs.Common.{◌≡◌, arith, get_or}
use mathlib.Core.Path.{refl, sym, ◌∙◌}
use mathlib.Core.Bool.{Bool, true, false}
use borrow.Author.Tests.{ltb-true, ltb-false}
use lib.Dec.{ltb}
use Rattle.rules.specs.Records.{listed, first_of}
use Rattle.rule_laws.proofs.Operands.{first_at, first_beyond}
use Rattle.read_bytes.proofs.first_of.Goals as goal
use Rattle.read_bytes.proofs.first_of.Goals.{After-loop-j}

pub returns : goal.returns
returns c i h = go (ltb i c.args.count) refl
  where
    go : (b : Bool) → ltb i c.args.count ≡ b → get_or c.loop-j.first i 0 ≡ get_or (listed c.args.count (first_of c.args.count c.args.body)) i 0
    go true e = let low = ltb-true i c.args.count e in c.loop-j.invariant.kept i low ∙ sym (first_at c.args.count c.args.body i low)
    go false e = let high = ltb-false i c.args.count e in c.loop-j.invariant.beyond i high (omega arith) ∙ sym (first_beyond c.args.count c.args.body i high)
