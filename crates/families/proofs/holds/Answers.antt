-- `families::holds` meets its contract: the bit that it reads is that of the set in its part (`member_at`).
-- Assumes nothing.
use mathlib.Core.Path.{sym}
use Rattle.families.specs.Parts.{holds_at}
use Rattle.families.proofs.Parts.{member_at}
use Rattle.families.proofs.holds.Goals as goal

pub returns : goal.returns
unfolding holds_at
returns c = sym (member_at c.args.work.now c.args.part c.args.set c.requires.1)
