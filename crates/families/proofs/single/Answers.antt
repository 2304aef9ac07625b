-- `families::single` meets its contract: the part is emptied, and then one set is put into it (`with_one`).
-- Assumes nothing.
use mathlib.Core.Path.{◌∙◌}
use mathlib.Core.List.{[]}
use Rattle.rules.specs.Lists.{member, insert}
use Rattle.families.proofs.Parts.{with_one}
use Rattle.families.proofs.single.Goals as goal

pub returns : goal.returns
unfolding member insert
returns c =
    c.insert.ensures ∙ with_one c.args.work.now c.make_empty.new.work c.args.into [] c.requires.0 c.make_empty.ensures c.args.set
