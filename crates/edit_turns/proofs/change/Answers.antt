-- `edit_turns::change` meets its contract: the block is held after an edit, made or refused, and the reply tells which.
-- Assumes nothing.
use mathlib.Core.Path.{◌≡◌}
use lib.ListN.{length}
use borrow.Author.Rules.{rules}
use Rattle.rules.specs.Checks.{most_work}
use Rattle.edit_turns.proofs.Outcomes.{turned_answers}
use Rattle.edit_turns.proofs.change.Goals as goal

pub returns : goal.returns
returns c =
    let changed = c.edit_held-changed.ensures in
    let long : length c.args.work.now ≡ most_work = search rules in
    λ s stands.
    rw c.turned.ensures
    (turned_answers s _ _ _ _ stands _ (rw long at (changed.reply s.netlist stands.is)) (rw long at (changed.held s.netlist stands.is)))
