-- `held_blocks::open_held` meets its contract: what is given is held, of no nodes where the block is refused. Assumes
-- nothing.
use mathlib.Core.Path.{sym, ◌∙◌}
use Rattle.held_blocks.proofs.Held.{none_marked, opened_held}
use Rattle.held_blocks.proofs.open_held.Goals as goal

pub returns-in-Ok-clause-held : goal.returns-in-Ok-clause-held
returns-in-Ok-clause-held c = let examined = rw c.in-Ok.is at c.examine.ensures in opened_held _ _ _ _ _ _ examined.netlist examined.marks examined.work

pub returns-in-Err-clause-held : goal.returns-in-Err-clause-held
returns-in-Err-clause-held c =
    let examined = rw c.in-Err.is at c.examine.ensures in
    opened_held _ _ _ _ _ _ (c.no_records.ensures ∙ examined.netlist) (c.no_marks.ensures ∙ sym none_marked ∙ examined.marks) examined.work
