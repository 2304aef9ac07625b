-- `edit_lines::unless_more` meets its contract: whether there is a word behind the first. Assumes nothing.
use Rattle.edit_lines.specs.Asks.{alone}
use Rattle.edit_lines.proofs.unless_more.Goals as goal

pub returns-in-Some-clause-asks : goal.returns-in-Some-clause-asks
unfolding alone
returns-in-Some-clause-asks c own = rw c.in-Some.ensures.next

pub returns-in-None-clause-asks : goal.returns-in-None-clause-asks
unfolding alone
returns-in-None-clause-asks c own = rw c.in-None.ensures
