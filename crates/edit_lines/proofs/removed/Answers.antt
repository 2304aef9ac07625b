-- `edit_lines::removed` meets its contract: the only word behind `remove`, as a number. Assumes nothing.
use Rattle.scanner.specs.Numbers.{number_in}
use Rattle.edit_lines.specs.Asks.{removal}
use Rattle.edit_lines.proofs.removed.Goals as goal

pub returns-in_default-clause-asks : goal.returns-in_default-clause-asks
unfolding removal number_in
returns-in_default-clause-asks c own = rw c.in_default.ensures

pub returns-in-Some-number_of-clause-asks : goal.returns-in-Some-number_of-clause-asks
unfolding removal
returns-in-Some-number_of-clause-asks c own = rw (← c.in-Some.ensures.2, ← c.in-Some-number_of.ensures)

pub returns-in-None-clause-asks : goal.returns-in-None-clause-asks
unfolding removal
returns-in-None-clause-asks c own = rw (← c.in-Some.ensures.2, ← c.in-None.ensures)
