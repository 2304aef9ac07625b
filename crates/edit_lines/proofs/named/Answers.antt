-- `edit_lines::named` meets its contract: the only word behind `write`. Assumes nothing.
use Rattle.edit_lines.specs.Asks.{written}
use Rattle.edit_lines.proofs.Asks.{writes_part}
use Rattle.edit_lines.proofs.named.Goals as goal

pub returns-in-Some-clause-asks : goal.returns-in-Some-clause-asks
returns-in-Some-clause-asks c own = let one = c.in-Some.ensures in rw (← one.2) (writes_part _ _ _ one.0 one.1)

pub returns-in-None-clause-asks : goal.returns-in-None-clause-asks
unfolding written
returns-in-None-clause-asks c own = rw c.in-None.ensures
