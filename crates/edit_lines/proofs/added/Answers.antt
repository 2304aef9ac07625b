-- `edit_lines::added` meets its contract: the record of the words behind `add`. Assumes nothing.
use Rattle.scanner.proofs.Scans.{to_the_end}
use Rattle.edit_lines.proofs.Asks.{adds_nothing, adds_wrong, adds_record}
use Rattle.edit_lines.proofs.added.Goals as goal

pub returns-in-Ok-None-clause-asks : goal.returns-in-Ok-None-clause-asks
returns-in-Ok-None-clause-asks c = adds_nothing _ (rw (c.in-Ok-None.field-0-is, to_the_end) at c.in-Ok-None.ensures).0

pub returns-in-Err-clause-asks : goal.returns-in-Err-clause-asks
returns-in-Err-clause-asks c = adds_wrong _ _ (rw to_the_end at c.in-Err.ensures).0

pub returns-in-Ok-Some-clause-asks : goal.returns-in-Ok-Some-clause-asks
returns-in-Ok-Some-clause-asks c = adds_record _ _ _ (rw (c.in-Ok-Some.field-0-is, to_the_end) at c.in-Ok-Some.ensures)
