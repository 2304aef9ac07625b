-- `telgouin::editing::take_line` meets its contract: a line that was read is obeyed, one that is too long or cannot be
-- read is at fault, and the end of the input leaves the block as it is. Assumes nothing.
use Rattle.edit_turns.specs.Turns.{line, unread, ended, after_event}
use Rattle.telgouin.proofs.editing.take_line.Goals as goal

pub obey_first-requires : goal.obey_first-requires
obey_first-requires g c = rw c.in-Of.is at c.read_line.ensures

pub returns-in-End : goal.returns-in-End
unfolding after_event
returns-in-End g c = record { event = ended; stands = λ s stands. stands }

pub returns-in-Failed : goal.returns-in-Failed
unfolding after_event
returns-in-Failed g c = record { event = unread; stands = λ s stands. c.unreadable.ensures s _ stands }

pub returns-in-Long : goal.returns-in-Long
unfolding after_event
returns-in-Long g c = record { event = unread; stands = λ s stands. c.long_line.ensures s _ stands }

pub returns-in-Of : goal.returns-in-Of
returns-in-Of g c = let obeyed = c.obey_first.ensures in record { event = line _ obeyed.is_written; stands = obeyed.stands }
