-- `telgouin::editing::write` meets its contract: the turn stays, and is at fault where the file could not be written.
-- Assumes nothing.
use mathlib.Core.Bool.{true, false}
use Rattle.telgouin.proofs.editing.write.Goals as goal

pub returns-then-write_block : goal.returns-then-write_block
returns-then-write_block g c = record { is_written = true; stands = λ s work stands. stands }

pub returns : goal.returns
returns g c = record { is_written = false; stands = c.at_fault.ensures }
