-- `edit_lines::asked_in` meets its contract: what the words ask for, unless a comment is stuck to a file's name.
-- Assumes nothing.
use Rattle.edit_lines.specs.Asks.{unless_stuck, asks_in}
use Rattle.edit_lines.proofs.asked_in.Goals as goal

pub returns-then-is_stuck-clause-asks : goal.returns-then-is_stuck-clause-asks
unfolding asks_in
returns-then-is_stuck-clause-asks c = rw (← c.is_stuck.ensures, c.if-is_stuck.true, ← c.by_words-asked.ensures.asks) (c.unless_named-ask.ensures.asks _ _)

pub returns-else-is_stuck-clause-asks : goal.returns-else-is_stuck-clause-asks
unfolding asks_in unless_stuck
returns-else-is_stuck-clause-asks c = rw (← c.is_stuck.ensures, c.if-is_stuck.false) c.by_words-asked.ensures.asks
