-- `edit_lines::only_word` meets its contract: the next word, if none is behind it. Assumes nothing.
use Rattle.edit_lines.specs.Asks.{only}
use Rattle.edit_lines.proofs.only_word.Goals as goal

pub returns-in_err-word : goal.returns-in_err-word
unfolding only
returns-in_err-word c = rw (c.from_residual.ensures, c.in_err-word.ensures)

pub returns-in-Some : goal.returns-in-Some
unfolding only
returns-in-Some c = rw (c.in_ok-word.ensures.next, c.in-Some.ensures.next)

pub returns-in-None : goal.returns-in-None
unfolding only
returns-in-None c = let one = c.in_ok-word.ensures in (one.ordered, one.within, rw (one.next, c.in-None.ensures))
