-- `edit_lines::is_stuck` meets its contract. The loop's invariant: whether a comment is stuck to a word is told by
-- what is left of the line, and whether a word stands right before that. Assumes nothing.
use Rattle.std.proofs.Common.{◌≡◌, false, drop}
use Rattle.edit_lines.specs.Asks.{stuck}
use Rattle.edit_lines.proofs.is_stuck.Given as goal

abbrev pub invariant-loop-letter : goal.invariant-loop-letter
invariant-loop-letter l = stuck false l.line ≡ stuck l.begun (drop l.letter-index l.line)
