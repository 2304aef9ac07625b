-- `scanner::count_words` meets its contract. The loop's invariant: the words of the line are those counted and those
-- from here on. The measure is what is left of the line. Assumes nothing.
use Rattle.std.proofs.Common.{◌≡◌, ◌+◌, ◌-◌, ◌≤◌, length, drop}
use Rattle.scanner.specs.Words.{words}
use Rattle.scanner.proofs.count_words.Given as goal

abbrev pub invariant-loop-word : goal.invariant-loop-word
invariant-loop-word l = (l.count ≤ l.at) × (l.at ≤ length l.line) × (length (words l.line) ≡ l.count + length (words (drop l.at l.line)))

abbrev pub decreases-loop-word : goal.decreases-loop-word
decreases-loop-word l = length l.line - l.at
