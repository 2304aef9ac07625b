-- `read_words::input_record` meets its contract. The loop's invariant: what the line says is said by the set so far and
-- the words from here on. The measure is what is left of the line. Assumes nothing.
use Rattle.std.proofs.Common.{◌≡◌, ◌-◌, ◌^◌, ◌≤◌, ◌<◌, length, drop}
use Rattle.scanner.specs.Words.{words}
use Rattle.read_words.specs.Words.{with_variables}
use Rattle.read_words.proofs.input_record.Given as goal

abbrev pub invariant-loop-word : goal.invariant-loop-word
invariant-loop-word l = (l.at ≤ length l.numbers) × (l.set < 2 ^ 16) × (with_variables 0 (words l.numbers) ≡ with_variables l.set (words (drop l.at l.numbers)))

abbrev pub decreases-loop-word : goal.decreases-loop-word
decreases-loop-word l = length l.numbers - l.at
