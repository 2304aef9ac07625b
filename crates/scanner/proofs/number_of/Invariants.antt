-- `scanner::number_of` meets its contract. The loop's invariant: the word is the number that the digits left say
-- behind the value so far, which fits. Assumes nothing.
use Rattle.std.proofs.Common.{◌≡◌, ◌^◌, ◌<◌, drop}
use Rattle.scanner.specs.Numbers.{number_behind, number_in}
use Rattle.scanner.proofs.number_of.Given as goal

abbrev pub invariant-loop-letter : goal.invariant-loop-letter
invariant-loop-letter l = (l.value < 2 ^ 64) × (number_in l.word ≡ number_behind l.value (drop l.letter-index l.word))
