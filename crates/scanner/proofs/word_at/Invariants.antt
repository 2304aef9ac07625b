-- `scanner::word_at` meets its contract. The loop's invariant: the words from here on are those behind the ones that
-- were passed. Assumes nothing.
use Rattle.std.proofs.Common.{◌≡◌, ◌≤◌, length, drop}
use Rattle.scanner.specs.Words.{words}
use Rattle.scanner.proofs.word_at.Given as goal

abbrev pub invariant-loop : goal.invariant-loop
invariant-loop l = (l.at ≤ length l.line) × (drop l.counter (words l.line) ≡ words (drop l.at l.line))
