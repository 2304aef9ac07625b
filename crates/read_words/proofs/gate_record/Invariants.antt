-- `read_words::gate_record` meets its contract. The loop's invariant: the first j operands are stored behind the kind,
-- and whether one is none is to be seen of the rest. Assumes nothing.
use Rattle.std.proofs.Common.{◌≡◌, ◌∷◌, map, take, drop}
use Rattle.rules.specs.Records.{most_record}
use Rattle.rules.specs.Checks.{not_below}
use Rattle.netlists.specs.Netlists.{padded}
use Rattle.scanner.specs.Words.{words}
use Rattle.read_words.specs.Words.{operand_in}
use Rattle.read_words.proofs.gate_record.Given as goal

abbrev pub invariant-loop-j : goal.invariant-loop-j
invariant-loop-j l =
    (l.bytes ≡ padded most_record 0 (l.byte ∷ map operand_in (take l.j (words l.numbers))))
    × (not_below 256 (map operand_in (words l.numbers)) ≡ not_below 256 (map operand_in (drop l.j (words l.numbers))))
