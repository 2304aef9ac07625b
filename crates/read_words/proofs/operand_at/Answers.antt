-- `read_words::operand_at` meets its contract: the word there, if it is a number of a byte. Assumes nothing.
use Rattle.read_words.proofs.Records.{operand_missing, no_number_in, number_in_byte}
use Rattle.read_words.proofs.operand_at.Goals as goal

pub returns-in_err-word : goal.returns-in_err-word
returns-in_err-word c = rw c.from_residual.ensures (operand_missing _ c.args.k c.in_err-word.ensures)

pub returns-in_err-number : goal.returns-in_err-number
returns-in_err-number c =
    let word = c.in_ok-word.ensures.word in
    rw (c.from_residual-in_err-number.ensures, ← word) (no_number_in _ c.in_err-number.ensures)

pub returns : goal.returns
returns c =
    let word = c.in_ok-word.ensures.word in
    rw (← word) (number_in_byte _ c.in_ok-number.number _ _ c.in_ok-number.ensures c.try_from.ensures c.ok.ensures.value)
