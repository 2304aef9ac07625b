-- `read_words::alone_record` meets its contract: no number stands behind the record's word. Assumes nothing.
use Rattle.std.proofs.Common.{sym, Ok}
use Rattle.std.proofs.lemmas.Result.{err_from_is_err_and}
use Rattle.read_words.specs.Words.{says, alone}
use Rattle.read_words.proofs.Records.{so_many, tells}
use Rattle.read_words.proofs.alone_record.Goals as goal

pub returns-in_err-has_numbers : goal.returns-in_err-has_numbers
unfolding alone
returns-in_err-has_numbers c own is =
    let p = err_from_is_err_and c.from_residual.result c.from_residual.ensures.1 in
    rw (p.1, p.2) (c.in_err-has_numbers.ensures (says own))

pub returns : goal.returns
unfolding alone
returns c own is = tells (Ok c.args.given) (says own) _ (sym (so_many 0 _ _ c.in_ok-has_numbers.ensures)) is
