-- `read_words::has_numbers` meets its contract: each arm has the fault of its number. Assumes nothing.
use Rattle.std.proofs.Common.{arith, ◌∙◌, ap}
use Rattle.read_words.specs.Words.{wrong}
use Rattle.read_words.proofs.Records.{not_so_many, no_number, one_number, two_numbers}
use Rattle.read_words.proofs.has_numbers.Goals as goal

pub returns-in-0 : goal.returns-in-0
returns-in-0 c said = not_so_many _ _ said (λ e. omega arith) ∙ ap wrong (no_number _ c.in-0.is)

pub returns-in-1 : goal.returns-in-1
returns-in-1 c said = not_so_many _ _ said (λ e. omega arith) ∙ ap wrong (one_number _ c.in-1.is)

pub returns-in_default : goal.returns-in_default
returns-in_default c said = not_so_many _ _ said (λ e. omega arith) ∙ ap wrong (two_numbers _ (omega arith))
