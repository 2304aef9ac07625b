-- `read_words::RecordForm::word` meets its contract: each arm has the word of its form. Assumes nothing.
use Rattle.std.proofs.Common.{[]}
use Rattle.rules.specs.Records.{NOT, XOR, AND, OR, register, first_of, input, gate, kind_of}
use Rattle.rules.specs.Listing.{word, kind_name}
use Rattle.read_words.specs.Meaning.{name_of, form_by}
use Rattle.read_words.proofs.RecordForm.word.Goals as goal

pub returns-in-End-clause-named : goal.returns-in-End-clause-named
unfolding name_of form_by word
returns-in-End-clause-named c = rw c.in-End.is

pub returns-in-Secret-clause-named : goal.returns-in-Secret-clause-named
unfolding name_of form_by word
returns-in-Secret-clause-named c = rw c.in-Secret.is

pub returns-in-Mask-clause-named : goal.returns-in-Mask-clause-named
unfolding name_of form_by word
returns-in-Mask-clause-named c = rw c.in-Mask.is

pub returns-in-Public-clause-named : goal.returns-in-Public-clause-named
unfolding name_of form_by word
returns-in-Public-clause-named c = rw c.in-Public.is

pub returns-in-Input-clause-named : goal.returns-in-Input-clause-named
unfolding name_of form_by kind_of kind_name
returns-in-Input-clause-named c = rw c.in-Input.is (c.name_of.ensures.named (input 0) c.byte.ensures)

pub returns-in-Not-clause-named : goal.returns-in-Not-clause-named
unfolding name_of form_by kind_of kind_name
returns-in-Not-clause-named c = rw c.in-Not.is (c.name_of-in-Not.ensures.named (gate NOT (first_of 1 [])) c.byte-in-Not.ensures)

pub returns-in-Xor-clause-named : goal.returns-in-Xor-clause-named
unfolding name_of form_by kind_of kind_name
returns-in-Xor-clause-named c = rw c.in-Xor.is (c.name_of-in-Xor.ensures.named (gate XOR (first_of 2 [])) c.byte-in-Xor.ensures)

pub returns-in-And-clause-named : goal.returns-in-And-clause-named
unfolding name_of form_by kind_of kind_name
returns-in-And-clause-named c = rw c.in-And.is (c.name_of-in-And.ensures.named (gate AND (first_of 2 [])) c.byte-in-And.ensures)

pub returns-in-Or-clause-named : goal.returns-in-Or-clause-named
unfolding name_of form_by kind_of kind_name
returns-in-Or-clause-named c = rw c.in-Or.is (c.name_of-in-Or.ensures.named (gate OR (first_of 2 [])) c.byte-in-Or.ensures)

pub returns-in-Register-clause-named : goal.returns-in-Register-clause-named
unfolding name_of form_by kind_of kind_name
returns-in-Register-clause-named c = rw c.in-Register.is (c.name_of-in-Register.ensures.named (gate register (first_of 1 [])) c.byte-in-Register.ensures)
