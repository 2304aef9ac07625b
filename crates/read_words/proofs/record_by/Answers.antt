-- `read_words::record_by` meets its contract: each arm reads as the form that it is for. Assumes nothing.
use Rattle.std.proofs.Common.{refl}
use Rattle.rules.specs.Records.{NOT, XOR, AND, OR, register, end, record_bytes, class_byte}
use Rattle.netlists.specs.Netlists.{padded}
use Rattle.read_words.specs.Meaning.{reads_of, form_by}
use Rattle.read_words.proofs.Records.{is_record}
use Rattle.read_words.proofs.record_by.Goals as goal

pub returns-in-End : goal.returns-in-End
unfolding reads_of form_by record_bytes class_byte padded
returns-in-End c = rw c.in-End.is (c.alone_record.ensures end (rw c.byte.ensures (is_record end _ _ refl refl)))

pub returns-in-Secret : goal.returns-in-Secret
unfolding reads_of form_by
returns-in-Secret c = rw c.in-Secret.is c.variable_record.ensures

pub returns-in-Mask : goal.returns-in-Mask
unfolding reads_of form_by
returns-in-Mask c = rw c.in-Mask.is c.variable_record-in-Mask.ensures

pub returns-in-Public : goal.returns-in-Public
unfolding reads_of form_by
returns-in-Public c = rw c.in-Public.is c.variable_record-in-Public.ensures

pub returns-in-Input : goal.returns-in-Input
unfolding reads_of form_by
returns-in-Input c = rw c.in-Input.is c.input_record.ensures

pub returns-in-Not : goal.returns-in-Not
unfolding reads_of form_by
returns-in-Not c = rw c.in-Not.is (c.gate_record.ensures NOT refl)

pub returns-in-Xor : goal.returns-in-Xor
unfolding reads_of form_by
returns-in-Xor c = rw c.in-Xor.is (c.gate_record-in-Xor.ensures XOR refl)

pub returns-in-And : goal.returns-in-And
unfolding reads_of form_by
returns-in-And c = rw c.in-And.is (c.gate_record-in-And.ensures AND refl)

pub returns-in-Or : goal.returns-in-Or
unfolding reads_of form_by
returns-in-Or c = rw c.in-Or.is (c.gate_record-in-Or.ensures OR refl)

pub returns-in-Register : goal.returns-in-Register
unfolding reads_of form_by
returns-in-Register c = rw c.in-Register.is (c.gate_record-in-Register.ensures register refl)
