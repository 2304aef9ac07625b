-- `write_words::form_of` meets its contract: the word of the form is the name of the class. Assumes nothing.
use Rattle.std.proofs.Common.{◌≡◌, refl, ◌∙◌, arith}
use Rattle.rules.specs.Records.{Class, secret, mask, public, class_byte}
use Rattle.read_words.specs.Meaning.{name_of, form_by}
use Rattle.read_words.specs.declared.RecordForm.{RecordForm as Form}
use Rattle.read_words.specs.declared.RecordForm.TheVariants as RecordForm
use Rattle.write_words.specs.Worded.{class_name}
use Rattle.write_words.proofs.form_of.Goals as goal

abbrev form : Class → Form
form secret = RecordForm.Secret
form mask = RecordForm.Mask
form public = RecordForm.Public

-- the classes are told by their bytes, and each has its form's word
class_word : (named class : Class) → class_byte named ≡ class_byte class → name_of (form_by (form named)) ≡ class_name class
unfolding class_byte class_name name_of form_by
class_word secret secret e = refl
class_word mask mask e = refl
class_word public public e = refl
class_word secret mask e = absurd (omega arith)
class_word secret public e = absurd (omega arith)
class_word mask secret e = absurd (omega arith)
class_word mask public e = absurd (omega arith)
class_word public secret e = absurd (omega arith)
class_word public mask e = absurd (omega arith)

pub returns-in-Secret : goal.returns-in-Secret
returns-in-Secret c class e = class_word secret class (rw c.in-Secret.is at c.in-Ok.ensures ∙ e)

pub returns-in-Mask : goal.returns-in-Mask
returns-in-Mask c class e = class_word mask class (rw c.in-Mask.is at c.in-Ok.ensures ∙ e)

pub returns-in-Public : goal.returns-in-Public
returns-in-Public c class e = class_word public class (rw c.in-Public.is at c.in-Ok.ensures ∙ e)

-- a byte that is above a class's
pub returns-in_default : goal.returns-in_default
unfolding class_byte
returns-in_default c secret e = absurd (omega (arith, c.in_default.ensures.1))
returns-in_default c mask e = absurd (omega (arith, c.in_default.ensures.1))
returns-in_default c public e = absurd (omega (arith, c.in_default.ensures.1))
