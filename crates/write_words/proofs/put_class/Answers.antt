-- `write_words::put_class` meets its contract: the word of the class's form, and a line feed. Assumes nothing.
use Rattle.std.proofs.Common.{◌≡◌, refl, ◌∙◌, [], ◌∷◌, ◌++◌}
use Rattle.rules.specs.Records.{Class, variable}
use Rattle.rules.specs.Listing.{line}
use Rattle.listing_lines.proofs.Text.{appended_more, appended_as}
use Rattle.write_words.specs.Worded.{class_name, record_words, record_line}
use Rattle.write_words.proofs.put_class.Goals as goal

class_line : (c : Class) → class_name c ++ (10 ∷ []) ≡ record_line (variable c)
unfolding line record_words record_line
class_line c = refl

pub returns-clause-appended : goal.returns-clause-appended
returns-clause-appended c class e =
    appended_as (class_line class)
    (appended_more (appended_as (c.word.ensures.named ∙ c.form_of.ensures class e) c.put_word-end.ensures) c.put_byte.ensures)
