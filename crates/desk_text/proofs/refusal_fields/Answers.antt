-- `desk_text::refusal_fields` meets its contract: the word, the number and the place. Assumes nothing.
use Rattle.rules.specs.Listing.{word}
use Rattle.desk_text.specs.Desk.{parted, refusal_text}
use Rattle.desk_text.proofs.refusal_fields.Goals as goal

pub returns-clause-appended : goal.returns-clause-appended
unfolding word parted refusal_text
returns-clause-appended c = rw (← c.number_of-number.ensures) c.put_fields.ensures.appended
