-- `desk_text::steps_fields` meets its contract: the word and the count. Assumes nothing.
use Rattle.rules.specs.Listing.{word}
use Rattle.desk_text.specs.Desk.{parted, steps_text}
use Rattle.desk_text.proofs.steps_fields.Goals as goal

pub returns-clause-appended : goal.returns-clause-appended
unfolding word parted steps_text
returns-clause-appended c = c.put_fields.ensures.appended
