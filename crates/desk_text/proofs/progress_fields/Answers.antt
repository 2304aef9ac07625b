-- `desk_text::progress_fields` meets its contract: words and a number, three times. Assumes nothing.
use Rattle.rules.specs.Listing.{word}
use Rattle.listing_lines.proofs.Text.{appended_more}
use Rattle.desk_text.specs.Desk.{parted, progress_text}
use Rattle.desk_text.proofs.progress_fields.Goals as goal

pub returns-clause-appended : goal.returns-clause-appended
unfolding word parted progress_text
returns-clause-appended c = (appended_more (appended_more c.put_fields-looked.ensures.appended c.put_fields-passed.ensures.appended) c.put_fields.ensures.appended)
