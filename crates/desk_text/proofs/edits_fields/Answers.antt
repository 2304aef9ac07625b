-- `desk_text::edits_fields` meets its contract: how the edits ended, and behind it the count. Assumes nothing.
use Rattle.listing_lines.proofs.Text.{appended_more, appended_as}
use Rattle.desk_text.specs.Desk.{edits_text}
use Rattle.desk_text.proofs.Desk.{parted_more}
use Rattle.desk_text.proofs.edits_fields.Goals as goal

pub returns-clause-appended : goal.returns-clause-appended
unfolding edits_text
returns-clause-appended c = appended_as (parted_more _ _ _) (appended_more c.put_ended-end.ensures.appended c.put_numbers.ensures.appended)
