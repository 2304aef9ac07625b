-- `desk_text::search_fields` meets its contract: what was found, and behind it the count. Assumes nothing.
use Rattle.listing_lines.proofs.Text.{appended_more, appended_as}
use Rattle.desk_text.specs.Desk.{pairs_text}
use Rattle.desk_text.proofs.Desk.{parted_more}
use Rattle.desk_text.proofs.search_fields.Goals as goal

pub returns-clause-appended : goal.returns-clause-appended
unfolding pairs_text
returns-clause-appended c = appended_as (parted_more _ _ _) (appended_more c.put_found-end.ensures.appended c.put_numbers.ensures.appended)
