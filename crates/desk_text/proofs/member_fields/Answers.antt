-- `desk_text::member_fields` meets its contract: for each family its name, and behind that the membership.
-- Assumes nothing.
use mathlib.Core.List.{append-nil}
use Rattle.rules.specs.Listing.{word}
use Rattle.listing_lines.proofs.Text.{appended_more, appended_as}
use Rattle.desk_text.specs.Desk.{behind, parted, member_text}
use Rattle.desk_text.proofs.member_fields.Goals as goal

pub returns-clause-appended : goal.returns-clause-appended
unfolding word behind parted member_text
returns-clause-appended c = appended_as (simp append-nil)
    (appended_more c.put_word-first.ensures
    (appended_more c.put_membership-name.ensures.appended
    (appended_more c.put_word-second.ensures c.put_membership.ensures.appended)))
