-- `desk_text::counts_fields` meets its contract: a word and a number, twice. Assumes nothing.
use mathlib.Core.List.{append-nil}
use Rattle.rules.specs.Listing.{word}
use Rattle.listing_lines.proofs.Text.{appended_more, appended_as}
use Rattle.desk_text.specs.Desk.{behind, parted, counts_text}
use Rattle.desk_text.proofs.counts_fields.Goals as goal

pub returns-clause-appended : goal.returns-clause-appended
unfolding word behind parted counts_text
returns-clause-appended c = appended_as (simp append-nil) (appended_more c.put_fields-middle.ensures.appended c.put_fields.ensures.appended)
