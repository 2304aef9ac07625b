-- `desk_text::glitch_fields` meets its contract. Assumes nothing.
use borrow.Author.Rules.{rules}
use Rattle.rules.specs.Listing.{word}
use Rattle.desk_text.specs.Desk.{half_text}
use Rattle.desk_text.proofs.glitch_fields.Goals as goal

pub returns : goal.returns
unfolding word half_text
returns c = search rules
