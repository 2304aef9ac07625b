-- `desk_text::put_half` meets its contract: behind the name a word, or the node and the set. Assumes nothing.
use Rattle.rules.specs.Listing.{word}
use Rattle.listing_lines.proofs.Text.{appended_more}
use Rattle.desk_text.specs.Desk.{behind, parted, half_text}
use Rattle.desk_text.proofs.put_half.Goals as goal

pub returns-in-Clear-clause-appended : goal.returns-in-Clear-clause-appended
unfolding word behind parted half_text
returns-in-Clear-clause-appended c = rw c.in-Clear.is (appended_more c.put_word-said.ensures c.put_word.ensures)

pub returns-in-Suspect-clause-appended : goal.returns-in-Suspect-clause-appended
unfolding parted half_text
returns-in-Suspect-clause-appended c = rw c.in-Suspect.is c.put_fields.ensures.appended
