-- `desk_text::put_ended` meets its contract: each arm writes the words and the numbers of its case. Assumes nothing.
use Rattle.rules.specs.Listing.{word}
use Rattle.desk_text.specs.Desk.{behind, parted, edits_fields}
use Rattle.desk_text.proofs.put_ended.Goals as goal

pub returns-then-faulty-clause-appended : goal.returns-then-faulty-clause-appended
unfolding word behind parted edits_fields
returns-then-faulty-clause-appended c = rw c.if-faulty.true c.put_word.ensures

pub returns-in-Clear-clause-appended : goal.returns-in-Clear-clause-appended
unfolding word behind parted edits_fields
returns-in-Clear-clause-appended c = rw (c.if-faulty.false, c.in-Clear.is) c.put_word-in-Clear.ensures

pub returns-in-Suspect-clause-appended : goal.returns-in-Suspect-clause-appended
unfolding word behind parted edits_fields
returns-in-Suspect-clause-appended c = rw (c.if-faulty.false, c.in-Suspect.is) c.put_fields.ensures.appended
