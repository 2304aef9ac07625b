-- `desk_text::put_found` meets its contract: each arm writes the words and the numbers of its case. Assumes nothing.
use Rattle.rules.specs.Listing.{word}
use Rattle.desk_text.specs.Desk.{behind, parted, found_fields}
use Rattle.desk_text.proofs.put_found.Goals as goal

pub returns-in-Single-clause-appended : goal.returns-in-Single-clause-appended
unfolding word behind parted found_fields
returns-in-Single-clause-appended c = rw c.in-Single.is c.put_word.ensures

pub returns-in-NoPair-clause-appended : goal.returns-in-NoPair-clause-appended
unfolding word behind parted found_fields
returns-in-NoPair-clause-appended c = rw c.in-NoPair.is c.put_word-in-NoPair.ensures

pub returns-in-Pair-clause-appended : goal.returns-in-Pair-clause-appended
unfolding word behind parted found_fields
returns-in-Pair-clause-appended c = rw c.in-Pair.is c.put_fields.ensures.appended

pub returns-in-Spent-clause-appended : goal.returns-in-Spent-clause-appended
unfolding word behind parted found_fields
returns-in-Spent-clause-appended c = rw c.in-Spent.is c.put_word-in-Spent.ensures
