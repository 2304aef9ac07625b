-- `desk_text::put_membership` meets its contract: each arm writes its word. Assumes nothing.
use Rattle.rules.specs.Listing.{word}
use Rattle.desk_text.specs.Desk.{yes_no}
use Rattle.desk_text.proofs.put_membership.Goals as goal

pub returns-then-holds-clause-appended : goal.returns-then-holds-clause-appended
unfolding word yes_no
returns-then-holds-clause-appended c = rw c.if-holds.true c.put_word.ensures

pub returns-else-holds-clause-appended : goal.returns-else-holds-clause-appended
unfolding word yes_no
returns-else-holds-clause-appended c = rw c.if-holds.false c.put_word-else-holds.ensures
