-- `listing_text::is_short` meets its contract. Assumes nothing.
use borrow.Author.Rules.{rules}
use Rattle.listing_lines.specs.Text.{Short}
use Rattle.listing_text.proofs.is_short.Goals as goal

pub returns-in-Clear : goal.returns-in-Clear
unfolding Short
returns-in-Clear c = rw c.in-Clear.is (search rules)

pub returns-then-node-lt-MOST_NODES : goal.returns-then-node-lt-MOST_NODES
unfolding Short
returns-then-node-lt-MOST_NODES c = rw c.in-Suspect.is (search rules)

pub returns-else-node-lt-MOST_NODES : goal.returns-else-node-lt-MOST_NODES
unfolding Short
returns-else-node-lt-MOST_NODES c = rw c.in-Suspect.is (search rules)
