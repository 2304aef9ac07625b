-- `telgouin::editing::step` meets its contract: a turn takes one line, and the last one leaves the input unread.
-- Assumes nothing.
use mathlib.Core.Bool.{false≢true}
use native.Mathlib.Omega.{arith}
use Rattle.edit_turns.specs.Turns.{unread, after_event}
use Rattle.telgouin.proofs.editing.step.Goals as goal

pub returns-then-left-eq0 : goal.returns-then-left-eq0
unfolding after_event
returns-then-left-eq0 g c = record {
  taken = record { event = unread; stands = λ s stands. c.unreadable.ensures s _ stands };
  left = omega arith;
  more = λ more. absurd (false≢true more);
}
