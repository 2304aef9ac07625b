-- `edit_parts::lowered` meets its contract: by the test. Assumes nothing.
use borrow.Author.Tests.{lt-ltb, le-ltb}
use Rattle.edit_rules.specs.Edits.{lowered}
use Rattle.edit_parts.proofs.lowered.Goals as goal

pub returns-then-removed-operand : goal.returns-then-removed-operand
unfolding lowered
returns-then-removed-operand c = rw (lt-ltb _ _ c.if-removed-operand.true)

pub returns-else-removed-operand : goal.returns-else-removed-operand
unfolding lowered
returns-else-removed-operand c = rw (le-ltb _ _ c.if-removed-operand.false)
