-- `edit_lines::is_stuck` meets its contract: a `#` is stuck to what stands right before it. Assumes nothing.
use Rattle.std.proofs.Common.{sym, ◌∙◌}
use Rattle.edit_lines.proofs.Asks.{stuck_here, stuck_on, stuck_end}
use Rattle.edit_lines.proofs.is_stuck.Goals as goal

pub returns-then-letter-eq35 : goal.returns-then-letter-eq35
returns-then-letter-eq35 c =
    sym (c.loop-letter.invariant ∙ stuck_here _ _ _ c.loop-letter-test.true c.if-letter-eq35.true)

pub loop-letter-preserved : goal.loop-letter-preserved
loop-letter-preserved c =
    c.loop-letter.invariant ∙ rw c.is_blank-begun.ensures (stuck_on _ _ _ c.loop-letter-test.true c.if-letter-eq35.false)

pub returns : goal.returns
returns c = sym (c.loop-letter.invariant ∙ stuck_end _ _ _ c.loop-letter-test.false)
