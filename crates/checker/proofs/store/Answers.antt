-- `checker::store` meets its contract: each turn puts the next record behind the others. Assumes nothing.
use mathlib.Core.Path.{sym}
use Rattle.checker.specs.Work.{record_in}
use Rattle.checker.proofs.Stored.{stored_none, stored_more}
use Rattle.checker.proofs.store.Goals as goal

pub loop-i-init : goal.loop-i-init
loop-i-init c = sym (stored_none (record_in c.args.examined) c.args.nodes.now)

pub loop-i-preserved : goal.loop-i-preserved
loop-i-preserved c =
    rw (c.loop-i.invariant, stored_more (record_in c.args.examined) c.args.nodes.now c.loop-i.i)
