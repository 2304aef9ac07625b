-- `desk::search::searched` meets its contract: the loop of `pairs::examine_pairs`. Its invariant: of all netlist bytes
-- what was under way where it began still is. The measure is how many nodes are left. Assumes nothing.
use Rattle.std.proofs.Common.{sym, ◌∙◌, arith}
use Rattle.desk.proofs.search.searched.Goals as goal

pub loop-examined-init : goal.loop-examined-init
loop-examined-init c = λ bytes before u. u

pub further-progress-requires : goal.further-progress-requires
further-progress-requires c =
    let seen = c.requires in
    let begun = c.begin_pairs-progress.ensures _ _ _ _ _ seen.leaves.reply seen.leaves.netlist seen.leaves.held in
    let u = c.loop-examined.invariant seen.bytes seen.before begun in (u.ready, u.nodes, sym c.is_done.ensures ∙ c.loop-examined-test.true)

pub loop-examined-smaller : goal.loop-examined-smaller
loop-examined-smaller c = omega (arith, c.further-progress.ensures.next)

pub loop-examined-preserved : goal.loop-examined-preserved
loop-examined-preserved c = λ bytes before u. c.further-progress.ensures.by_index _ _ before (c.loop-examined.invariant bytes before u)

pub returns : goal.returns
returns c = λ bytes before left.
    c.reply_after.ensures.done _ _ _ _ _ _
    (c.loop-examined.invariant bytes before (c.begin_pairs-progress.ensures _ _ _ _ _ left.reply left.netlist left.held))
    (sym c.is_done.ensures ∙ c.loop-examined-test.false)
