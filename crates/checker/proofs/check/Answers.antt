-- `checker::check` meets its contract: what was examined is what the rules admit, so its records fit the slice, and the
-- slice then holds what the rules say. Assumes nothing.
use Rattle.std.proofs.Common.{length}
use mathlib.Core.Path.{◌∙◌}
use Rattle.checker.proofs.Stored.{kept_fits, examined_stored, refused_unstored}
use Rattle.checker.proofs.check.Goals as goal

pub returns-in_err-examined-clause-nodes : goal.returns-in_err-examined-clause-nodes
returns-in_err-examined-clause-nodes c =
    refused_unstored c.args.bytes.now c.args.nodes.now (length c.args.work.now) _ c.in_err-examined.ensures.reply

pub store-requires : goal.store-requires
store-requires c =
    rw c.in_ok-examined.ensures.netlist (kept_fits c.args.bytes.now (length c.args.nodes.now) (length c.args.work.now))

pub returns-clause-nodes : goal.returns-clause-nodes
returns-clause-nodes c =
    let e = c.in_ok-examined.ensures in
    c.store.ensures ∙ examined_stored c.args.bytes.now c.args.nodes.now _ c.in_ok-examined.examined e.reply e.netlist e.marks
