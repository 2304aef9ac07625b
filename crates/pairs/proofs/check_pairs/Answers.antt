-- `pairs::check_pairs` meets its contract: what was examined is what the rules admit, so its records fit the slice, and
-- the slice then holds what the rules say. Assumes nothing.
use Rattle.std.specs.Prelude.{Ok, Err}
use mathlib.Core.Path.{◌∙◌}
use lib.ListN.{length}
use Rattle.checker.proofs.Stored.{kept_fits, examined_stored, refused_unstored}
use Rattle.pairs.proofs.Core.{one_probe_replied}
use Rattle.pairs.proofs.check_pairs.Goals as goal

pub returns-in_err-both-clause-nodes : goal.returns-in_err-both-clause-nodes
returns-in_err-both-clause-nodes c =
    refused_unstored c.args.bytes.now c.args.nodes.now (length c.args.work.now) _
    (one_probe_replied _ _ _ _ (Err _) c.in_err-both.ensures.reply)

pub store-requires : goal.store-requires
store-requires c =
    rw c.in_ok-both.ensures.netlist (kept_fits c.args.bytes.now (length c.args.nodes.now) (length c.args.work.now))

pub returns-clause-nodes : goal.returns-clause-nodes
returns-clause-nodes c =
    let e = c.in_ok-both.ensures in
    c.store.ensures
    ∙ examined_stored c.args.bytes.now c.args.nodes.now _ c.in_ok-both.both.examined
    (one_probe_replied _ _ _ _ (Ok c.in_ok-both.both) e.reply) e.netlist e.marks
