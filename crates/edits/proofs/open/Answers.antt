-- `edits::open` meets its contract: what was examined is what the rules admit, so its records fit the slice, the slice
-- then holds what the rules say, and the state is that of what is kept. Assumes nothing.
use mathlib.Core.Path.{ap, ◌∙◌}
use lib.ListN.{length}
use Rattle.rules.specs.Checks.{admitted}
use Rattle.netlists.specs.declared.Netlist as Value
use Rattle.netlists.specs.Netlists.{kept}
use Rattle.checker.proofs.Stored.{kept_fits}
use Rattle.edit_steps.specs.Changes.{state_in}
use Rattle.edits.proofs.Promises.{given_reply, opened_state, opened_nodes}
use Rattle.edits.proofs.open.Goals as goal

pub given-requires : goal.given-requires
given-requires c =
    rw c.examine-examined.ensures.netlist
    (kept_fits c.args.bytes.now (length c.args.nodes.now) (length c.args.work.now))

pub returns : goal.returns
returns c =
    let e = c.examine-examined.ensures in
    let is = given_reply c.state_of-none.result c.examine-examined.result in
    let n = kept (admitted c.args.bytes.now (length c.args.nodes.now) (length c.args.work.now)) in
    let none = c.state_of-none.ensures ∙ ap (λ (b : Value.Netlist). state_in b) c.no_records.ensures in
    rw c.given.ensures.given
    (record {
      reply = is ∙ e.reply;
      state = rw none (opened_state c.examine-examined.result n e.netlist);
      nodes = c.given.ensures.nodes ∙ opened_nodes _ _ _ _ e.reply e.netlist e.marks;
      work = e.work;
      clear = rw is e.clear;
      probe = rw is e.probe;
    })
