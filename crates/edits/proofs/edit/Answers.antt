-- `edits::edit` meets its contract: the block is loaded, changed and stored, and from what these promise follows what an
-- edit promises (`Promises`). Assumes nothing.
use Rattle.edit_rules.specs.Meaning.{edit_of}
use Rattle.edits.proofs.Promises.{promises}
use Rattle.edits.proofs.edit.Goals as goal

pub returns : goal.returns
returns c =
    let changes = rw c.load-loaded.ensures at c.change-examined.ensures in
    let p =
    promises c.args.state (edit_of c.args.edit c.args.bytes.now) c.args.nodes.now c.args.work.now
    c.change-examined.new.work c.change-examined.result changes c.change-examined.auto.work in
    rw (c.given.ensures.given, c.given.ensures.nodes)
    (record {
      reply = p.reply;
      state = p.state_after;
      nodes = p.nodes;
      work = p.work;
      clear = p.clear;
      probe = p.probe;
      early = p.early;
      kept = p.kept;
    })
