-- `derive` meets its contract: what is refused of the query stays refused and leaves the slice as it was;
-- of a query that stands the families of all nodes are made, and the rest is `derive_held`. Assumes nothing.
use Rattle.std.proofs.lemmas.Result.{err_from_is_err_and}
use Rattle.read_bytes.proofs.Files.{read_stands, read_refused}
use Rattle.query_netlists.proofs.Asking.{stands_formed, stands_with, stands_read}
use Rattle.derivations.specs.Written.{ReadAs}
use Rattle.derivations.proofs.Certificates.{query_refused, no_answer}
use Rattle.derivations.proofs.derive.Goals as goal

pub returns-in_err-netlist : goal.returns-in_err-netlist
returns-in_err-netlist c =
    let p = err_from_is_err_and c.from_residual.result c.from_residual.ensures.1 in
    let (reply, slice) = query_refused _ _ _ _ _ _ (read_refused _ c.in_err-netlist.ensures) _ in
    rw (p.1, p.2) record {
      reply = reply;
      steps = slice;
      follows = λ count e. absurd (no_answer e);
      most = λ count e. absurd (no_answer e);
    }

pub derive_read-requires : goal.derive_read-requires
derive_read-requires c = stands_formed _ _ (stands_with _ _ _ (read_stands _ c.in_ok-netlist.ensures))

pub returns : goal.returns
returns c =
    let s = read_stands _ c.in_ok-netlist.ensures in
    let held = c.derive_read.ensures in
    let reads : ReadAs _ _ = record { netlist = s.netlist; is = stands_read _ _ _ s; same = s.value } in
    record {
      reply = held.reply _ reads;
      steps = held.steps _ reads;
      follows = held.follows _ reads;
      most = held.most;
    }
