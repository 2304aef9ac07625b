-- `records::judge` meets its contract: outside the file and above the last kind by the first two rows of the table,
-- else by what the function for the kind ensures. Assumes nothing.
use borrow.Author.Tests.{lt-ltb, le-leb, lt-leb}
use Rattle.rules.specs.Records.{last_kind}
use Rattle.rules.specs.Checks.{and_then, judged, judged_record}
use Rattle.records.specs.Bytes.{accepted_if}
use Rattle.records.proofs.judge.Goals as goal

pub returns-then-spot-clause-judged : goal.returns-then-spot-clause-judged
unfolding accepted_if and_then judged_record judged
returns-then-spot-clause-judged c = rw (le-leb _ _ c.if-spot.true, c.at.ensures)

pub returns-in_default-clause-judged : goal.returns-in_default-clause-judged
unfolding accepted_if and_then judged_record judged
returns-in_default-clause-judged c =
    rw (lt-leb _ _ c.if-spot.false, lt-ltb last_kind c.args.own.kind c.in_default.ensures.1, c.at-in_default.ensures)
