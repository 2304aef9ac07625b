-- `records::judge_end` meets its contract: its one test is the one row that is left for an end record. Assumes nothing.
use borrow.Author.Tests.{lt-ltb, le-ltb}
use Rattle.rules.specs.Checks.{judged}
use Rattle.records.proofs.Judged.{end_checks}
use Rattle.records.proofs.judge_end.Goals as goal

pub returns-then-spot-gt1 : goal.returns-then-spot-gt1
unfolding judged
returns-then-spot-gt1 c = let (inside, kind) = c.requires in rw (end_checks, lt-ltb _ _ c.if-spot-gt1.true, c.at.ensures)

pub returns : goal.returns
unfolding judged
returns c = let (inside, kind) = c.requires in rw (end_checks, le-ltb _ _ c.if-spot-gt1.false)
