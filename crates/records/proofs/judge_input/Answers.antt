-- `records::judge_input` meets its contract: its tests are the rows that are left for an input. Assumes nothing.
use mathlib.Core.Path.{sym, ap, ◌∙◌}
use borrow.Author.Tests.{lt-ltb, le-ltb, le-leb, lt-leb}
use Rattle.rules.specs.Checks.{judged, undeclared}
use Rattle.records.proofs.Judged.{input_checks}
use Rattle.records.proofs.judge_input.Goals as goal

pub returns-then-spot-ge-MOST_NODES : goal.returns-then-spot-ge-MOST_NODES
unfolding judged
returns-then-spot-ge-MOST_NODES c =
    let (inside, kind) = c.requires in rw (input_checks, le-leb _ _ c.if-spot-ge-MOST_NODES.true, c.at.ensures)

pub returns-then-spot-lt3 : goal.returns-then-spot-lt3
unfolding judged
returns-then-spot-lt3 c =
    let (inside, kind) = c.requires in
    rw (input_checks, lt-leb _ _ c.if-spot-ge-MOST_NODES.false, lt-ltb _ _ c.if-spot-lt3.true, c.at-then-spot-lt3.ensures)

pub returns-then-undeclared_bit : goal.returns-then-undeclared_bit
unfolding judged
returns-then-undeclared_bit c =
    let (inside, kind) = c.requires in
    let unknown = sym (ap (undeclared c.args.spot.variables) c.set_of.ensures) ∙ sym c.undeclared_bit.ensures ∙ c.if-undeclared_bit.true in
    rw (
      input_checks,
      lt-leb _ _ c.if-spot-ge-MOST_NODES.false,
      le-ltb _ _ c.if-spot-lt3.false,
      unknown,
      c.at-then-undeclared_bit.ensures,
    )

pub returns : goal.returns
unfolding judged
returns c =
    let (inside, kind) = c.requires in
    let known = sym (ap (undeclared c.args.spot.variables) c.set_of.ensures) ∙ sym c.undeclared_bit.ensures ∙ c.if-undeclared_bit.false in
    rw (input_checks, lt-leb _ _ c.if-spot-ge-MOST_NODES.false, le-ltb _ _ c.if-spot-lt3.false, known)
