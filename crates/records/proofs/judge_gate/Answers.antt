-- `records::judge_gate` meets its contract: its tests are the rows that are left for a node with operands.
-- Assumes nothing.
use Prim.Native.Nat.{◌<◌, ◌≤◌}
use Rattle.rules.specs.Records.{last_kind}
use borrow.Author.Tests.{lt-ltb, le-ltb, le-leb, lt-leb}
use Rattle.rules.specs.Checks.{judged}
use Rattle.records.specs.declared.RecordBytes.{RecordBytes}
use Rattle.records.specs.declared.Spot.{Spot}
use Rattle.records.proofs.Judged.{GateChecks, gate_checks}
use Rattle.records.proofs.judge_gate.Goals as goal

-- the rows that are left
left : (spot : Spot) (own : RecordBytes) (r : (spot.here < spot.total) × (2 < own.kind) × (own.kind ≤ last_kind))
    → GateChecks spot.total spot.variables spot.nodes spot.here own.kind own.body r.0
left spot own r = gate_checks _ _ _ _ _ _ r.0 r.1 r.2

pub returns-then-spot-ge-MOST_NODES : goal.returns-then-spot-ge-MOST_NODES
unfolding judged
returns-then-spot-ge-MOST_NODES c =
    let g = left c.args.spot c.args.own c.requires in
    rw (g.rows, le-leb _ _ c.if-spot-ge-MOST_NODES.true, c.at.ensures)

pub returns-then-spot-count : goal.returns-then-spot-count
unfolding judged
returns-then-spot-count c =
    let g = left c.args.spot c.args.own c.requires in
    rw (
      g.rows,
      lt-leb _ _ c.if-spot-ge-MOST_NODES.false,
      ← (c.operand_count-count.ensures.value g.cell g.is),
      lt-ltb _ _ c.if-spot-count.true,
      c.at-then-spot-count.ensures,
    )

pub not_below-requires : goal.not_below-requires
not_below-requires c = c.operand_count-count.ensures.few

pub returns-then-not_below : goal.returns-then-not_below
unfolding judged
returns-then-not_below c =
    let g = left c.args.spot c.args.own c.requires in
    rw (
      g.rows,
      lt-leb _ _ c.if-spot-ge-MOST_NODES.false,
      ← (c.operand_count-count.ensures.value g.cell g.is),
      le-ltb _ _ c.if-spot-count.false,
      ← c.not_below.ensures,
      c.if-not_below.true,
      c.at-then-not_below.ensures,
    )

pub returns : goal.returns
unfolding judged
returns c =
    let g = left c.args.spot c.args.own c.requires in
    rw (
      g.rows,
      lt-leb _ _ c.if-spot-ge-MOST_NODES.false,
      ← (c.operand_count-count.ensures.value g.cell g.is),
      le-ltb _ _ c.if-spot-count.false,
      ← c.not_below.ensures,
      c.if-not_below.false,
    )
