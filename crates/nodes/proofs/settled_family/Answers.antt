-- `nodes::settled_family` meets its contract: each arm of the match has the kind that the rule's case is of
-- (`Operands`), and the operands are lower nodes, so their parts are lower. Assumes nothing.
use Prim.Native.Nat.{◌*◌}
use mathlib.Core.Path.{◌≡◌}
use mathlib.Core.Logic.{⊎_elim}
use native.Mathlib.Omega.{arith}
use Rattle.nodes.proofs.Operands.{no_node, above, above_two, placed_kind, placed_set, placed_operands, settled_is, settled_one, settled_two}
use Rattle.nodes.proofs.settled_family.Goals as goal

pub unreachable-requires : goal.unreachable-requires
unreachable-requires c = omega (arith, c.in_default.ensures, placed_kind c.requires.1)

pub unreachable-requires-in-End : goal.unreachable-requires-in-End
unreachable-requires-in-End c = no_node c.in-End.is (omega (arith, c.in-Ok.ensures, placed_kind c.requires.1))

pub single-requires : goal.single-requires
single-requires c = (omega (arith, c.part-into.ensures.at), placed_set c.requires.1)

pub copy-requires : goal.copy-requires
copy-requires c =
    let read = c.in-Ok.ensures in
    let lower = placed_operands c.requires.1 (⊎_elim (above read (omega arith)) (above read (omega arith)) c.in-Not.is) in
    (omega (arith, c.part-into.ensures.at), omega (arith, c.part-into.ensures.at, c.part-first.ensures.at, lower 0))

pub gate_family-requires : goal.gate_family-requires
gate_family-requires c =
    let lower = placed_operands c.requires.1 (above_two c.in-Ok.ensures c.in-Xor.is) in (
      omega (arith, c.part-into.ensures.at),
      omega (arith, c.part-into.ensures.at, c.part-first.ensures.at, lower 0),
      omega (arith, c.part-into.ensures.at, c.part-second.ensures.at, lower 1),
    )

pub returns-in-Input : goal.returns-in-Input
returns-in-Input c =
    λ cell e.
    let into : c.part-into.result ≡ 2 * c.args.i = omega (arith, c.part-into.ensures.at) in
    rw (settled_is _ c.requires.1 _ c.in-Ok.ensures cell e, c.in-Input.is, ← into) c.single.ensures

pub returns-in-Not : goal.returns-in-Not
returns-in-Not c =
    λ cell e.
    let into : c.part-into.result ≡ 2 * c.args.i = omega (arith, c.part-into.ensures.at) in
    let first : c.part-first.result ≡ 2 * c.args.node.first = omega (arith, c.part-first.ensures.at) in
    rw (settled_is _ c.requires.1 _ c.in-Ok.ensures cell e, settled_one _ _ c.in-Not.is, ← into, ← first) c.copy.ensures

pub returns-in-Xor : goal.returns-in-Xor
returns-in-Xor c =
    λ cell e.
    let into : c.part-into.result ≡ 2 * c.args.i = omega (arith, c.part-into.ensures.at) in
    let first : c.part-first.result ≡ 2 * c.args.node.first = omega (arith, c.part-first.ensures.at) in
    let second : c.part-second.result ≡ 2 * c.args.node.second = omega (arith, c.part-second.ensures.at) in
    rw (settled_is _ c.requires.1 _ c.in-Ok.ensures cell e, settled_two _ _ c.in-Xor.is, ← into, ← first, ← second) c.gate_family.ensures
