-- `nodes::glitch_family` meets its contract: each arm of the match has the kind that the rule's case is of
-- (`Operands`), and the operands are lower nodes, so their parts are lower. For NOT the part is written twice.
-- Assumes nothing.
use Prim.Native.Nat.{◌*◌}
use mathlib.Core.Path.{◌≡◌, ◌∙◌}
use native.Mathlib.Omega.{arith}
use Rattle.families.proofs.Parts.{with_one}
use Rattle.nodes.proofs.Operands.{no_node, above, above_two, placed_kind, placed_set, placed_operands, glitch_is, glitch_two}
use Rattle.nodes.proofs.glitch_family.Goals as goal

pub unreachable-requires : goal.unreachable-requires
unreachable-requires c = omega (arith, c.in_default.ensures, placed_kind c.requires.1)

pub unreachable-requires-in-End : goal.unreachable-requires-in-End
unreachable-requires-in-End c = no_node c.in-End.is (omega (arith, c.in-Ok.ensures, placed_kind c.requires.1))

pub single-requires : goal.single-requires
single-requires c = (omega (arith, c.part-into.ensures.at), placed_set c.requires.1)

pub copy-requires : goal.copy-requires
copy-requires c =
    let lower = placed_operands c.requires.1 (above c.in-Ok.ensures (omega arith) c.in-Not.is) in
    (omega (arith, c.part-into.ensures.at), omega (arith, c.part-into.ensures.at, c.part-glitch.ensures.at, lower 0))

pub copy-requires-in-Register : goal.copy-requires-in-Register
copy-requires-in-Register c =
    let lower = placed_operands c.requires.1 (above c.in-Ok.ensures (omega arith) c.in-Register.is) in
    (omega (arith, c.part-into.ensures.at), omega (arith, c.part-into.ensures.at, c.part-settled.ensures.at, lower 0))

pub gate_family-requires : goal.gate_family-requires
gate_family-requires c =
    let lower = placed_operands c.requires.1 (above_two c.in-Ok.ensures c.in-Xor.is) in (
      omega (arith, c.part-into.ensures.at),
      omega (arith, c.part-into.ensures.at, c.part-glitch.ensures.at, lower 0),
      omega (arith, c.part-into.ensures.at, c.part-other.ensures.at, lower 1),
    )

pub returns-in-Input : goal.returns-in-Input
returns-in-Input c =
    λ cell e. rw (glitch_is _ c.requires.1 _ c.in-Ok.ensures cell e, c.in-Input.is, ← c.part-into.ensures.at) c.single.ensures

pub returns-in-Not : goal.returns-in-Not
returns-in-Not c =
    λ cell e.
    rw (glitch_is _ c.requires.1 _ c.in-Ok.ensures cell e, c.in-Not.is, ← c.part-into.ensures.at, ← c.part-glitch.ensures.at)
    (c.insert.ensures ∙ with_one _ _ _ _ (omega (arith, c.part-into.ensures.at)) c.copy.ensures 0)

pub returns-in-Register : goal.returns-in-Register
returns-in-Register c =
    λ cell e.
    let settled : c.part-settled.result ≡ 2 * c.args.node.first = omega (arith, c.part-settled.ensures.at) in
    rw (glitch_is _ c.requires.1 _ c.in-Ok.ensures cell e, c.in-Register.is, ← c.part-into.ensures.at, ← settled) c.copy-in-Register.ensures

pub returns-in-Xor : goal.returns-in-Xor
returns-in-Xor c =
    λ cell e.
    rw (
      glitch_is _ c.requires.1 _ c.in-Ok.ensures cell e,
      glitch_two _ _ _ c.in-Xor.is,
      ← c.part-into.ensures.at,
      ← c.part-glitch.ensures.at,
      ← c.part-other.ensures.at,
    ) c.gate_family.ensures
