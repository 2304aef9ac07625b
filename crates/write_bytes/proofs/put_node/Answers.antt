-- `write_bytes::put_node` meets its contract: an input's set, or the operands, behind the kind. Assumes nothing.
use Prim.Native.Nat.{ℕ, ◌/◌, ◌%◌}
use mathlib.Core.Path.{◌≡◌, refl, sym, ◌∙◌}
use mathlib.Core.List.{List, [], ◌∷◌}
use native.Mathlib.Omega.{arith}
use lib.ListN.{length, take}
use lib.Seq.{take_at}
use Rattle.rules.specs.declared.Node.{Node}
use Rattle.rules.specs.Records.{Cell, input, gate, node, kind_of, operands, set_of, body, record_bytes, most_body}
use Rattle.rules.specs.Slices.{entry}
use Rattle.rule_laws.proofs.Operands.{known}
use Rattle.netlists.specs.Netlists.{padded}
use Rattle.listing_lines.proofs.Text.{appended_more, appended_as}
use Rattle.write_bytes.proofs.put_node.Goals as goal

-- the body of an input's record is its set, and that of every other node its operands
body_set : (cell : Cell) → kind_of cell ≡ 2 → body cell ≡ set_of cell % 256 ∷ set_of cell / 256 ∷ []
unfolding kind_of body set_of
body_set (input s) e = refl
body_set (gate kind ops) e = absurd (omega (arith, (known kind).above))

body_operands : (cell : Cell) → (kind_of cell ≡ 2 → ⊥) → body cell ≡ operands cell
unfolding kind_of body operands
body_operands (input s) other = absurd (other refl)
body_operands (gate kind ops) other = refl

module _ {n : Node} (cell : Cell) (e : n ≡ entry cell) where
  of_input : n.kind ≡ 2 → n.kind ∷ n.set % 256 ∷ n.set / 256 ∷ [] ≡ record_bytes (node cell)
  unfolding entry record_bytes
  of_input two = rw (e, body_set cell (rw e at two))

  of_gate : (n.kind ≡ 2 → ⊥) → (count : ℕ) (ops : List ℕ) → count ≡ length (operands cell) → ops ≡ padded most_body 0 (operands cell)
      → n.kind ∷ take count ops ≡ record_bytes (node cell)
  unfolding entry record_bytes padded
  of_gate other count ops many all = rw (all, take_at (operands cell) _ count (sym many), e, body_operands cell (rw e at other))

pub returns-then-node-byte-clause-appended : goal.returns-then-node-byte-clause-appended
returns-then-node-byte-clause-appended c = λ cell e.
    let high : c.args.node.set / 256 % 256 ≡ c.args.node.set / 256 = omega arith in
    appended_as (of_input cell e (c.if-node-byte.true ∙ c.byte.ensures))
    (appended_more c.put_byte-end.ensures (appended_as (c.to_le_bytes.ensures ∙ rw high) c.put_word.ensures))

pub returns-clause-appended : goal.returns-clause-appended
returns-clause-appended c = λ cell e.
    let own = c.operands_of-operands in
    let (many, ops) = own.ensures.count_value cell e in
    appended_as (of_gate cell e (λ two. c.if-node-byte.false (two ∙ sym c.byte.ensures)) own.result.count own.result.at many ops)
    (appended_more c.put_byte-end.ensures c.put_word-2.ensures)
