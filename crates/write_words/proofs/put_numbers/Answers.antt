-- `write_words::put_numbers` meets its contract: an input has the variables of its set, and every other node its
-- operands. The loop's invariant: the first j operands are put, each in at most three digits with its blank. Assumes nothing.
use Prim.Native.Nat.{ℕ, ◌≤◌, ◌<◌}
use mathlib.Core.Path.{◌≡◌, refl, sym, ap, ◌∙◌}
use mathlib.Core.List.{List, append-nil}
use native.Mathlib.Numerals.{add-one}
use native.Mathlib.Omega.{arith}
use borrow.Author.Rules.{rules}
use lib.ListN.{length, take}
use lib.Seq.{take-suc, take_all, take_at}
use Rattle.std.proofs.Common.{inr}
use Rattle.std.proofs.lemmas.List.{length-take}
use Rattle.rules.specs.declared.Node.{Node}
use Rattle.rules.specs.Records.{Cell, input, gate, kind_of, operands, set_of, most_variables, most_body}
use Rattle.rules.specs.Listing.{decimal}
use Rattle.rules.specs.Slices.{entry}
use Rattle.rule_laws.proofs.Decimal.{decimal_short}
use Rattle.rule_laws.proofs.Operands.{known}
use Rattle.netlists.specs.Netlists.{padded}
use Rattle.listing_lines.proofs.Text.{appended_none, appended_more, appended_as}
use Rattle.write_words.specs.Worded.{variables_below, numbers_of, fields}
use Rattle.write_words.proofs.Worded.{fields_more}
use Rattle.write_words.proofs.put_numbers.Goals as goal

numbers_set : (cell : Cell) → kind_of cell ≡ 2 → variables_below most_variables (set_of cell) ≡ numbers_of cell
unfolding kind_of operands numbers_of
numbers_set (input s) e = refl
numbers_set (gate kind ops) e = absurd (omega (arith, (known kind).above))

numbers_operands : (cell : Cell) → (kind_of cell ≡ 2 → ⊥) → operands cell ≡ numbers_of cell
unfolding kind_of operands set_of variables_below numbers_of
numbers_operands (input s) other = absurd (other refl)
numbers_operands (gate kind ops) other = sym (append-nil _)

module _ {n : Node} (cell : Cell) (e : n ≡ entry cell) where
  of_input : n.kind ≡ 2 → variables_below most_variables n.set ≡ numbers_of cell
  unfolding entry
  of_input two = rw e (numbers_set cell (rw e at two))

  of_gate : (n.kind ≡ 2 → ⊥) → (count : ℕ) (ops : List ℕ) → count ≡ length (operands cell) → ops ≡ padded most_body 0 (operands cell)
      → take count ops ≡ numbers_of cell
  unfolding entry padded
  of_gate other count ops many all = rw (all, take_at (operands cell) _ count (sym many)) (numbers_operands cell (rw e at other))

pub returns-then-node-byte-clause-appended : goal.returns-then-node-byte-clause-appended
returns-then-node-byte-clause-appended c =
    let two = (c.if-node-byte.true ∙ c.byte.ensures) in
    λ cell e. appended_as (ap fields (of_input cell e two)) c.put_set.ensures.appended

pub loop-operand-init : goal.loop-operand-init
unfolding fields
loop-operand-init c = (refl, omega arith, appended_none _ _)

-- the next operand has at most three digits
short : (operand : ℕ) → operand < 256 → length (decimal operand) ≤ 3
short operand byte = decimal_short 3 operand (omega arith) (omega arith)

-- there are no more operands than a body has bytes
few_taken : (n : ℕ) (ops : List ℕ) → n ≤ most_body → length (take n ops) ≤ most_body
few_taken n ops h = omega (arith, length-take {A = ℕ})

pub put_field-end-requires : goal.put_field-end-requires
put_field-end-requires c =
    let own = c.operands_of-operands in
    omega (arith, few_taken own.result.count own.result.at (omega arith), short c.from.result (search rules))

pub loop-operand-preserved : goal.loop-operand-preserved
loop-operand-preserved c =
    let own = c.operands_of-operands in
    let ops : List ℕ = take own.result.count own.result.at in
    let j = c.loop-operand.operand-index in
    let here : j < length ops = omega arith in (
      search rules,
      omega (arith, c.put_field-end.ensures.place, short c.from.result (search rules)),
      rw (add-one, take-suc ops j 0 here, ← c.from.ensures)
          (appended_as (fields_more (take j ops) c.from.result) (appended_more c.loop-operand.invariant.2 c.put_field-end.ensures)),
    )

pub returns-clause-appended : goal.returns-clause-appended
returns-clause-appended c = λ cell e.
    let own = c.operands_of-operands in
    let (many, ops) = own.ensures.count_value cell e in
    appended_as
    (ap fields (take_all c.loop-operand.operand-index _ (omega arith) ∙ of_gate cell e (λ two. c.if-node-byte.false (two ∙ sym c.byte.ensures)) own.result.count own.result.at many ops))
    c.loop-operand.invariant.2

pub returns-clause-few : goal.returns-clause-few
returns-clause-few c =
    let own = c.operands_of-operands in
    let few = few_taken own.result.count own.result.at (omega arith) in (omega arith, inr (omega arith))
