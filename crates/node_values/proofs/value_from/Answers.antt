-- `node_values::value_from` meets its contract: the rule of settled values is one test of the record's kind, by cases
-- on the node that the record is of. Assumes nothing.
use Prim.Native.Nat.{ℕ}
use mathlib.Core.Path.{◌≡◌, refl, ap, ◌∙◌}
use mathlib.Core.Logic.{◌⊎◌, inl, inr}
use mathlib.Core.Bool.{Bool, false, not, ◌&&◌, ◌||◌, xor, cond}
use mathlib.Core.List.{List}
use native.Mathlib.Omega.{arith}
use borrow.Author.Tests.{ne_eqb}
use lib.Dec.{eqb}
use lib.ListN.{get_or}
use Rattle.rules.specs.declared.Node.{Node}
use Rattle.rules.specs.Records.{NOT, XOR, AND, OR, register, listed, from_operands, Cell, input, gate, kind_of, operands, set_of}
use Rattle.rules.specs.Values.{Assignment, exclusive_or, value_of, value_rule}
use Rattle.rules.specs.Slices.{entry}
use Rattle.netlists.specs.declared.Kind.{Kind}
use Rattle.netlists.specs.declared.Kind.TheVariants.{End, Variable, Register}
use Rattle.netlists.specs.Kinds.{byte_of}
use Rattle.node_values.proofs.value_from.Goals as goal

-- the settled value of a node of this kind, from its input's and its operands' values
abbrev by_number : (kind : ℕ) (own first second : Bool) → Bool
by_number k own a b =
    cond (eqb k 2) own (cond (eqb k 3) (not a) (cond (eqb k 4) (xor a b) (cond (eqb k 5) (a && b) (cond (eqb k 6) (a || b) a))))

module _ (x : Assignment) (values : List Bool) where
  abbrev of_record : Node → Bool
  of_record node = by_number node.kind (exclusive_or node.set x) (get_or values node.first false) (get_or values node.second false)

  of_cell : (cell : Cell) → of_record (entry cell) ≡ value_rule x values cell
  unfolding entry kind_of operands listed set_of value_rule value_of from_operands
  of_cell (input s) = refl
  of_cell (gate NOT (a, ops)) = refl
  of_cell (gate XOR (a, (b, ops))) = refl
  of_cell (gate AND (a, (b, ops))) = refl
  of_cell (gate OR (a, (b, ops))) = refl
  of_cell (gate register (a, ops)) = refl

  -- the value of the node of a record, by the record's kind
  from_record : (node : Node) (r : Bool) → r ≡ of_record node → (cell : Cell) → node ≡ entry cell → r ≡ value_rule x values cell
  from_record node r e cell is = e ∙ ap of_record is ∙ of_cell cell

-- a register, and what is no node's, gives the first operand's
first_only : {kind : Kind} (own first second : Bool) → (kind ≡ Register) ⊎ ((kind ≡ End) ⊎ (kind ≡ Variable))
    → first ≡ by_number (byte_of kind) own first second
first_only own first second (inl e) = rw e
first_only own first second (inr (inl e)) = rw e
first_only own first second (inr (inr e)) = rw e

pub returns-in_default : goal.returns-in_default
returns-in_default c =
    let (_, over) = c.in_default.ensures in
    from_record _ _ _ _
    (rw (
      ne_eqb c.args.node.kind 2 (λ kind. omega arith),
      ne_eqb c.args.node.kind 3 (λ kind. omega arith),
      ne_eqb c.args.node.kind 4 (λ kind. omega arith),
      ne_eqb c.args.node.kind 5 (λ kind. omega arith),
      ne_eqb c.args.node.kind 6 (λ kind. omega arith),
    ))

pub returns-in-Input : goal.returns-in-Input
returns-in-Input c = from_record _ _ _ _ (rw (← c.in-Ok.ensures, c.in-Input.is) c.exclusive_or.ensures)

pub returns-in-Not : goal.returns-in-Not
returns-in-Not c = from_record _ _ _ _ (rw (← c.in-Ok.ensures, c.in-Not.is))

pub returns-in-Xor : goal.returns-in-Xor
unfolding xor
returns-in-Xor c = from_record _ _ _ _ (rw (← c.in-Ok.ensures, c.in-Xor.is))

pub returns-then-first : goal.returns-then-first
returns-then-first c = from_record _ _ _ _ (rw (← c.in-Ok.ensures, c.in-And.is, c.if-first.true))

pub returns-else-first : goal.returns-else-first
returns-else-first c = from_record _ _ _ _ (rw (← c.in-Ok.ensures, c.in-And.is, c.if-first.false))

pub returns-then-first-2 : goal.returns-then-first-2
returns-then-first-2 c = from_record _ _ _ _ (rw (← c.in-Ok.ensures, c.in-Or.is, c.if-first-2.true))

pub returns-else-first-2 : goal.returns-else-first-2
returns-else-first-2 c = from_record _ _ _ _ (rw (← c.in-Ok.ensures, c.in-Or.is, c.if-first-2.false))

pub returns-in-Register : goal.returns-in-Register
returns-in-Register c = from_record _ _ _ _ (rw (← c.in-Ok.ensures) (first_only _ _ _ c.in-Register.is))
