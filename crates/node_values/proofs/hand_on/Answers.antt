-- `node_values::hand_on` meets its contract: the code's tests of the mark and of the record's kind are those of the
-- definition, and a gate's operands are marked. Assumes nothing.
use Prim.Native.Nat.{ℕ}
use mathlib.Core.Path.{◌≡◌, refl, sym, ◌∙◌}
use mathlib.Core.Bool.{Bool, true, false, cond, ◌&&◌}
use mathlib.Core.List.{List}
use native.Mathlib.Omega.{arith}
use lib.ListN.{length, get_or, set, take}
use Rattle.rules.specs.Records.{Cell, operands, most_body}
use Rattle.rules.specs.Values.{is_point}
use Rattle.netlists.specs.Netlists.{padded}
use Rattle.netlists.proofs.Netlists.{padded_same, padded_first, placed_operand}
use Rattle.node_values.specs.Marks.{mark_all, handed_on}
use Rattle.node_values.proofs.hand_on.Goals as goal
use Rattle.node_values.proofs.hand_on.Goals.{then-not-marks-i-via-then-not-marks-i, then-not-marks-i-via-else-not-marks-i+then-is_point}

module _ (marks : List Bool) (i : ℕ) (cell : Cell) where
  unmarked : get_or marks i false ≡ false → marks ≡ handed_on marks i cell
  unfolding handed_on
  unmarked e = rw e

  of-point : is_point cell ≡ true → marks ≡ handed_on marks i cell
  unfolding handed_on
  of-point e = rw e (go (get_or marks i false))
    where
      go : (b : Bool) → marks ≡ cond (b && false) (mark_all (operands cell) (set marks i false)) marks
      go true = refl
      go false = refl

  of-gate : get_or marks i false ≡ true → is_point cell ≡ false → mark_all (operands cell) (set marks i false) ≡ handed_on marks i cell
  unfolding handed_on
  of-gate e f = rw (e, f)

pub returns-then-not-marks-i : goal.returns-then-not-marks-i
returns-then-not-marks-i c cell e = elim c.then-not-marks-i.branch [
  | then-not-marks-i-via-then-not-marks-i w ↦ unmarked _ _ cell w.if-not-marks-i.true
  | then-not-marks-i-via-else-not-marks-i+then-is_point w ↦ of-point _ _ cell (sym (w.is_point.ensures cell e) ∙ w.if-is_point.true)
]

-- the operands of a node, taken from its fields by their count
taken : (nodes : List ℕ) (count : ℕ) (cell : Cell) → (count ≡ length (operands cell)) × (nodes ≡ padded most_body 0 (operands cell))
    → take count nodes ≡ operands cell
taken nodes count cell (many, e) = rw (e, many) (padded_first most_body 0 (operands cell))

pub mark_all-requires : goal.mark_all-requires
mark_all-requires c =
    let p = c.requires.1 in (
      c.operands_of.ensures.few.0,
      λ j. rw ((c.operands_of.ensures.count_value p.cell p.is).1, padded_same most_body 0 (operands p.cell) j) (placed_operand p (omega arith) j),
    )

pub returns : goal.returns
returns c cell e =
    rw (c.mark_all.ensures, taken _ _ cell (c.operands_of.ensures.count_value cell e))
    (of-gate _ _ cell c.if-not-marks-i.false (sym (c.is_point.ensures cell e) ∙ c.if-is_point.false))
