-- On the way to the feeding points of a node: the marks that a gate hands on. Cited by the contracts of this crate.
-- Assumes nothing.
use Rattle.std.specs.Prelude.{ℕ, Bool, true, false, cond, not, ◌&&◌, List, [], ◌∷◌, get_or, set}
use Rattle.rules.specs.Records.{Cell, operands}
use Rattle.rules.specs.Values.{is_point}

-- the marks with some nodes' set
unfoldable pub mark_all : List ℕ → List Bool → List Bool
mark_all [] marks = marks
mark_all (i ∷ nodes) marks = mark_all nodes (set marks i true)

-- a gate that is marked hands its mark on to its operands; an input or register keeps it
unfoldable pub handed_on : (marks : List Bool) (i : ℕ) → Cell → List Bool
handed_on marks i cell = cond (get_or marks i false && not (is_point cell)) (mark_all (operands cell) (set marks i false)) marks
