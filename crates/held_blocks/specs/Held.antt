-- An open block that is held by value. Cited by the contracts of this crate and of those that hold such a block.
-- Assumes nothing.
use Rattle.std.specs.Prelude.{ℕ, ◌≡◌, List}
use Rattle.rules.specs.Records.{Netlist, WellFormed}
use Rattle.netlists.specs.declared.Netlist as Value
use Rattle.netlists.specs.Netlists.{flat_of}
use Rattle.marks.specs.declared.Marks.{Marks}
use Rattle.marks.specs.Marks.{marks_of}
use Rattle.edit_rules.specs.Edits.{HoldsFamilies}

-- The netlist obeys the record rules, the value and the marks are its own, and the work bytes hold its families
-- at their front, 256 bytes a node.
pub record IsHeld (n : Netlist) (value : Value.Netlist) (marks : Marks) (work : List ℕ) : Type 0 where
  pub obeys : WellFormed n
  pub its_value : value ≡ flat_of n
  pub its_marks : marks ≡ marks_of n
  pub families : HoldsFamilies n work
