-- What an edit of a block by value with its marks comes to, in slices of so many entries and so many work bytes:
-- whatever the block is, and where it is a netlist's. Cited by the contracts of this crate and by the
-- proofs of `edits`. Assumes nothing.
use Rattle.std.specs.Prelude.{ℕ, ◌≤◌, ◌≡◌, List, Result, length}
use Rattle.rules.specs.declared.Refusal.{Refusal}
use Rattle.rules.specs.declared.Node.{Node}
use Rattle.rules.specs.Records.{Cell, Netlist, empty, WellFormed, with_node, most_variables, most_nodes}
use Rattle.rules.specs.Slices.{entry}
use Rattle.rules.specs.Checks.{refused, slices_fit}
use Rattle.netlists.specs.declared.Netlist as Value
use Rattle.netlists.specs.Netlists.{flat_of}
use Rattle.marks.specs.declared.Marks.{Marks}
use Rattle.marks.specs.Marks.{marks_of}
use Rattle.checker.specs.declared.Examined.{Examined}
use Rattle.checker.specs.Work.{replied, kept_netlist, Examines}
use Rattle.edit_rules.specs.Edits.{Edit, removed_if_unused, fits, edited, HoldsFamilies}
use Rattle.edit_rules.specs.declared.State.{State}
use Rattle.edit_rules.specs.Meaning.{state_of}

-- the state of a block by value
abbrev pub state_in : Value.Netlist → State
state_in block = record { variables = block.variables; classes = block.classes; count = block.count }

-- a block by value has no more variables and nodes than there may be
pub record Limited (block : Value.Netlist) : Type 0 where
  pub variables : block.variables ≤ most_variables
  pub nodes : block.count ≤ most_nodes

-- Whatever the block is: there is room for the node records that are to be stored, in so many entries, and a refusal
-- keeps none and leaves the work bytes, which were `before` and are then `after`, as they were.
pub record Contained (entries : ℕ) (examined : Result Examined Refusal) (before after : List ℕ) : Type 0 where
  pub few_entries : (kept_netlist examined).count ≤ entries
  pub few_nodes : (kept_netlist examined).count ≤ most_nodes
  pub unchanged : (k p : ℕ) → replied examined ≡ refused k p
      → (kept_netlist examined ≡ flat_of empty) × (after ≡ before)

-- a node more, whose record is e
pub record Adds (block : Value.Netlist) (marks : Marks) (e : Node) (entries : ℕ) (examined : Result Examined Refusal)
    (before after : List ℕ) : Type 0 where
  pub contained : Contained entries examined before after
  pub early : (n : Netlist) (cell : Cell) → block.count ≡ length n.nodes → (k p : ℕ)
      → slices_fit entries (length before) (with_node n cell) ≡ refused k p → replied examined ≡ refused k p
  pub made : (n : Netlist) (cell : Cell) → WellFormed (with_node n cell) → block ≡ flat_of n → marks ≡ marks_of n → e ≡ entry cell → HoldsFamilies n before
      → Examines (slices_fit entries (length before) (with_node n cell)) examined before after

-- a node less, in slices that hold the block
pub record RemovesUnused (block : Value.Netlist) (marks : Marks) (removed : ℕ) (examined : Result Examined Refusal)
    (before after : List ℕ) : Type 0 where
  pub contained : Contained block.count examined before after
  pub made : (n : Netlist) → WellFormed n → block ≡ flat_of n → marks ≡ marks_of n → HoldsFamilies n before
      → Examines (removed_if_unused removed n) examined before after

-- an edit
pub record Changes (block : Value.Netlist) (marks : Marks) (e : Edit) (entries : ℕ) (examined : Result Examined Refusal)
    (before after : List ℕ) : Type 0 where
  pub contained : Contained entries examined before after
  -- where the state is a netlist's, the refusals that go by the state and the lengths
  pub early : (n : Netlist) → WellFormed n → state_in block ≡ state_of n → (k p : ℕ) → fits n e entries (length before) ≡ refused k p
      → replied examined ≡ refused k p
  -- where the block and the marks are a netlist's and the work bytes hold its families, the edit of that netlist
  pub made : (n : Netlist) → WellFormed n → block ≡ flat_of n → marks ≡ marks_of n → HoldsFamilies n before
      → Examines (edited n e entries (length before)) examined before after
