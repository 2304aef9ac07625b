-- What the code's enum of edits and its state of an open block mean. Promises use these. Assumes nothing.
use Rattle.std.specs.Prelude.{ℕ, ◌≡◌, List, map, length}
use Rattle.rules.specs.declared.NodeRecord.{NodeRecord}
use Rattle.rules.specs.Records.{Netlist, WellFormed, class_byte, most_variables}
use Rattle.netlists.specs.Netlists.{padded}
use Rattle.edit_rules.specs.declared.State.{State}
use Rattle.edit_rules.specs.declared.Edit as Code
use Rattle.edit_rules.specs.declared.Edit.TheVariants.{Add, Remove}
use Rattle.edit_rules.specs.Edits.{Edit, add, remove, Holds}

-- the edit that is asked for, where these are the bytes of the record
abbrev pub edit_of : Code.Edit → (bytes : List ℕ) → Edit
edit_of Add bytes = add bytes
edit_of (Remove i) bytes = remove i

-- the state of an open block: its variables and their classes, of which those beyond the count are 0,
-- and the number of its nodes
unfoldable pub state_of : Netlist → State
state_of n = record {
  variables = length n.variables;
  classes = padded most_variables 0 (map class_byte n.variables);
  count = length n.nodes;
}

-- An open block: its netlist obeys the record rules, the state is the netlist's, and both slices hold its node
-- records and families at their front.
pub record IsOpen (n : Netlist) (state : State) (nodes : List NodeRecord) (work : List ℕ) : Type 0 where
  pub obeys : WellFormed n
  pub its_state : state ≡ state_of n
  pub holds : Holds n nodes work
