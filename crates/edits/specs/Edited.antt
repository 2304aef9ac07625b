-- A block as it is loaded from a lent slice of node records; what a call gives beside both slices; and what holds of a
-- call whatever it was handed. Cited by the contracts of this crate. Assumes nothing.
use Rattle.std.specs.Prelude.{Result, Ok, Err}
use Rattle.rules.specs.declared.Refusal.{Refusal}
use Rattle.std.specs.Prelude.{ℕ, min, ◌≡◌, List, map, length, take}
use Rattle.rules.specs.declared.NodeRecord.{NodeRecord}
use Rattle.rules.specs.Records.{most_nodes}
use Rattle.rules.specs.Checks as Checks
use Rattle.rules.specs.Paper.{reply_of}
use Rattle.netlists.specs.Netlists.{padded, blank}
use Rattle.checker.specs.declared.Examined.{Examined}
use Rattle.checker.specs.Work.{record_in, stored}
use Rattle.edit_rules.specs.declared.State.{State}
use Rattle.edit_steps.specs.Changes.{state_in}
use Rattle.edit_steps.specs.declared.Loaded.{Loaded}
use Rattle.edits.specs.declared.Edited.{Edited}

-- a field of the first k of some node records, and `rest` beyond them
unfoldable pub column : {A : Type 0} → (rest : A) → (NodeRecord → A) → (k : ℕ) → List NodeRecord → List A
column rest field k records = padded most_nodes rest (map field (take k records))

-- a block by value with its marks, of a state and the first k of some node records; and of a slice of them,
-- of which no more are taken than the state says and than there may be nodes
unfoldable pub loaded_from : State → (k : ℕ) → List NodeRecord → Loaded
loaded_from state k records = record {
  block = record {
    variables = state.variables;
    count = state.count;
    classes = state.classes;
    nodes = column blank (λ r. r.node) k records;
  };
  marks = record { settled = column 0 (λ r. r.settled) k records; glitch = column 0 (λ r. r.glitch) k records };
}

abbrev pub loaded_of : State → List NodeRecord → Loaded
loaded_of state nodes = loaded_from state (min state.count most_nodes) nodes

-- what a call gives of what was examined: a refusal gives the state that was handed in, and else it is the block's
abbrev pub edited_of : State → Result Examined Refusal → Edited
edited_of state (Err r) = record { reply = Err r; state = state }
edited_of state (Ok examined) = record { reply = Ok examined.answer; state = state_in examined.netlist }

-- and what it leaves in the slice of node records
abbrev pub stored_of : Result Examined Refusal → List NodeRecord → List NodeRecord
stored_of (Err r) nodes = nodes
stored_of (Ok examined) nodes = stored (record_in examined) nodes examined.netlist.count

-- Whatever state and slices an edit is handed: both slices keep their lengths, and a refusal gives the state that was
-- handed in and leaves both slices as they were.
pub record Kept (state : State) (given : Edited) (nodes nodes' : List NodeRecord) (work work' : List ℕ) : Type 0 where
  pub entries : length nodes' ≡ length nodes
  pub bytes : length work' ≡ length work
  pub refused : (k p : ℕ) → reply_of given.reply ≡ Checks.refused k p → (given.state ≡ state) × (nodes' ≡ nodes) × (work' ≡ work)
