-- What the core examines, and the node records that are stored. Cited by the contracts of this crate. Assumes nothing.
use Rattle.std.specs.Prelude.{Result, Ok, Err}
use Rattle.rules.specs.declared.Refusal.{Refusal}
use Rattle.std.specs.Prelude.{ℕ, zero, suc, ◌*◌, ◌≤◌, ◌≡◌, List, length, get_or, set}
use Rattle.rules.specs.declared.NodeRecord.{NodeRecord}
use Rattle.rules.specs.Records.{Netlist, empty}
use Rattle.rules.specs.Families.{families, Findings, findings}
use Rattle.rules.specs.Slices.{work_bytes, filled}
use Rattle.rules.specs.Checks.{Outcome, answered, and_then, slices_fit}
use Rattle.rules.specs.Paper.{findings_of, outcome_by, query_of}
use Rattle.netlists.specs.declared.Netlist as Value
use Rattle.netlists.specs.Netlists.{blank, flat_of, kept}
use Rattle.marks.specs.declared.Marks.{Marks}
use Rattle.marks.specs.Marks.{marks_of}
use Rattle.checker.specs.declared.Examined.{Examined}

-- what an examination gives: the reply; and the netlist and its marks, which on a refusal are those of no node
abbrev pub replied : Result Examined Refusal → Outcome Findings
replied = outcome_by (λ examined. findings_of examined.answer)

abbrev pub kept_netlist : Result Examined Refusal → Value.Netlist
kept_netlist (Ok examined) = examined.netlist
kept_netlist (Err r) = flat_of empty

abbrev pub kept_marks : Result Examined Refusal → Marks
kept_marks (Ok examined) = examined.marks
kept_marks (Err r) = marks_of empty

-- what is examined where the outcome of reading and of the slices is `outcome`, and the work slice held
-- `before` and then holds `after`
pub record Examines (outcome : Outcome Netlist) (examined : Result Examined Refusal) (before after : List ℕ) : Type 0 where
  pub reply : replied examined ≡ and_then outcome (λ n. answered (findings n))
  pub netlist : kept_netlist examined ≡ flat_of (kept outcome)
  pub marks : kept_marks examined ≡ marks_of (kept outcome)
  pub work : after ≡ filled (λ n. work_bytes (families n)) outcome before

-- What is read from marks is the answer for a netlist by value; where both are a netlist's, the answer is the rules'.
pub record ReadsMarks (value : Value.Netlist) (marks : Marks) (examined : Examined) : Type 0 where
  pub netlist : examined.netlist ≡ value
  pub its_marks : examined.marks ≡ marks
  pub finds : (n : Netlist) → value ≡ flat_of n → marks ≡ marks_of n → findings_of examined.answer ≡ findings n

-- what is told of slices of so many entries and so many work bytes, of every netlist with so many nodes:
-- they are refused as the rules refuse them, or hold the nodes
pub record JudgesSlices (count entries work : ℕ) (told : Result (Unit {0}) Refusal) : Type 0 where
  pub says : (n : Netlist) → count ≡ length n.nodes → query_of told ≡ and_then (slices_fit entries work n) (λ m. answered tt)
  pub room : told ≡ Ok tt → (count ≤ entries) × (256 * count ≤ work)

-- the record of node i of a netlist by value with its marks, that of what was examined, and that of no node
abbrev pub record_of : Value.Netlist → Marks → (i : ℕ) → NodeRecord
record_of value marks i = record { node = get_or value.nodes i blank; settled = get_or marks.settled i 0; glitch = get_or marks.glitch i 0 }

abbrev pub record_in : Examined → (i : ℕ) → NodeRecord
record_in examined = record_of examined.netlist examined.marks

abbrev pub unwritten : NodeRecord
unwritten = record { node = blank; settled = 0; glitch = 0 }

-- the entries `before` once the first k of the records stand at their front
unfoldable pub stored : (records : ℕ → NodeRecord) (before : List NodeRecord) (k : ℕ) → List NodeRecord
stored records before zero = before
stored records before (suc k) = set (stored records before k) k (records k)
