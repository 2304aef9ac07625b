-- What taking one record finds, and what is to be found by the rules; and a file that was read. Cited by this crate's
-- contracts and its callers'. Assumes nothing.
use Rattle.std.specs.Prelude.{ℕ, ◌≡◌, List, Result}
use Rattle.rules.specs.declared.Refusal.{Refusal}
use Rattle.rules.specs.Records as R
use Rattle.rules.specs.Checks.{Outcome, answered, and_then, judged_at}
use Rattle.rules.specs.Paper.{outcome_by}
use Rattle.netlists.specs.declared.Netlist.{Netlist}
use Rattle.netlists.specs.Netlists.{flat_of}
use Rattle.netlists.specs.Kinds.{byte_of}
use Rattle.records.specs.declared.RecordBytes.{RecordBytes}
use Rattle.records.specs.declared.Record.{Record}
use Rattle.records.specs.Bytes.{record_bytes_at, accepted_if}

-- what is found is a record, by its bytes, or a refusal
abbrev pub bytes_of : Record → RecordBytes
bytes_of own = record { kind = byte_of own.kind; body = own.body }

abbrev pub found_of : Result Record Refusal → Outcome RecordBytes
found_of = outcome_by bytes_of

-- what is to be found in a file, after so many variables and nodes
abbrev pub found_at : List ℕ → (v n here : ℕ) → Outcome RecordBytes
found_at bytes v n here = and_then (accepted_if (judged_at bytes v n here)) (λ _. answered (record_bytes_at bytes here))

-- a file that was read, where reading and the checks after it come to `end`: the netlist by value, or the refusal with
-- its number and place
pub record Reads (file : Result Netlist Refusal) (end : Outcome R.Netlist) : Type 0 where
  pub comes_to : outcome_by (λ value. value) file ≡ and_then end (λ n. answered (flat_of n))
