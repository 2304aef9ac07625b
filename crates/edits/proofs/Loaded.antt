-- A block that is loaded by value with its marks: its fields one node record after the other,
-- and of the records at the front of a slice the block that the contracts speak of.
-- Its state is the one that was handed in, and of an open block it is the netlist by value, with the netlist's marks.
-- By laws of lists of any length, so that no array is unfolded. Assumes nothing.
use Prim.Native.Nat.{ℕ, ◌+◌, ◌<◌, min}
use mathlib.Core.Path.{◌≡◌, refl, sym, ◌∙◌}
use mathlib.Core.List.{List}
use native.Mathlib.Nat.{min-eq_left}
use native.Mathlib.Numerals.{add-one}
use native.Mathlib.Omega.{arith}
use lib.ListN.{length, get_or, take, set, replicate, length-take}
use lib.Seq.{length-take-le, take_all, take-take, take-suc}
use Rattle.rules.specs.declared.NodeRecord.{NodeRecord}
use Rattle.rules.specs.Records as Records
use Rattle.rules.specs.Records.{most_nodes}
use Rattle.rules.specs.Slices.{node_records}
use Rattle.rule_laws.proofs.Marks.{record_nodes, record_settled, record_glitch}
use Rattle.netlists.specs.Netlists.{flat_of}
use Rattle.netlists.proofs.Netlists.{padded_none, made_set}
use Rattle.marks.specs.Marks.{flat_marks, marks_in, marks_of}
use Rattle.checker.specs.Work.{unwritten}
use Rattle.edit_rules.specs.declared.State.{State}
use Rattle.edit_rules.specs.Meaning.{state_of, IsOpen}
use Rattle.edit_steps.specs.Changes.{state_in}
use Rattle.edits.specs.Edited.{column, loaded_from, loaded_of}

-- ---- a field of the first records

module _ {A : Type 0} (rest : A) (field : NodeRecord → A) (records : List NodeRecord) where
  pub column_none : column rest field 0 records ≡ replicate most_nodes rest
  unfolding column
  column_none = padded_none most_nodes rest

  pub column_more : (k : ℕ) → k < length records → k < most_nodes → column rest field (k + 1) records ≡ set (column rest field k records) k (field (get_or records k unwritten))
  unfolding column
  column_more k h few =
      let many = length-take-le k records (omega arith) in
      rw (add-one k, take-suc records k unwritten h)
      (sym (made_set field most_nodes rest (take k records) (get_or records k unwritten) (omega arith)) ∙ rw many)

-- ---- of a slice

-- the first k of some records are all of these
pub loaded_first : (state : State) (k : ℕ) (records : List NodeRecord) → loaded_from state (length (take k records)) (take k records) ≡ loaded_from state k records
unfolding loaded_from column
loaded_first state k records = rw (take_all (length (take k records)) (take k records) (omega arith)) refl

module _ (state : State) (records : List NodeRecord) where
  -- as many are taken as the block takes of them
  pub loaded_all : loaded_from state (min (min state.count most_nodes) (length records)) records ≡ loaded_of state records
  unfolding loaded_from column
  loaded_all =
      let m = min state.count most_nodes in
      let k = min m (length records) in
      rw (sym (take-take k m records (omega arith)), take_all k (take m records) (rw length-take (omega arith)))

  -- ---- a block that is loaded

  pub loaded_state : state_in (loaded_of state records).block ≡ state
  unfolding loaded_from
  loaded_state = refl

-- of an open block
module _ {n : Records.Netlist} {state : State} {records : List NodeRecord} {work : List ℕ} (opened : IsOpen n state records work) where
  front : take (min state.count most_nodes) records ≡ node_records n
  unfolding state_of
  front = rw (opened.its_state, min-eq_left opened.obeys.few_nodes) opened.holds.records

  pub loaded_flat : (loaded_of state records).block ≡ flat_of n
  unfolding loaded_from state_of flat_of column
  loaded_flat = rw (front, record_nodes n, opened.its_state)

  pub loaded_marks : (loaded_of state records).marks ≡ marks_of n
  unfolding loaded_from marks_of marks_in flat_marks column
  loaded_marks = rw (front, record_settled n, record_glitch n)
