-- The records of a netlist, one after the other: one record more goes behind those of the first i.
-- And the block that is loaded of an open block's state and node records, and values that are no netlist's.
-- Assumes nothing.
use Prim.Native.Nat.{ℕ, ◌+◌, ◌<◌, ◌≤◌}
use mathlib.Core.Path.{◌≡◌}
use mathlib.Core.List.{List, ◌++◌, append-nil}
use native.Mathlib.Nat.{min-eq_left}
use native.Mathlib.Numerals.{add-one}
use lib.ListN.{length, get_or, take}
use lib.Seq.{take-suc}
use Rattle.rules.specs.declared.NodeRecord.{NodeRecord}
use Rattle.rules.specs.Records.{Netlist, WellFormed, public, input, variable, node, record_bytes, variables_out, nodes_out, most_variables, most_nodes}
use Rattle.std.proofs.Common.{◌⊎◌, inl, inr, arith}
use Rattle.netlists.specs.declared.Netlist as Value
use Rattle.netlists.proofs.Netlists.{value_variables, value_count}
use Rattle.rule_laws.proofs.Reading.{variables_append, nodes_append}
use Rattle.netlists.specs.Netlists.{flat_of}
use Rattle.edit_rules.specs.declared.State.{State}
use Rattle.edit_rules.specs.Meaning.{IsOpen}
use Rattle.edits.specs.Edited.{loaded_from}
use Rattle.edits.proofs.Loaded.{loaded_flat}

-- the records of one variable more, and of one node more
pub variables_more : (n : Netlist) (i : ℕ) → i < length n.variables
    → variables_out (take i n.variables) ++ record_bytes (variable (get_or n.variables i public)) ≡ variables_out (take (i + 1) n.variables)
unfolding variables_out
variables_more n i h = rw (add-one, take-suc n.variables i public h, variables_append, append-nil)

pub nodes_more : (n : Netlist) (i : ℕ) → i < length n.nodes
    → nodes_out (take i n.nodes) ++ record_bytes (node (get_or n.nodes i (input 0))) ≡ nodes_out (take (i + 1) n.nodes)
unfolding nodes_out
nodes_more n i h = rw (add-one, take-suc n.nodes i (input 0) h, nodes_append, append-nil)

-- all the node records that an open block's state counts are loaded, and the block is its netlist by value
pub open_block : {n : Netlist} {state : State} {records : List NodeRecord} {work : List ℕ} → IsOpen n state records work
    → state.count ≤ most_nodes → (loaded_from state state.count records).block ≡ flat_of n
open_block opened few = rw (min-eq_left few) at (loaded_flat opened)

-- a value beyond the limits is no netlist's
pub beyond : {value : Value.Netlist} (n : Netlist) → WellFormed n → value ≡ flat_of n → (most_variables < value.variables) ⊎ ((value.variables ≤ most_variables) × (most_nodes < value.count)) → ⊥
beyond n w e (inl many) = omega (arith, value_variables n e, w.few_variables)
beyond n w e (inr many) = omega (arith, value_count n e, w.few_nodes)
