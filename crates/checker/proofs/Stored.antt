-- The records that are stored at the front of a slice: where the netlist and the marks by value are a
-- netlist's, they are its node records, and so the slice holds what the rules say it holds at exit.
-- By recursion on the number of records. Assumes nothing.
use Prim.Native.Nat.{ℕ, zero, suc, ◌+◌, ◌≤◌, ◌<◌, zero-le}
use mathlib.Core.Path.{◌≡◌, refl, sym, ◌∙◌, ap}
use mathlib.Core.List.{List, ◌++◌}
use mathlib.Core.Option.{none}
use native.Mathlib.Omega.{arith}
use native.Mathlib.Numerals.{add-one}
use lib.ListN.{length, get_or, drop, set, length-set}
use lib.Seq.{drop-cons, set_at, append_snoc}
use Rattle.std.specs.Prelude.{Ok, Err}
use Rattle.rules.specs.declared.Refusal.{Refusal}
use Rattle.rules.specs.declared.NodeRecord.{NodeRecord}
use Rattle.rules.specs.Lists.{tabulate}
use Rattle.rules.specs.Records.{input, Netlist, empty, most_nodes}
use Rattle.rules.specs.Families.{layer_marks, findings}
use Rattle.rules.specs.Slices.{node_record, node_records, filled, nodes_after, reply}
use Rattle.rules.specs.Checks.{Outcome, answered, refused, and_then, admitted}
use Rattle.rule_laws.proofs.Packing.{tabulate_length, tabulate_same}
use Rattle.rule_laws.proofs.Exit.{records_length}
use Rattle.rule_laws.proofs.Reading.{read_well_formed}
use Rattle.rule_laws.proofs.Room.{admitted_says}
use Rattle.netlists.specs.Netlists.{flat_of, kept}
use Rattle.netlists.proofs.Netlists.{flat_entry_at, value_count}
use Rattle.marks.specs.Marks.{marks_in, marks_of}
use Rattle.marks.proofs.Layers.{flat_at}
use Rattle.checker.specs.declared.Examined.{Examined}
use Rattle.checker.specs.Work.{replied, record_in, unwritten, stored}

module _ (records : ℕ → NodeRecord) (before : List NodeRecord) where
  pub stored_none : stored records before 0 ≡ before
  unfolding stored
  stored_none = refl

  pub stored_more : (k : ℕ) → stored records before (k + 1) ≡ set (stored records before k) k (records k)
  unfolding stored
  stored_more k = rw (add-one k)

  pub stored_length : (k : ℕ) → length (stored records before k) ≡ length before
  unfolding stored
  stored_length zero = refl
  stored_length (suc k) = length-set (stored records before k) k (records k) ∙ stored_length k

  pub stored_front : (k : ℕ) → k ≤ length before → stored records before k ≡ tabulate records k ++ drop k before
  unfolding stored tabulate
  stored_front zero h = refl
  stored_front (suc k) h =
      rw (stored_front k (omega arith), drop-cons before k unwritten (omega arith))
      (set_at (tabulate records k) (get_or before k unwritten) (drop (suc k) before) (records k) k (tabulate_length records k)
      ∙ sym (append_snoc (tabulate records k) (records k) (drop (suc k) before)))

-- what is examined of a netlist: its own node records
module _ (examined : Examined) (n : Netlist) (is-flat : examined.netlist ≡ flat_of n) (is-marked : examined.marks ≡ marks_of n) where
  record_of_node : (i : ℕ) → i < length n.nodes
      → record_in examined i
      ≡ node_record (get_or n.nodes i (input 0)) (get_or (layer_marks (λ F. F.settled) n) i none) (get_or (layer_marks (λ F. F.glitch) n) i none)
  unfolding node_record marks_of marks_in
  record_of_node i h =
      rw (is-flat, is-marked, flat_entry_at n i h, flat_at (layer_marks (λ F. F.settled) n) i, flat_at (layer_marks (λ F. F.glitch) n) i)

  pub netlist_stored : (before : List NodeRecord) → length n.nodes ≤ length before
      → stored (record_in examined) before examined.netlist.count ≡ node_records n ++ drop (length (node_records n)) before
  unfolding node_records
  netlist_stored before enough =
      rw (value_count n is-flat, records_length n)
      (stored_front (record_in examined) before (length n.nodes) enough
      ∙ ap (λ (rs : List NodeRecord). rs ++ drop (length n.nodes) before) (tabulate_same _ _ (length n.nodes) record_of_node))

-- the count of what is kept
pub kept_fits : (bytes : List ℕ) (entries work : ℕ)
    → ((flat_of (kept (admitted bytes entries work))).count ≤ entries) × ((flat_of (kept (admitted bytes entries work))).count ≤ most_nodes)
unfolding flat_of kept
kept_fits bytes entries work = go (admitted bytes entries work) refl
  where
    go : (o : Outcome Netlist) → admitted bytes entries work ≡ o → ((flat_of (kept o)).count ≤ entries) × ((flat_of (kept o)).count ≤ most_nodes)
    go (answered n) e =
        let says = admitted_says bytes entries work n e in
        (says.room.enough_entries, (read_well_formed bytes n says.is_read).few_nodes)
    go (refused number place) e = (zero-le, zero-le)

-- the slice at exit: where something is examined its records are stored, and on a refusal it is as it was
module _ (bytes : List ℕ) (before : List NodeRecord) (work : ℕ) where
  pub examined_stored : (examined : Examined) → replied (Ok examined) ≡ reply bytes (length before) work
      → examined.netlist ≡ flat_of (kept (admitted bytes (length before) work)) → examined.marks ≡ marks_of (kept (admitted bytes (length before) work))
      → stored (record_in examined) before examined.netlist.count ≡ nodes_after bytes before work
  unfolding kept filled nodes_after node_records tabulate
  examined_stored examined says is-flat is-marked = go (admitted bytes (length before) work) refl is-flat is-marked
    where
      go : (o : Outcome Netlist) → admitted bytes (length before) work ≡ o → examined.netlist ≡ flat_of (kept o) → examined.marks ≡ marks_of (kept o)
          → stored (record_in examined) before examined.netlist.count ≡ filled node_records o before
      go (answered n) e f m = netlist_stored examined n f m before (admitted_says bytes (length before) work n e).room.enough_entries
      go (refused number place) e f m = netlist_stored examined empty f m before zero-le

  pub refused_unstored : (r : Refusal) → replied (Err r) ≡ reply bytes (length before) work → before ≡ nodes_after bytes before work
  unfolding filled nodes_after reply and_then
  refused_unstored r says = go (admitted bytes (length before) work) says
    where
      go : (o : Outcome Netlist) → replied (Err r) ≡ and_then o (λ n. answered (findings n)) → before ≡ filled node_records o before
      go (answered n) e = cc
      go (refused number place) e = refl
