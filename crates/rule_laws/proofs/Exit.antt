-- The lent slices at exit, entry by entry and bit by bit: the node records, the two families of each node, and beyond
-- them what stood there; on a refusal all that stood there. Both are as long as at entry, since what is written fits,
-- by checks 10 and 11. Assumes nothing.
use Prim.Native.Nat.{ℕ, ◌+◌, ◌*◌, ◌-◌, ◌/◌, ◌%◌, ◌^◌, ◌≤◌, ◌<◌}
use mathlib.Core.Path.{◌≡◌, refl, ap, ap₂, ◌∙◌}
use mathlib.Core.List.{List, []}
use native.Mathlib.Omega.{arith}
use lib.ListN.{length, get_or, drop, length-append, length-drop, get_or-append}
use lib.Seq.{get_or-append-add, get_or-drop}
use Rattle.rules.specs.declared.NodeRecord.{NodeRecord}
use Rattle.rules.specs.Lists.{member}
use Rattle.rules.specs.Records.{input, Netlist, odd, most_sets}
use Rattle.rules.specs.Families.{families_rule, families, families_at, mark}
use Rattle.rules.specs.Checks.{Outcome, answered, refused, admitted}
use Rattle.rules.specs.Slices.{node_record, node_records, work_bytes, filled, nodes_after, work_after}
use Rattle.rule_laws.proofs.Tables.{table_length}
use Rattle.rule_laws.proofs.Room.{admitted_says}
use Rattle.rule_laws.proofs.Packing.{tabulate_length, tabulate_at, work_length, settled_bit, glitch_bit}
use Rattle.rule_laws.proofs.Halves.{layer_mark}

-- ---- a slice that an answer fills and a refusal keeps

module _ {ℓ} {A : Type ℓ} (f : Netlist → List A) (before : List A) where
  filled_refused : (o : Outcome Netlist) (k p : ℕ) → o ≡ refused k p → filled f o before ≡ before
  unfolding filled
  filled_refused o k p e = rw e

  filled_front : (o : Outcome Netlist) (n : Netlist) → o ≡ answered n → (j : ℕ) (d : A) → j < length (f n)
      → get_or (filled f o before) j d ≡ get_or (f n) j d
  unfolding filled
  filled_front o n e j d h = rw e (get_or-append (f n) (drop (length (f n)) before) d j h)

  filled_beyond : (o : Outcome Netlist) (n : Netlist) → o ≡ answered n → (j : ℕ) (d : A) → length (f n) ≤ j
      → get_or (filled f o before) j d ≡ get_or before j d
  unfolding filled
  filled_beyond o n e j d h =
      let over : length (f n) + (j - length (f n)) ≡ j = omega arith in
      rw (e, ← over) (get_or-append-add (f n) (drop (length (f n)) before) _ d ∙ get_or-drop (length (f n)) before _ d)

  filled_length : (o : Outcome Netlist) → ((n : Netlist) → o ≡ answered n → length (f n) ≤ length before) → length (filled f o before) ≡ length before
  unfolding filled
  filled_length (refused k p) fits = refl
  filled_length (answered n) fits = simp (length-append, length-drop) (omega (arith, fits n refl))

-- ---- the node records

-- one entry a node
pub records_length : (n : Netlist) → length (node_records n) ≡ length n.nodes
unfolding node_records
records_length n = tabulate_length _ (length n.nodes)

module _ (bytes : List ℕ) (before : List NodeRecord) (work : ℕ) where
  pub nodes_refused : (k p : ℕ) → admitted bytes (length before) work ≡ refused k p → nodes_after bytes before work ≡ before
  unfolding nodes_after
  nodes_refused k p e = filled_refused _ before (admitted bytes (length before) work) k p e

  -- each is that of the node's cell and of what it reports in each layer
  pub nodes_written : (n : Netlist) → admitted bytes (length before) work ≡ answered n → (i : ℕ) (d : NodeRecord) → i < length n.nodes
      → get_or (nodes_after bytes before work) i d
      ≡ node_record (get_or n.nodes i (input 0))
      (mark n.variables (get_or n.nodes i (input 0)) (families_at n i).settled)
      (mark n.variables (get_or n.nodes i (input 0)) (families_at n i).glitch)
  unfolding nodes_after node_records
  nodes_written n e i d h =
      filled_front _ before (admitted bytes (length before) work) n e i d (omega (arith, records_length n))
      ∙ tabulate_at _ (length n.nodes) i d h
      ∙ ap₂ (node_record (get_or n.nodes i (input 0))) (layer_mark (λ F. F.settled) n i) (layer_mark (λ F. F.glitch) n i)

  -- entries beyond these keep their contents
  pub nodes_beyond : (n : Netlist) → admitted bytes (length before) work ≡ answered n → (i : ℕ) (d : NodeRecord) → length n.nodes ≤ i
      → get_or (nodes_after bytes before work) i d ≡ get_or before i d
  unfolding nodes_after
  nodes_beyond n e i d h = filled_beyond _ before (admitted bytes (length before) work) n e i d (omega (arith, records_length n))

  pub nodes_after_length : length (nodes_after bytes before work) ≡ length before
  unfolding nodes_after
  nodes_after_length =
      filled_length _ before (admitted bytes (length before) work)
      (λ n e. omega (arith, records_length n, (admitted_says bytes (length before) work n e).room.enough_entries))

-- ---- the work slice

pub families_length : (n : Netlist) → length (families n) ≡ length n.nodes
unfolding families
families_length n = omega (arith, table_length families_rule [] n.nodes)

-- 256 bytes a node
all_bytes : (n : Netlist) → length (work_bytes (families n)) ≡ 256 * length n.nodes
all_bytes n = omega (arith, work_length (families n), families_length n)

module _ (bytes : List ℕ) (entries : ℕ) (before : List ℕ) where
  pub work_refused : (k p : ℕ) → admitted bytes entries (length before) ≡ refused k p → work_after bytes entries before ≡ before
  unfolding work_after
  work_refused k p e = filled_refused _ before (admitted bytes entries (length before)) k p e

  written_byte : (n : Netlist) → admitted bytes entries (length before) ≡ answered n → (j : ℕ) → j < 256 * length n.nodes
      → get_or (work_after bytes entries before) j 0 ≡ get_or (work_bytes (families n)) j 0
  unfolding work_after
  written_byte n e j h = filled_front _ before (admitted bytes entries (length before)) n e j 0 (omega (arith, all_bytes n))

  -- set A of node i is bit A mod 8 of byte 256 × i + A / 8 for the settled family, and 128 bytes
  -- further for the glitch family
  pub work_settled : (n : Netlist) → admitted bytes entries (length before) ≡ answered n → (i A : ℕ) → i < length n.nodes → A < most_sets
      → odd (get_or (work_after bytes entries before) (256 * i + A / 8) 0 / 2 ^ (A % 8)) ≡ member A (families_at n i).settled
  unfolding families_at
  work_settled n e i A h l =
      ap (λ (b : ℕ). odd (b / 2 ^ (A % 8))) (written_byte n e (256 * i + A / 8) (omega arith))
      ∙ settled_bit (families n) i A (omega (arith, families_length n)) l

  pub work_glitch : (n : Netlist) → admitted bytes entries (length before) ≡ answered n → (i A : ℕ) → i < length n.nodes → A < most_sets
      → odd (get_or (work_after bytes entries before) (256 * i + 128 + A / 8) 0 / 2 ^ (A % 8)) ≡ member A (families_at n i).glitch
  unfolding families_at
  work_glitch n e i A h l =
      ap (λ (b : ℕ). odd (b / 2 ^ (A % 8))) (written_byte n e (256 * i + 128 + A / 8) (omega arith))
      ∙ glitch_bit (families n) i A (omega (arith, families_length n)) l

  -- bytes beyond these keep their contents
  pub work_beyond : (n : Netlist) → admitted bytes entries (length before) ≡ answered n → (j : ℕ) → 256 * length n.nodes ≤ j
      → get_or (work_after bytes entries before) j 0 ≡ get_or before j 0
  unfolding work_after
  work_beyond n e j h = filled_beyond _ before (admitted bytes entries (length before)) n e j 0 (omega (arith, all_bytes n))

  pub work_after_length : length (work_after bytes entries before) ≡ length before
  unfolding work_after
  work_after_length =
      filled_length _ before (admitted bytes entries (length before))
      (λ n e. omega (arith, all_bytes n, (admitted_says bytes entries (length before) n e).room.enough_work))
