-- What the functions that remove a node share: the node records of a netlist and the bytes of its families,
-- whose entries behind the node's move down over its own, and which are then those of the netlist without the node.
-- Assumes nothing.
use Prim.Native.Nat.{ℕ, zero, suc, ◌+◌, ◌*◌, ◌-◌, ◌≤◌, ◌<◌}
use mathlib.Core.Path.{◌≡◌, sym, ap, ap₂, ◌∙◌}
use mathlib.Core.List.{List, [], ◌∷◌, ◌++◌, map, append_assoc, append-nil}
use native.Mathlib.Omega.{arith}
use lib.ListN.{length, get_or, take, drop, set, length-map, get_or-eq_default}
use lib.Seq.{take-append-add, drop-append-add, drop_at, length-take-le, take-take, take-add}
use Rattle.rules.specs.declared.Node.{Node}
use Rattle.rules.specs.Records.{Cell, input, Netlist, WellFormed, renamed, most_nodes}
use Rattle.rules.specs.Families.{Families, families}
use Rattle.rules.specs.Slices.{entry, node_bytes, work_bytes}
use Rattle.rule_laws.proofs.Operands.{renamed_stays}
use Rattle.rule_laws.proofs.Exit.{families_length}
use Rattle.rule_laws.proofs.Packing.{work_length}
use Rattle.netlists.specs.declared.Netlist as Value
use Rattle.netlists.specs.Netlists.{blank, flat_of}
use Rattle.netlists.proofs.Netlists.{padded_length, padded_same, flat_entry_at, value_variables, value_count}
use Rattle.netlists.proofs.Without.{Becoming, none_done, next_done, all_done}
use Rattle.rules.specs.Lists.{without}
use Rattle.edit_rules.specs.Edits.{lowered, without_node}
use Rattle.edit_parts.specs.Parts.{moved_down}
use Rattle.edit_rules.specs.Edits.{HoldsFamilies}
use Rattle.edit_rules.proofs.Removal.{Other, lowered_low, lowered_high, Unused, removed_length, removed_node, families_removed}

-- ---- node records that move down

-- as many as there may be, and beyond the netlist's nodes all are blank
records_length : (n : Netlist) → length n.nodes ≤ most_nodes → length (flat_of n).nodes ≡ most_nodes
unfolding flat_of
records_length n few = padded_length most_nodes blank (map entry n.nodes) (omega (arith, length-map n.nodes entry))

beyond : (n : Netlist) (k : ℕ) → length n.nodes ≤ k → get_or (flat_of n).nodes k blank ≡ blank
unfolding flat_of
beyond n k h =
    padded_same most_nodes blank (map entry n.nodes) k
    ∙ get_or-eq_default (map entry n.nodes) blank (omega (arith, length-map n.nodes entry))

module _ (n : Netlist) (removed : ℕ) where
  -- the records up to i are those of the netlist without the node
  abbrev pub Moving : List Node → ℕ → Type 0
  Moving = Becoming blank (flat_of n).nodes (flat_of (without_node n removed)).nodes

  module _ (formed : WellFormed n) (there : removed < length n.nodes) where
    one_less : length (without_node n removed).nodes ≡ length n.nodes - 1
    one_less = removed_length n removed ∙ lowered_high removed (length n.nodes) there

    -- each other node's, renumbered
    own : (i k : ℕ) → Other removed i → lowered removed i ≡ k → k < length n.nodes - 1
        → get_or (flat_of (without_node n removed)).nodes k blank ≡ entry (renamed (lowered removed) (get_or n.nodes i (input 0)))
    own i k other follows h =
        flat_entry_at (without_node n removed) k (omega (arith, one_less)) ∙ ap entry (rw follows at (removed_node n removed i other))

    -- those before the node have lower operands, and so stay
    pub none_moved : Moving (flat_of n).nodes removed
    none_moved =
        none_done blank _ _ removed (λ k h.
        flat_entry_at n k (omega arith)
        ∙ sym (own k k (λ e. omega arith) (lowered_low removed k (omega arith)) (omega arith)
        ∙ ap entry (renamed_stays (lowered removed) _ (λ a t. lowered_low removed a (omega (arith, formed.lower k (omega arith) a t))))))

    -- the next moves down, with its operands renumbered
    pub next_moved : (nodes : List Node) (i : ℕ) (e : Node) → removed ≤ i → i + 1 < length n.nodes
        → ((cell : Cell) → get_or nodes (i + 1) blank ≡ entry cell → e ≡ entry (renamed (lowered removed) cell)) → Moving nodes i → Moving (set nodes i e) (i + 1)
    next_moved nodes i e h more made m =
        let down : lowered removed (i + 1) ≡ i = omega (arith, lowered_high removed (i + 1) (omega arith)) in
        next_done blank _ _ nodes i e (omega (arith, records_length n formed.few_nodes, formed.few_nodes))
        (made (get_or n.nodes (i + 1) (input 0)) (m.left (i + 1) (omega arith) ∙ flat_entry_at n (i + 1) more)
        ∙ sym (own (i + 1) i (λ s. omega arith) down (omega arith))) m

    -- once all have moved, and the last is blank, they are those of the netlist without the node
    all_moved : (nodes : List Node) → Moving nodes (length n.nodes - 1) → set nodes (length n.nodes - 1) blank ≡ (flat_of (without_node n removed)).nodes
    all_moved nodes m =
        let few = formed.few_nodes in
        let same = records_length n few in
        let fewer = records_length (without_node n removed) (omega (arith, one_less)) in
        all_done blank _ _ _ (length n.nodes - 1 + 1) (omega arith)
        (λ k h. beyond n k (omega arith) ∙ sym (beyond (without_node n removed) k (omega (arith, one_less))))
        (next_done blank _ _ nodes (length n.nodes - 1) blank (omega arith) (sym (beyond (without_node n removed) _ (omega (arith, one_less)))) m)

-- ---- a block by value

-- all else is as it was, and of each netlist that it is of the records up to i have moved
pub record Reached (block shorter : Value.Netlist) (removed i : ℕ) : Type 0 where
  pub variables : shorter.variables ≡ block.variables
  pub classes : shorter.classes ≡ block.classes
  pub moving : (n : Netlist) → WellFormed n → block ≡ flat_of n → Moving n removed shorter.nodes i

-- with one node less, and the last record blank
abbrev pub shortened : Value.Netlist → (last : ℕ) → Value.Netlist
shortened block last = record { variables = block.variables; count = last; classes = block.classes; nodes = set block.nodes last blank }

pub shortened_formed : (block shorter : Value.Netlist) (removed i : ℕ) → removed < block.count → i ≡ block.count - 1 → Reached block shorter removed i
    → (n : Netlist) → WellFormed n → block ≡ flat_of n → shortened shorter (block.count - 1) ≡ flat_of (without_node n removed)
unfolding flat_of without_node
shortened_formed block shorter removed i there end reached n formed is =
    let count = value_count n is in
    let inside : removed < length n.nodes = omega arith in
    let last : block.count - 1 ≡ length n.nodes - 1 = omega arith in
    let variables : shorter.variables ≡ length n.variables = reached.variables ∙ value_variables n is in
    let fewer : block.count - 1 ≡ length (without_node n removed).nodes = omega (arith, one_less n removed formed inside) in
    let classes : shorter.classes ≡ (flat_of n).classes = reached.classes ∙ ap (λ (t : Value.Netlist). t.classes) is in
    let nodes : set shorter.nodes (block.count - 1) blank ≡ (flat_of (without_node n removed)).nodes =
    rw last (all_moved n removed formed inside shorter.nodes (rw (end, last) at (reached.moving n formed is))) in
    rw (nodes, variables, classes, fewer)

-- ---- families that move down

node_length : (F : Families) → length (node_bytes F) ≡ 256
unfolding work_bytes
node_length F = rw append-nil at (work_length (F ∷ []))

-- the bytes of all families but those of node i
pub work_without : (i : ℕ) (Fs : List Families) → i < length Fs
    → work_bytes (without i Fs) ≡ take (256 * i) (work_bytes Fs) ++ drop (256 * (i + 1)) (work_bytes Fs)
unfolding work_bytes without
work_without zero [] h = absurd (omega arith)
work_without (suc i) [] h = absurd (omega arith)
work_without zero (F ∷ Fs) h = sym (drop_at (node_bytes F) (work_bytes Fs) 256 (node_length F))
work_without (suc i) (F ∷ Fs) h =
    let front : 256 * suc i ≡ length (node_bytes F) + 256 * i = omega (arith, node_length F) in
    let back : 256 * (suc i + 1) ≡ length (node_bytes F) + 256 * (i + 1) = omega (arith, node_length F) in
    rw (front, back, take-append-add (node_bytes F) (work_bytes Fs) (256 * i), drop-append-add (node_bytes F) (work_bytes Fs) (256 * (i + 1)), append_assoc)
    (ap (λ (bytes : List ℕ). node_bytes F ++ bytes) (work_without i Fs (omega arith)))

-- a part of the front
part : (from count : ℕ) (bytes : List ℕ) → from ≤ length bytes → drop from (take (from + count) bytes) ≡ take count (drop from bytes)
part from count bytes h = rw take-add (drop_at (take from bytes) (take count (drop from bytes)) from (length-take-le from bytes h))

-- what moved down is the families of the netlist without the node, and what stands behind them stays
module _ (n : Netlist) (removed : ℕ) (unused : Unused removed n.nodes) (there : removed < length n.nodes)
    (before : List ℕ) (room : 256 * length n.nodes ≤ length before) where
  abbrev new : List ℕ
  new = work_bytes (families (without_node n removed))

  new_length : length new ≡ 256 * (length n.nodes - 1)
  new_length =
      omega (
        arith,
        work_length (families (without_node n removed)),
        families_length (without_node n removed),
        removed_length n removed,
        lowered_high removed (length n.nodes) there,
      )

  pub moved_families : HoldsFamilies n before → moved_down removed (length n.nodes) before ≡ new ++ drop (length new) before
  unfolding moved_down
  moved_families holds = ap₂ {C = List ℕ} (λ x y. x ++ y) (sym kept) (ap (λ (k : ℕ). drop k before) end)
    where
      end : 256 * removed + 256 * (length n.nodes - 1 - removed) ≡ length new
      end = omega (arith, new_length)

      all : 256 * length n.nodes ≡ 256 * (removed + 1) + 256 * (length n.nodes - 1 - removed)
      all = omega arith

      kept : new ≡ take (256 * removed) before ++ take (256 * (length n.nodes - 1 - removed)) (drop (256 * (removed + 1)) before)
      kept =
          rw (families_removed n removed unused, work_without removed (families n) (omega (arith, families_length n)), ← holds)
          (ap₂ {C = List ℕ} (λ x y. x ++ y) (take-take (256 * removed) (256 * length n.nodes) before (omega arith))
          (rw all (part (256 * (removed + 1)) (256 * (length n.nodes - 1 - removed)) before (omega arith))))
