-- Document 01, "Rules for the two families", its paragraph on the lent slices: what both hold at exit, node records
-- with their marks (change request A6), and with them the checker's reply. Assumes nothing.
use Rattle.std.specs.Prelude.{ℕ, zero, suc, ◌+◌, ◌*◌, ◌≡◌, List, [], ◌∷◌, ◌++◌, map, length, get_or, take, drop}
use Rattle.std.proofs.Math.Option.{Option, none, some}
use Rattle.rules.specs.declared.Node.{Node}
use Rattle.rules.specs.declared.NodeRecord.{NodeRecord}
use Rattle.rules.specs.Lists.{digit, member, tabulate}
use Rattle.rules.specs.Records.{Cell, input, Netlist, kind_of, operands, set_of}
use Rattle.rules.specs.Families.{Family, Families, families, layer_marks, Finding, lowest, Findings, findings}
use Rattle.rules.specs.Checks.{Outcome, answered, refused, and_then, admitted}

-- An entry holds the kind, the first and second operand (0 where the kind has none) and an input's
-- set (0 for every other kind),
abbrev pub node_of : (kind : ℕ) (operands : List ℕ) (set : ℕ) → Node
node_of kind operands set = record { kind = kind; first = get_or operands 0 0; second = get_or operands 1 0; set = set }

unfoldable pub entry : Cell → Node
entry cell = node_of (kind_of cell) (operands cell) (set_of cell)

-- and what the node reports in each layer. A mark is the number of the set, and 0 for none: the empty set is never
-- suspect, so that no node reports set 0 (`rule_laws`: `Marks`).
unfoldable pub mark_number : Option ℕ → ℕ
mark_number none = 0
mark_number (some A) = A

unfoldable pub node_record : Cell → (settled glitch : Option ℕ) → NodeRecord
node_record cell settled glitch = record { node = entry cell; settled = mark_number settled; glitch = mark_number glitch }

-- one entry a node, of its cell and what it reports
unfoldable pub node_records : Netlist → List NodeRecord
node_records n =
    tabulate
    (λ i. node_record (get_or n.nodes i (input 0)) (get_or (layer_marks (λ F. F.settled) n) i none)
    (get_or (layer_marks (λ F. F.glitch) n) i none))
    (length n.nodes)

-- a byte's worth of a family: its lowest bit is for the set A, and n bits in all
unfoldable pub packed : Family → (A n : ℕ) → ℕ
packed F A zero = 0
packed F A (suc n) = digit (member A F) + 2 * packed F (A + 1) n

-- a family in 128 bytes: set A is bit A mod 8 of byte A / 8
unfoldable pub family_bytes : Family → List ℕ
family_bytes F = tabulate (λ j. packed F (8 * j) 8) 128

-- 256 bytes a node: 128 for the settled family, then 128 for the glitch family
unfoldable pub node_bytes : Families → List ℕ
node_bytes F = family_bytes F.settled ++ family_bytes F.glitch

unfoldable pub work_bytes : List Families → List ℕ
work_bytes [] = []
work_bytes (F ∷ Fs) = node_bytes F ++ work_bytes Fs

-- what a slice holds at exit: what an answer writes, and beyond that what stood there; on a refusal what stood there
unfoldable pub filled {ℓ} : {A : Type ℓ} → (Netlist → List A) → Outcome Netlist → (before : List A) → List A
filled f (refused k p) before = before
filled f (answered n) before = f n ++ drop (length (f n)) before

-- the slice of node records at exit, which held `before`, where the work slice has `work` bytes
unfoldable pub nodes_after : List ℕ → (before : List NodeRecord) → (work : ℕ) → List NodeRecord
nodes_after bytes before work = filled node_records (admitted bytes (length before) work) before

-- the work slice at exit, which held `before`, where there are so many node records
unfoldable pub work_after : List ℕ → (entries : ℕ) → (before : List ℕ) → List ℕ
work_after bytes entries before = filled (λ n. work_bytes (families n)) (admitted bytes entries (length before)) before

-- the checker's reply, for slices of so many entries and so many work bytes
unfoldable pub reply : List ℕ → (entries work : ℕ) → Outcome Findings
reply bytes entries work = and_then (admitted bytes entries work) (λ n. answered (findings n))

-- ---- the answer from the marks

-- what a mark in a record says
unfoldable pub mark_of : ℕ → Option ℕ
mark_of zero = none
mark_of (suc A) = some (suc A)

-- what a layer's marks in so many node records say: the lowest marked node with its mark, or clear where there is none
unfoldable pub lowest_marked : (NodeRecord → ℕ) → (count : ℕ) → List NodeRecord → Finding
lowest_marked layer count nodes = lowest 0 (map mark_of (map layer (take count nodes)))

-- each half of an answer is the lowest marked node of its layer with its mark, in the node records of so many nodes
pub record FromMarks (answer : Findings) (nodes : List NodeRecord) : Type 0 where
  pub settled : answer.settled ≡ lowest_marked (λ r. r.settled) answer.nodes nodes
  pub glitch : answer.glitch ≡ lowest_marked (λ r. r.glitch) answer.nodes nodes
