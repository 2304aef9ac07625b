-- The listing's lines node by node, which is how they are written: those of the first nodes, and one line more;
-- and what the lines of the halves report. By induction on the nodes, and by the entries of the table of families.
-- Assumes nothing.
use Prim.Native.Nat.{ℕ, suc, ◌+◌, ◌<◌}
use mathlib.Core.Path.{◌≡◌, refl, sym, ◌∙◌}
use mathlib.Core.List.{List, [], ◌∷◌, ◌++◌, append-nil, append_assoc}
use native.Mathlib.Nat.{add-zero, add-suc, suc-add, zero-add}
use native.Mathlib.Numerals.{add-one}
use native.Mathlib.Omega.{arith}
use lib.ListN.{length, get_or, take}
use lib.Seq.{take-suc, take-length, take_all, length-take-le}
use Rattle.rules.specs.Records.{Cell, input, Netlist, WellFormed, most_sets}
use Rattle.rules.specs.Families.{Family, Families, constant, families, families_at, suspect_at, half, findings}
use Rattle.rules.specs.Listing.{decimal, line, kind_name, node_lines}
use Rattle.rule_laws.proofs.Members.{All}
use Rattle.rule_laws.proofs.Exit.{families_length}
use Rattle.rule_laws.proofs.Bounds.{families_small}
use Rattle.rule_laws.proofs.Halves.{half_suspect}

-- the line of node i
abbrev node_line : (i : ℕ) → Cell → Families → List ℕ
node_line i c F = line (decimal i ∷ kind_name c ∷ decimal (length F.settled) ∷ decimal (length F.glitch) ∷ [])

-- one node more
node_lines_snoc : (i : ℕ) (cells : List Cell) (Fs : List Families) (c : Cell) (F : Families) → length cells ≡ length Fs
    → node_lines i (cells ++ (c ∷ [])) (Fs ++ (F ∷ [])) ≡ node_lines i cells Fs ++ node_line (i + length cells) c F
unfolding node_lines
node_lines_snoc i [] [] c F e = rw (add-zero i) (append-nil (node_line i c F))
node_lines_snoc i [] (G ∷ Fs) c F e = absurd (omega arith)
node_lines_snoc i (b ∷ cells) [] c F e = absurd (omega arith)
node_lines_snoc i (b ∷ cells) (G ∷ Fs) c F e =
    rw (node_lines_snoc (suc i) cells Fs c F (omega arith), suc-add i (length cells), add-suc i (length cells), append_assoc)

-- ---- those of a netlist

module _ (n : Netlist) where
  -- the lines of the first i nodes
  unfoldable pub first_lines : ℕ → List ℕ
  first_lines i = node_lines 0 (take i n.nodes) (take i (families n))

  pub first_none : first_lines 0 ≡ []
  unfolding first_lines node_lines
  first_none = refl

  pub first_more : (i : ℕ) → i < length n.nodes → first_lines (i + 1) ≡ first_lines i ++ node_line i (get_or n.nodes i (input 0)) (families_at n i)
  unfolding first_lines families_at
  first_more i h =
      let l : i < length (families n) = omega (arith, families_length n) in
      let cells = length-take-le i n.nodes (omega arith) in
      let Fs = length-take-le i (families n) (omega arith) in
      rw (add-one i, take-suc n.nodes i (input 0) h, take-suc (families n) i constant l)
      (node_lines_snoc 0 (take i n.nodes) (take i (families n)) _ _ (cells ∙ sym Fs) ∙ rw (cells, zero-add i))

  pub first_all : first_lines (length n.nodes) ≡ node_lines 0 n.nodes (families n)
  unfolding first_lines
  first_all = rw (take-length n.nodes, take_all (length n.nodes) (families n) (omega (arith, families_length n)))

-- ---- what the lines of the halves report

-- a half reports a node of the netlist, and a set that is as small as all sets of the families are
half_names : (layer : Families → Family) (n : Netlist) (k : ℕ) → ((i : ℕ) → All (λ A. A < k) (layer (families_at n i)))
    → (i A : ℕ) → half layer n ≡ suspect_at i A → (i < length n.nodes) × (A < k)
half_names layer n k small i A e =
    let names = half_suspect layer n i A e in (names.tested_node.there, small i A names.in_family)

-- so of one that obeys the record rules a set below `most_sets`
module _ (n : Netlist) (formed : WellFormed n) (i A : ℕ) where
  pub settled_names : (findings n).settled ≡ suspect_at i A → (i < length n.nodes) × (A < most_sets)
  unfolding findings
  settled_names = half_names (λ F. F.settled) n most_sets (λ j. (families_small n formed j).0) i A

  pub glitch_names : (findings n).glitch ≡ suspect_at i A → (i < length n.nodes) × (A < most_sets)
  unfolding findings
  glitch_names = half_names (λ F. F.glitch) n most_sets (λ j. (families_small n formed j).1) i A
