-- The marks of node records (change request A6): no node reports the empty set, so that a mark of 0 says none and
-- nothing else does; the marks of a layer are what its nodes report; and each half of the answer is the lowest marked
-- node of its layer with its mark. Assumes nothing.
use Prim.Native.Nat.{ℕ, zero, suc}
use mathlib.Core.Path.{◌≡◌, refl, sym, ap, ◌∙◌}
use mathlib.Core.Bool.{Bool, true, false, not, cond, not-not}
use mathlib.Core.List.{List, [], ◌∷◌, map}
use mathlib.Core.Option.{Option, none, some}
use native.Mathlib.Omega.{arith}
use lib.Dec.{eqb}
use lib.ListN.{length, get_or, take, drop, length-map, get_or-map}
use lib.Seq.{take-append_seam, ext_get_or}
use Rattle.rules.specs.declared.NodeRecord.{NodeRecord}
use Rattle.rules.specs.Records.{Class, secret, Cell, input, Netlist, kind_of}
use Rattle.rules.specs.Families.{Family, Families, families, families_at, holds, suspect, tested, reported, mark, marks, layer_marks, lowest, half, findings}
use Rattle.rules.specs.Checks.{answered, admitted}
use Rattle.rules.specs.Slices.{entry, mark_number, mark_of, node_record, node_records, filled, nodes_after, lowest_marked, FromMarks}
use Rattle.rule_laws.proofs.Halves.{reported_exactly, layer_mark}
use Rattle.rule_laws.proofs.Packing.{tabulate_made}
use Rattle.rule_laws.proofs.Exit.{families_length, records_length}

-- ---- none is told from every set

holds_nothing : (class : Class) (variables : List Class) → holds class variables 0 ≡ false
unfolding holds
holds_nothing class [] = refl
holds_nothing class (c ∷ variables) = holds_nothing class variables

-- the empty set holds no secret
pub empty_not_suspect : (variables : List Class) → suspect variables 0 ≡ false
unfolding suspect
empty_not_suspect variables = rw (holds_nothing secret variables)

-- marks written and read, at any number
pub mark_written : (reports : List (Option ℕ)) (i : ℕ) → get_or (map mark_number reports) i 0 ≡ mark_number (get_or reports i none)
unfolding mark_number
mark_written reports i = get_or-map mark_number reports i none

pub mark_read : (marks : List ℕ) (i : ℕ) → get_or (map mark_of marks) i none ≡ mark_of (get_or marks i 0)
unfolding mark_of
mark_read marks i = get_or-map mark_of marks i 0

-- so that what a family reports is told by its number, none among it
reported_told : (variables : List Class) (F : Family) (o : Option ℕ) → reported variables F ≡ o → mark_of (mark_number o) ≡ o
unfolding mark_of mark_number
reported_told variables F none e = refl
reported_told variables F (some zero) e = absurd (rw (empty_not_suspect variables) at ((reported_exactly variables F 0).0 e).is_suspect)
reported_told variables F (some (suc A)) e = refl

-- and so is what a node does
pub mark_told : (variables : List Class) (cell : Cell) (F : Family) → mark_of (mark_number (mark variables cell F)) ≡ mark variables cell F
unfolding mark
mark_told variables cell F = go (tested cell)
  where
    go : (b : Bool) → mark_of (mark_number (cond b (reported variables F) none)) ≡ cond b (reported variables F) none
    go true = reported_told variables F (reported variables F) refl
    go false = unfold mark_of mark_number in refl

-- kind 2 is not tested, and every other is
pub tested_kind : (cell : Cell) → eqb (kind_of cell) 2 ≡ not (tested cell)
unfolding tested
tested_kind cell = sym (not-not (eqb (kind_of cell) 2))

-- ---- the marks of a layer

pub marks_length : (variables : List Class) (cells : List Cell) (Fs : List Family) → length cells ≡ length Fs → length (marks variables cells Fs) ≡ length cells
unfolding marks
marks_length variables [] Fs e = refl
marks_length variables (c ∷ cells) [] e = absurd (omega arith)
marks_length variables (c ∷ cells) (F ∷ Fs) e = ap suc (marks_length variables cells Fs (omega arith))

pub layer_marks_length : (layer : Families → Family) (n : Netlist) → length (layer_marks layer n) ≡ length n.nodes
unfolding layer_marks
layer_marks_length layer n =
    marks_length n.variables n.nodes (map layer (families n)) (omega (arith, length-map (families n) layer, families_length n))

-- their numbers tell them
pub marks_told : (layer : Families → Family) (n : Netlist) → map mark_of (map mark_number (layer_marks layer n)) ≡ layer_marks layer n
marks_told layer n =
    ext_get_or none (map mark_of (map mark_number (layer_marks layer n))) (layer_marks layer n)
    (length-map (map mark_number (layer_marks layer n)) mark_of ∙ length-map (layer_marks layer n) mark_number) (λ i h.
    mark_read (map mark_number (layer_marks layer n)) i
    ∙ ap mark_of (mark_written (layer_marks layer n) i)
    ∙ rw (layer_mark layer n i) (mark_told n.variables (get_or n.nodes i (input 0)) (layer (families_at n i))))

-- ---- the node records, field by field

pub record_nodes : (n : Netlist) → map (λ r. r.node) (node_records n) ≡ map entry n.nodes
unfolding node_records node_record
record_nodes n = tabulate_made (λ r. r.node) _ entry n.nodes (input 0) refl (λ i. refl)

pub record_settled : (n : Netlist) → map (λ r. r.settled) (node_records n) ≡ map mark_number (layer_marks (λ F. F.settled) n)
unfolding node_records node_record
record_settled n = tabulate_made (λ r. r.settled) _ mark_number (layer_marks (λ F. F.settled) n) none (layer_marks_length (λ F. F.settled) n) (λ i. refl)

pub record_glitch : (n : Netlist) → map (λ r. r.glitch) (node_records n) ≡ map mark_number (layer_marks (λ F. F.glitch) n)
unfolding node_records node_record
record_glitch n = tabulate_made (λ r. r.glitch) _ mark_number (layer_marks (λ F. F.glitch) n) none (layer_marks_length (λ F. F.glitch) n) (λ i. refl)

-- the slice that a check leaves, where it refuses nothing, has them at its front
pub checked_records : (bytes : List ℕ) (before : List NodeRecord) (work : ℕ) (n : Netlist) → admitted bytes (length before) work ≡ answered n
    → take (length n.nodes) (nodes_after bytes before work) ≡ node_records n
unfolding nodes_after filled
checked_records bytes before work n e =
    rw (e, ← records_length n) (take-append_seam (node_records n) (drop (length (node_records n)) before))

-- ---- each half is the lowest marked node of its layer with its mark

-- where a slice holds the node records of a netlist at its front
pub from_marks : (n : Netlist) (nodes : List NodeRecord) → take (length n.nodes) nodes ≡ node_records n → FromMarks (findings n) nodes
unfolding findings half lowest_marked
from_marks n nodes e = record {
  settled = ap (lowest 0) (sym (rw e (ap (map mark_of) (record_settled n) ∙ marks_told (λ F. F.settled) n)));
  glitch = ap (lowest 0) (sym (rw e (ap (map mark_of) (record_glitch n) ∙ marks_told (λ F. F.glitch) n)));
}

-- as the slice of a check does that refuses nothing
pub checked_marks : (bytes : List ℕ) (before : List NodeRecord) (work : ℕ) (n : Netlist) → admitted bytes (length before) work ≡ answered n
    → FromMarks (findings n) (nodes_after bytes before work)
checked_marks bytes before work n e = from_marks n (nodes_after bytes before work) (checked_records bytes before work n e)
