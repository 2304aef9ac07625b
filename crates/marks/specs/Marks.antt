-- Marks by value: of what nodes report, of a netlist, and with those of one node. Cited by this crate's contracts
-- and its callers'. Assumes nothing.
use Rattle.std.specs.Prelude.{ℕ, List, map, set}
use Rattle.std.proofs.Math.Option.{Option}
use Rattle.rules.specs.Records.{Netlist, most_nodes}
use Rattle.rules.specs.Families.{layer_marks}
use Rattle.rules.specs.Slices.{mark_number}
use Rattle.netlists.specs.Netlists.{padded}
use Rattle.marks.specs.declared.Marks.{Marks}

-- the marks of one layer: beyond the nodes all are 0
unfoldable pub flat_marks : List (Option ℕ) → List ℕ
flat_marks reports = padded most_nodes 0 (map mark_number reports)

-- those of both layers
unfoldable pub marks_in : (settled glitch : List (Option ℕ)) → Marks
marks_in settled glitch = record { settled = flat_marks settled; glitch = flat_marks glitch }

-- the marks of a netlist
unfoldable pub marks_of : Netlist → Marks
marks_of n = marks_in (layer_marks (λ F. F.settled) n) (layer_marks (λ F. F.glitch) n)

-- marks with those of node i
abbrev pub with_marks : Marks → (i : ℕ) → (settled glitch : Option ℕ) → Marks
with_marks marks i settled glitch =
    record { settled = set marks.settled i (mark_number settled); glitch = set marks.glitch i (mark_number glitch) }
