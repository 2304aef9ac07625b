-- `edits::loaded_by` meets its contract. The loop's invariant: each array has the field of so many of the records,
-- and zeros beyond them. Assumes nothing.
use mathlib.Core.Path.{◌≡◌}
use Rattle.netlists.specs.Netlists.{blank}
use Rattle.edits.specs.Edited.{column}
use Rattle.edits.proofs.loaded_by.Given as goal

abbrev pub invariant-loop-i : goal.invariant-loop-i
invariant-loop-i l =
    (l.nodes ≡ column blank (λ r. r.node) l.i l.records) × (l.settled ≡ column 0 (λ r. r.settled) l.i l.records) × (l.glitch ≡ column 0 (λ r. r.glitch) l.i l.records)
