-- The lines of a text from a place on, as a loop takes them: one that a scan finds, and those behind it.
-- Assumes nothing.
use Prim.Native.Nat.{ℕ, ◌+◌, ◌-◌, ◌≤◌, ◌<◌}
use mathlib.Core.Path.{◌≡◌, refl, ◌∙◌}
use mathlib.Core.Bool.{Bool, true, false}
use mathlib.Core.List.{List, [], ◌∷◌, ◌++◌, append-nil, append_assoc}
use native.Mathlib.Omega.{arith}
use native.Mathlib.Numerals.{add-one}
use lib.Dec.{eqb}
use lib.ListN.{length, take, drop, length-append, length-drop}
use lib.Seq.{drop-drop}
use Rattle.std.specs.List.{position_or_len}
use Rattle.scanner.specs.Scans.{NextLine}
use Rattle.scanner.proofs.Scans.{one_add}
use Rattle.scanner.specs.Words.{closed, lines_behind, lines_of}

abbrev pub line_feed : ℕ → Bool
line_feed letter = eqb letter 10

-- a line that has begun goes on up to the first line feed
abbrev GoesOn : (begun text : List ℕ) → Type 0
GoesOn begun text =
    let end = position_or_len line_feed text in
    lines_behind begun text ≡ (begun ++ take end text) ∷ lines_of (drop (end + 1) text)

goes_on_at : (begun : List ℕ) (letter : ℕ) (text : List ℕ) → GoesOn (begun ++ (letter ∷ [])) text → (b : Bool) → eqb letter 10 ≡ b
    → GoesOn begun (letter ∷ text)
unfolding lines_behind lines_of
goes_on_at begun letter text more true e = rw (e, append-nil)
goes_on_at begun letter text more false e = rw (e, one_add, add-one) (more ∙ rw (append_assoc, add-one))

goes_on : (text begun : List ℕ) → 0 < length begun + length text → GoesOn begun text
unfolding lines_behind lines_of closed
goes_on [] [] h = absurd (omega arith)
goes_on [] (letter ∷ begun) h = rw append-nil
goes_on (letter ∷ text) begun h =
    goes_on_at begun letter text (goes_on text (begun ++ (letter ∷ [])) (omega (arith, length-append begun (letter ∷ [])))) _ refl

-- the next line, of a text that is scanned from a place on, and what is behind it: nothing, where the scan comes to
-- the end
pub line_found : (text : List ℕ) (at to next : ℕ) → (to ≤ length text) × (to ≡ at + position_or_len line_feed (drop at text)) → at < next
    → next ≤ length text → drop next text ≡ drop (to + 1) text → NextLine text at to next
unfolding lines_of
line_found text at to next (l, e) h k behind =
    let n = position_or_len line_feed (drop at text) in
    let long : to - at ≡ n = omega arith in
    let place : to + 1 ≡ at + (n + 1) = omega arith in
    record {
      ordered = omega arith;
      within = l;
      forward = h;
      inside = k;
      line = goes_on (drop at text) [] (omega (arith, length-drop at text)) ∙ rw (behind, long, place, drop-drop);
    }
