-- What the words of a line of edits ask for, and whether a comment is stuck to one, as the functions find it.
-- Assumes nothing.
use Prim.Native.Nat.{ℕ, ◌+◌, ◌-◌, ◌≤◌, ◌<◌}
use mathlib.Core.Path.{◌≡◌, refl}
use mathlib.Core.Bool.{Bool, false, not}
use mathlib.Core.List.{List, [], ◌∷◌}
use native.Mathlib.Omega.{arith}
use native.Mathlib.Numerals.{add-one}
use borrow.Author.Tests.{eq-eqb, ne_eqb}
use lib.ListN.{length, get_or, take, drop, length-take, length-drop, drop_of_length-le}
use lib.Seq.{drop-cons}
use Rattle.scanner.specs.Scans.{part}
use Rattle.scanner.specs.Words.{is_blank}
use Rattle.read_words.specs.declared.Fault.{Fault}
use Rattle.read_words.specs.Meaning.{IsRecord}
use Rattle.read_words.specs.Words.{nothing, wrong, record_in}
use Rattle.edit_rules.specs.Edits.{add}
use Rattle.edit_lines.specs.Asks.{changes, writes, no_edit, addition, written, stuck}

-- ---- a record

module _ (behind : List (List ℕ)) where
  pub adds_nothing : record_in behind ≡ nothing → no_edit ≡ addition behind
  unfolding addition
  adds_nothing e = rw (e, addition)

  pub adds_wrong : (fault : Fault) → record_in behind ≡ wrong fault → no_edit ≡ addition behind
  unfolding addition
  adds_wrong fault e = rw (e, addition)

  pub adds_record : (n : ℕ) (bytes : List ℕ) → IsRecord (record_in behind) n bytes → changes (add (take n bytes)) ≡ addition behind
  unfolding addition
  adds_record n bytes r = rw (r.is, addition, r.front)

-- ---- a name

some_name : (name : List ℕ) → 0 < length name → writes name ≡ written name
unfolding written
some_name [] h = absurd (omega arith)
some_name (letter ∷ letters) h = refl

pub writes_part : (line : List ℕ) (from to : ℕ) → from < to → to ≤ length line → writes (part from to line) ≡ written (part from to line)
writes_part line from to some within =
    some_name _ (let long : length (part from to line) ≡ to - from = simp (length-take, length-drop) (omega arith) in omega arith)

-- ---- a comment

module _ (begun : Bool) (line : List ℕ) (k : ℕ) where
  pub stuck_here : k < length line → get_or line k 0 ≡ 35 → stuck begun (drop k line) ≡ begun
  unfolding stuck
  stuck_here h e = rw (drop-cons line k 0, eq-eqb _ _ e)

  pub stuck_on : k < length line → (get_or line k 0 ≡ 35 → ⊥) → stuck begun (drop k line) ≡ stuck (not (is_blank (get_or line k 0))) (drop (k + 1) line)
  unfolding stuck
  stuck_on h e = rw (drop-cons line k 0, ne_eqb _ _ e, add-one)

  pub stuck_end : length line ≤ k → stuck begun (drop k line) ≡ false
  unfolding stuck
  stuck_end h = rw (drop_of_length-le line h)
