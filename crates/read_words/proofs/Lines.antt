-- The block that the lines of a text say so far, as a loop takes them. Assumes nothing.
use Prim.Native.Nat.{ℕ, ◌+◌, ◌≤◌, min, max}
use mathlib.Core.Path.{◌≡◌, refl, ap, ◌∙◌}
use mathlib.Core.List.{List, [], ◌∷◌, ◌++◌}
use native.Mathlib.Numerals.{add-one}
use native.Mathlib.Omega.{arith}
use lib.ListN.{length, take, drop, set, length-append, drop_of_length-le}
use lib.Seq.{sets, length-sets}
use Rattle.rules.specs.Records.{Record, record_bytes}
use Rattle.scanner.specs.Words.{closed, lines_behind, lines_of, words}
use Rattle.read_words.specs.declared.Fault.{Fault}
use Rattle.read_words.specs.Words.{nothing, says, wrong, record_in, wrong_in, block_behind, block_in}
use Rattle.read_words.specs.Meaning.{IsRecord, stored, IsBlock, IsWrong}
use Rattle.read_words.proofs.Stores.{sets_cut, sets_front, sets_next}

module _ (bytes lines : List ℕ) (k : ℕ) (this : List ℕ) (rest : List (List ℕ)) where
  by_nothing : record_in (words this) ≡ nothing → block_behind bytes lines k (this ∷ rest) ≡ block_behind bytes lines (k + 1) rest
  unfolding block_behind
  by_nothing e = rw (add-one, e, block_behind)

  by_record : (r : Record) → record_in (words this) ≡ says r
      → block_behind bytes lines k (this ∷ rest) ≡ block_behind (bytes ++ record_bytes r) (set lines (length bytes) k) (k + 1) rest
  unfolding block_behind
  by_record r e = rw (add-one, e, block_behind)

  by_wrong : (fault : Fault) → record_in (words this) ≡ wrong fault → block_behind bytes lines k (this ∷ rest) ≡ wrong_in fault k bytes lines
  unfolding block_behind
  by_wrong fault e = rw (e, block_behind)

-- What the text says is said by the bytes and lines so far and the lines from `at` on. These bytes are stored at
-- the front, as far as there is room.
pub record Reached (text had before bytes lines : List ℕ) (count line at : ℕ) : Type 0 where
  pub own : List ℕ
  pub so_far : block_in text before ≡ block_behind own lines (line + 1) (lines_of (drop at text))
  pub kept : count ≡ min (length own) 1024
  pub held : bytes ≡ sets had 0 own
  pub passed : length (lines_of text) ≡ line + length (lines_of (drop at text))

pub reached_first : (text before bytes : List ℕ) → Reached text bytes before bytes before 0 0 0
unfolding block_in
reached_first text before bytes = record { own = []; so_far = refl; kept = refl; held = refl; passed = omega arith }

module _ {text had before bytes lines : List ℕ} {count line at : ℕ} (r : Reached text had before bytes lines count line at) where
  -- the bytes so far, as they stand in the array
  stored_so_far : bytes ≡ stored r.own had
  stored_so_far = r.held ∙ sets_front had r.own

  -- the end of the text
  pub reached_last : length text ≤ at → IsBlock (block_in text before) text count (max line 1) had bytes lines
  unfolding block_behind lines_of lines_behind closed
  reached_last h =
      let none : lines_of (drop at text) ≡ [] = ap lines_of (drop_of_length-le text h) in
      let all = ap length none in
      record {
        own = r.own;
        is = r.so_far ∙ ap (block_behind r.own lines (line + 1)) none;
        kept = r.kept;
        held = stored_so_far;
        all_lines = omega (arith, r.passed);
      }

  -- one line more
  said : (this : List ℕ) (rest : List (List ℕ)) → lines_of (drop at text) ≡ this ∷ rest
      → block_in text before ≡ block_behind r.own lines (line + 1) (this ∷ rest)
  said this rest found = r.so_far ∙ ap (block_behind r.own lines (line + 1)) found

  pub reached_wrong : (this : List ℕ) (rest : List (List ℕ)) (fault : Fault) → lines_of (drop at text) ≡ this ∷ rest
      → record_in (words this) ≡ wrong fault → IsWrong (block_in text before) fault (line + 1) had bytes lines
  reached_wrong this rest fault found e = record { own = r.own; is = said this rest found ∙ by_wrong _ _ _ _ _ fault e; held = stored_so_far }

  module _ (this : List ℕ) (next : ℕ) (found : lines_of (drop at text) ≡ this ∷ lines_of (drop next text)) where
    one_passed : length (lines_of text) ≡ line + 1 + length (lines_of (drop next text))
    one_passed = omega (arith, r.passed, ap length found)

    pub reached_nothing : record_in (words this) ≡ nothing → Reached text had before bytes lines count (line + 1) next
    reached_nothing e = record {
      own = r.own;
      so_far = said _ _ found ∙ by_nothing _ _ _ _ _ e;
      kept = r.kept;
      held = r.held;
      passed = one_passed;
    }

    pub reached_record : (n : ℕ) (stored : List ℕ) → IsRecord (record_in (words this)) n stored → length bytes ≡ 1024 → length lines ≡ 1024
        → Reached text had before (sets bytes count (take n stored)) (set lines count (line + 1)) (min (count + n) (length bytes)) (line + 1) next
    reached_record n stored it full-bytes full-lines =
        let own = r.own in
        let more = record_bytes it.own in
        let place : set lines count (line + 1) ≡ set lines (length own) (line + 1) =
        rw (r.kept, ← full-lines) (sets_cut lines (length own) ((line + 1) ∷ [])) in
        let same_room : length had ≡ 1024 = omega (arith, ap length r.held, length-sets had 0 own) in
        record {
          own = own ++ more;
          so_far = said _ _ found ∙ by_record _ _ _ _ _ it.own it.is ∙ rw place;
          kept = omega (arith, r.kept, it.long, length-append own more);
          held = rw (it.front, r.held) (sets_next had own more count (rw same_room r.kept));
          passed = one_passed;
        }
