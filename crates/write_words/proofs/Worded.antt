-- Lines in words, bit by bit: a line is its word, its numbers with a blank before each, and a line feed;
-- one number more, and one line more, goes behind those before it. Assumes nothing.
use Prim.Native.Nat.{ℕ, ◌+◌, ◌/◌, ◌%◌, ◌^◌, ◌<◌}
use mathlib.Core.Path.{◌≡◌, refl}
use mathlib.Core.List.{List, [], ◌∷◌, ◌++◌, map, map-append, append-nil, append_assoc}
use native.Mathlib.Numerals.{add-one}
use lib.ListN.{length, get_or, take}
use lib.Seq.{take-suc}
use borrow.Author.Tests.{eq-eqb, ne_eqb}
use Rattle.rules.specs.declared.Node.{Node}
use Rattle.rules.specs.Records.{Cell, Record, kind_of}
use Rattle.rules.specs.Listing.{decimal, line}
use Rattle.rules.specs.Slices.{entry}
use Rattle.write_words.specs.Worded.{variables_below, fields, record_line, record_lines}

-- ---- numbers

-- a line of a word and numbers
pub line_fields : (name : List ℕ) (numbers : List ℕ) → (name ++ fields numbers) ++ (10 ∷ []) ≡ line (name ∷ map decimal numbers)
unfolding fields line
line_fields name [] = rw append-nil
line_fields name (x ∷ numbers) = rw (← line_fields (decimal x) numbers) (append_assoc name _ _)

-- one number more
pub fields_more : (numbers : List ℕ) (x : ℕ) → fields numbers ++ (32 ∷ decimal x) ≡ fields (numbers ++ (x ∷ []))
unfolding fields
fields_more [] x = rw append-nil
fields_more (y ∷ numbers) x = rw (append_assoc, fields_more numbers x)

-- the next variable is in the set, or is not
module _ (s i : ℕ) where
  pub held_more : s / 2 ^ i % 2 ≡ 1 → fields (variables_below i s) ++ (32 ∷ decimal i) ≡ fields (variables_below (i + 1) s)
  unfolding variables_below
  held_more e = rw (add-one, variables_below, eq-eqb (s / 2 ^ i % 2) 1 e) (fields_more (variables_below i s) i)

  pub held_same : (s / 2 ^ i % 2 ≡ 1 → ⊥) → fields (variables_below i s) ≡ fields (variables_below (i + 1) s)
  unfolding variables_below
  held_same e = rw (add-one, variables_below, ne_eqb (s / 2 ^ i % 2) 1 e, append-nil)

-- ---- a node

pub kind_of_lem : {n : Node} (cell : Cell) → n ≡ entry cell → n.kind ≡ kind_of cell
unfolding entry
kind_of_lem cell e = rw e

-- ---- lines

pub lines_append : (records more : List Record) → record_lines (records ++ more) ≡ record_lines records ++ record_lines more
unfolding record_lines
lines_append [] more = refl
lines_append (r ∷ records) more = rw (lines_append records more, append_assoc)

-- one line more, of records that are made of the entries of a list
pub lines_more : {A : Type 0} (f : A → Record) (entries : List A) (i : ℕ) (d : A) → i < length entries
    → record_lines (map f (take i entries)) ++ record_line (f (get_or entries i d)) ≡ record_lines (map f (take (i + 1) entries))
unfolding record_lines
lines_more f entries i d h = rw (add-one, take-suc entries i d h, map-append, lines_append, append-nil)
