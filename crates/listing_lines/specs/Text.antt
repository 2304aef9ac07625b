-- A text that is being written to a slice, from its front on. Cited by the contracts of this crate. Assumes nothing.
use Rattle.std.specs.Prelude.{ℕ, ◌+◌, ◌≤◌, ◌<◌, ◌≡◌, List, [], ◌∷◌, ◌++◌, length, take, drop}
use Rattle.rules.specs.declared.Half.{Half}
use Rattle.rules.specs.declared.Half.TheVariants.{Clear, Suspect}
use Rattle.rules.specs.Records.{most_nodes, most_sets}
use Rattle.rules.specs.Families.{Finding, clear, suspect_at}
use Rattle.rules.specs.Listing.{word, decimal, line}

-- there is room for a text of at most so many bytes at `at`
abbrev pub Room : (slice : List ℕ) (at most : ℕ) → Type 0
Room slice at most = at + most ≤ length slice

-- a text goes behind the first `at` bytes of a slice: they and the bytes beyond the text are as they were, and the next
-- text's place is `next`
pub record Appended (before after : List ℕ) (at next : ℕ) (text : List ℕ) : Type 0 where
  pub place : next ≡ at + length text
  pub bytes : take next after ≡ take at before ++ text
  pub beyond : drop next after ≡ drop next before
  pub long : length after ≡ length before

-- a half names a node and a set of a netlist that obeys the record rules
unfoldable pub Short : Half → Type 0
Short Clear = Unit
Short (Suspect i A) = (i < most_nodes) × (A < most_sets)

-- what a half's line says behind its name
unfoldable pub found_text : Finding → List ℕ
found_text clear = 32 ∷ line (word "clear" ∷ [])
found_text (suspect_at i A) = 32 ∷ line (decimal i ∷ decimal A ∷ [])
