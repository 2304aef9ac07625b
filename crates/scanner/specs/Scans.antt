-- Where the next line of a text and the next word of a line are. Cited by the contracts of this crate. Assumes nothing.
use Rattle.std.specs.Prelude.{ℕ, ◌-◌, ◌≤◌, ◌<◌, ◌≡◌, List, [], ◌∷◌, length, get_or, take, drop}
use Rattle.scanner.specs.Words.{lines_of, words}

-- the part of a text from a place up to another
abbrev pub part : (from to : ℕ) → List ℕ → List ℕ
part from to text = take (to - from) (drop from text)

-- the line of a text from `at` on is the part up to `to`, and the lines behind it are those from `next` on
pub record NextLine (text : List ℕ) (at to next : ℕ) : Type 0 where
  pub ordered : at ≤ to
  pub within : to ≤ length text
  pub forward : at < next
  pub inside : next ≤ length text
  pub line : lines_of (drop at text) ≡ part at to text ∷ lines_of (drop next text)

-- the next word of a line from `at` on is the part from `from` up to `to`, and those behind it are those from `to` on
pub record NextWord (line : List ℕ) (at from to : ℕ) : Type 0 where
  pub forward : at ≤ from
  pub ordered : from < to
  pub within : to ≤ length line
  pub next : words (drop at line) ≡ part from to line ∷ words (drop to line)

-- word k of a line is the part from `from` up to `to`
pub record IsWord (line : List ℕ) (k from to : ℕ) : Type 0 where
  pub ordered : from < to
  pub within : to ≤ length line
  pub counted : k < length (words line)
  pub word : part from to line ≡ get_or (words line) k []
