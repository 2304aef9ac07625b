-- What is known of arguments and files once they are read. Cited by the contracts of this program. Assumes nothing.
use Rattle.std.specs.Prelude.{ℕ, ◌-◌, ◌≤◌, ◌<◌, ◌≡◌, Bool, cond, ◌||◌, Option, Some, None, Ok, List, eqb, ltb, length, get_or, drop}
use Rattle.io.specs.Counts.{IsPrefixLen}
use Rattle.rules.specs.Listing.{word, most_input}
use Rattle.scanner.specs.Words.{same}
use Rattle.read_words.specs.Meaning.{TellsBlock}
use Rattle.read_words.specs.declared.BlockSize.{BlockSize}
use Rattle.telgouin.specs.declared.files.Read.{Read}

-- from so many entries on, two lists are the same
abbrev pub SameBehind : (count : ℕ) (before after : List ℕ) → Type 0
SameBehind count before after = drop count after ≡ drop count before

-- as many bytes as were read stand at the front
abbrev pub FrontRead : Read → (into : List ℕ) → Type 0
FrontRead (Read.All count) into = IsPrefixLen count into
FrontRead (Read.First count) into = IsPrefixLen count into
FrontRead Read.Failed into = Unit {0}

-- some text says this block
pub record InWords (size : BlockSize) (bytes-before lines-before bytes lines : List ℕ) : Type 0 where
  pub text : List ℕ
  pub tells : TellsBlock (Ok size) text bytes-before lines-before bytes lines

-- A block has at most 1,024 bytes. Where its text has lines, the bytes and the line of each
-- record are what that text says.
abbrev pub FromFile : Option BlockSize → (bytes-before lines-before bytes lines : List ℕ) → Type 0
FromFile (Some size) bytes-before lines-before bytes lines =
    (size.bytes ≤ most_input) × (0 < size.lines → InWords size bytes-before lines-before bytes lines)
FromFile None bytes-before lines-before bytes lines = Unit {0}

-- a block that is given as bytes has no lines
abbrev pub AsBytes : Option BlockSize → Type 0
AsBytes (Some size) = (size.bytes ≤ most_input) × (size.lines ≡ 0)
AsBytes None = Unit {0}

-- whether a file has a block in words: its name ends in `.txt`
unfoldable pub has_words : (name : List ℕ) → Bool
has_words name = same (drop (length name - 4) name) (word ".txt")

-- The line that a refused record stands on: none of a block that is given as bytes, and none of a refusal that is of no
-- record; the last one where there is no end record, and else that of the record at the place.
unfoldable pub line_in : (number place : ℕ) (lines : List ℕ) (last : ℕ) → ℕ
line_in number place lines last = cond (eqb last 0 || ltb 9 number) 0 (cond (eqb number 8) last (get_or lines place last))
