-- What a line of edits asks for: `add RECORD`, `remove NODE`, `list`, `write OUT`, `quit`, or nothing;
-- or it is no edit. Assumes nothing.
use Rattle.std.specs.Prelude.{ℕ, Bool, true, false, cond, not, Option, Some, None, List, [], ◌∷◌}
use Rattle.rules.specs.Records.{record_bytes}
use Rattle.rules.specs.Listing.{word}
use Rattle.scanner.specs.Numbers.{number_in}
use Rattle.scanner.specs.Words.{is_blank, starts_comment, words, same}
use Rattle.read_words.specs.Words.{nothing, says, wrong, record_in}
use Rattle.edit_rules.specs.Edits.{Edit, add, remove}

pub data Asks : Type 0 where
  none : Asks
  changes : Edit → Asks
  lists : Asks
  writes : (name : List ℕ) → Asks
  quits : Asks
  no_edit : Asks

-- `add`, with what stands behind it: a record in words
unfoldable pub addition : (behind : List (List ℕ)) → Asks
addition behind = elim (record_in behind) [ nothing ↦ no_edit | says r ↦ changes (add (record_bytes r)) | wrong fault ↦ no_edit ]

-- the only word, where there is one and no other
unfoldable pub only : List (List ℕ) → List ℕ
only [] = []
only (one ∷ []) = one
only (one ∷ other ∷ others) = []

-- `remove` and a number
unfoldable pub removal : Option ℕ → Asks
removal (Some node) = changes (remove node)
removal None = no_edit

-- `write` and a name
unfoldable pub written : (name : List ℕ) → Asks
written [] = no_edit
written (letter ∷ letters) = writes (letter ∷ letters)

-- a word with nothing behind it
unfoldable pub alone : Asks → (behind : List (List ℕ)) → Asks
alone asks [] = asks
alone asks (one ∷ others) = no_edit

-- what the words of a line ask for
unfoldable pub asked : (line : List (List ℕ)) → Asks
asked [] = none
asked (name ∷ behind) =
    cond (same name (word "add")) (addition behind)
    (cond (same name (word "remove")) (removal (number_in (only behind)))
    (cond (same name (word "write")) (written (only behind))
    (cond (same name (word "list")) (alone lists behind)
    (cond (same name (word "quit")) (alone quits behind) no_edit))))

-- Whether a comment is stuck to a word: no blank stands before its `#`. `begun` says whether a word
-- stands right before the line.
unfoldable pub stuck : (begun : Bool) (line : List ℕ) → Bool
stuck begun [] = false
stuck begun (letter ∷ line) = cond (starts_comment letter) begun (stuck (not (is_blank letter)) line)

-- where a comment is stuck to a word nothing is written: its `#` may be meant for the file's name
unfoldable pub unless_stuck : (isStuck : Bool) → Asks → Asks
unless_stuck false asks = asks
unless_stuck true none = none
unless_stuck true (changes e) = changes e
unless_stuck true lists = lists
unless_stuck true (writes name) = no_edit
unless_stuck true quits = quits
unless_stuck true no_edit = no_edit

-- what a line asks for
unfoldable pub asks_in : (line : List ℕ) → Asks
asks_in line = unless_stuck (stuck false line) (asked (words line))
