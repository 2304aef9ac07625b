-- The lines of a text and the words of a line. Assumes nothing.
use Rattle.std.specs.Str.{bytes_eq}
use Rattle.std.specs.Prelude.{ℕ, Bool, cond, ◌||◌, List, [], ◌∷◌, ◌++◌, eqb}

-- ---- lines

-- what was read so far, unless that is nothing
unfoldable pub closed : List ℕ → List (List ℕ)
closed [] = []
closed (letter ∷ letters) = (letter ∷ letters) ∷ []

-- the lines of a text, of which the first has begun with `line`: a line feed ends a line, and the last line may lack it
unfoldable pub lines_behind : (line text : List ℕ) → List (List ℕ)
lines_behind line [] = closed line
lines_behind line (letter ∷ text) = cond (eqb letter 10) (line ∷ lines_behind [] text) (lines_behind (line ++ (letter ∷ [])) text)

unfoldable pub lines_of : (text : List ℕ) → List (List ℕ)
lines_of text = lines_behind [] text

-- ---- words

-- a blank, a tab and a carriage return part words, and `#` starts a comment
abbrev pub is_blank : ℕ → Bool
is_blank letter = eqb letter 32 || (eqb letter 9 || eqb letter 13)

abbrev pub starts_comment : ℕ → Bool
starts_comment letter = eqb letter 35

abbrev pub ends_word : ℕ → Bool
ends_word letter = is_blank letter || starts_comment letter

-- the words of a line, of which the first has begun with `begun`
unfoldable pub words_behind : (begun line : List ℕ) → List (List ℕ)
words_behind begun [] = closed begun
words_behind begun (letter ∷ line) =
    cond (starts_comment letter) (closed begun)
    (cond (is_blank letter) (closed begun ++ words_behind [] line) (words_behind (begun ++ (letter ∷ [])) line))

unfoldable pub words : List ℕ → List (List ℕ)
words line = words_behind [] line

-- whether two words are the same, letter for letter
unfoldable pub same : (one other : List ℕ) → Bool
same one other = bytes_eq one other
