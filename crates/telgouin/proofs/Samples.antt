-- Samples of what the contracts of this program cite: computed, so that a definition that says something
-- else is refused. Assumes nothing.
use mathlib.Core.Path.{◌≡◌, refl}
use mathlib.Core.Bool.{true, false}
use mathlib.Core.List.{[], ◌∷◌}
use Rattle.rules.specs.Listing.{word}
use Rattle.scanner.specs.Words.{same}
use Rattle.telgouin.specs.Files.{has_words, line_in}

-- a name ends in `.txt`, with nothing before it too; others do not, and one that is shorter does not
names
    : (has_words (word "a.txt") ≡ true)
    × (has_words (word ".txt") ≡ true)
    × (has_words (word "a.bin") ≡ false)
    × (has_words (word "a.txt.bin") ≡ false)
    × (has_words (word "txt") ≡ false)
unfolding has_words same word
names = (refl, refl, refl, refl, refl)

-- a block of bytes has no line; refusal 8, that there is no end record, has the last one; another has that of its
-- place, and the last one behind them; refusal 12, of a query, has none
lines-told
    : (line_in 7 1 (3 ∷ 5 ∷ []) 0 ≡ 0)
    × (line_in 8 1 (3 ∷ 5 ∷ []) 9 ≡ 9)
    × (line_in 7 1 (3 ∷ 5 ∷ []) 9 ≡ 5)
    × (line_in 7 2 (3 ∷ 5 ∷ []) 9 ≡ 9)
    × (line_in 12 1 (3 ∷ 5 ∷ []) 9 ≡ 0)
unfolding line_in
lines-told = (refl, refl, refl, refl, refl)
