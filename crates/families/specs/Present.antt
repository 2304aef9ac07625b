-- The sets present in a part, as a list; and a list, and a byte, by which a part is walked.
-- Cited by the contracts of what lists, counts and pairs the sets of a part. Assumes nothing.
use Rattle.std.specs.Prelude.{ℕ, zero, suc, ◌+◌, ◌/◌, ◌^◌, ◌<◌, ◌≡◌, List, [], ◌∷◌, ◌++◌, length, get_or, drop}
use Rattle.rules.specs.Lists.{digit}
use Rattle.rules.specs.Records.{odd, most_sets}
use Rattle.families.specs.Parts.{holds_at, sets_under, family_at}

-- a list from its last entry on
unfoldable pub reversed : List ℕ → List ℕ
reversed [] = []
reversed (x ∷ xs) = reversed xs ++ (x ∷ [])

-- the sets that a part holds, from the lowest-numbered up; `family_at` has them from the highest-numbered down
unfoldable pub list_at : List ℕ → (part : ℕ) → List ℕ
list_at bytes part = reversed (family_at bytes part)

-- ---- on the way

-- those of the sets below k that a part holds are listed at the front of a slice, and beyond them is what stood there
pub record Listed (bytes : List ℕ) (part k : ℕ) (before after : List ℕ) (listed : ℕ) : Type 0 where
  pub count : listed ≡ length (sets_under bytes part k)
  pub sets : after ≡ reversed (sets_under bytes part k) ++ drop listed before

-- the bits of a byte say which of eight sets, from `low` on, a part holds
abbrev pub BitsOf : (byte : ℕ) → List ℕ → (part low : ℕ) → Type 0
BitsOf byte bytes part low = (k : ℕ) → k < 8 → odd (byte / 2 ^ k) ≡ holds_at bytes part (low + k)

-- how many of a byte's lowest k bits are set
unfoldable pub bits_below : (byte k : ℕ) → ℕ
bits_below byte zero = 0
bits_below byte (suc k) = bits_below byte k + digit (odd (byte / 2 ^ k))

-- the entries are sets
abbrev pub Sets : List ℕ → Type 0
Sets xs = (i : ℕ) → get_or xs i 0 < most_sets
