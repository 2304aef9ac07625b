-- Families in a slice of bytes, 128 bytes to each: part p is the bytes from 128 × p on. Contracts say by these what a
-- part holds, and what the slice holds once a family is written to one part. Assumes nothing.
use Rattle.std.specs.Prelude.{ℕ, zero, suc, ◌+◌, ◌*◌, ◌/◌, ◌%◌, ◌^◌, ◌≤◌, Bool, cond, List, [], ◌∷◌, ◌++◌, length, get_or, take, drop}
use Rattle.rules.specs.Records.{odd, most_sets}
use Rattle.rules.specs.Families.{Family}
use Rattle.rules.specs.Slices.{family_bytes}

-- the slice has the part
abbrev pub HasPart : List ℕ → (part : ℕ) → Type 0
HasPart bytes part = 128 * part + 128 ≤ length bytes

-- whether a part holds a set: set A is bit A mod 8 of byte A / 8
unfoldable pub holds_at : List ℕ → (part set : ℕ) → Bool
holds_at bytes part A = odd (get_or bytes (128 * part + A / 8) 0 / 2 ^ (A % 8))

-- of the sets below k, those that a part holds
unfoldable pub sets_under : List ℕ → (part k : ℕ) → Family
sets_under bytes part zero = []
sets_under bytes part (suc k) = let rest = sets_under bytes part k in cond (holds_at bytes part k) (k ∷ rest) rest

-- the family that a part holds
unfoldable pub family_at : List ℕ → (part : ℕ) → Family
family_at bytes part = sets_under bytes part most_sets

-- the bytes with a family in one part, and all others as they were
unfoldable pub with_family : List ℕ → (part : ℕ) → Family → List ℕ
with_family bytes part F = take (128 * part) bytes ++ family_bytes F ++ drop (128 * part + 128) bytes
