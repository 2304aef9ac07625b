-- Suspect sets by bit masks, and sets that two families have in common. Cited by the contracts of this crate
-- and its callers'. Assumes nothing.
use Rattle.std.specs.Prelude.{ℕ, Bool, not, ◌&&◌, T, eqb}
use Rattle.std.specs.Int.Bits.{bit_and}
use Rattle.rules.specs.Lists.{member}
use Rattle.rules.specs.Families.{Family}

-- a set has one of the secrets and none of the masks, which are sets
abbrev pub suspect_by : (secrets masks s : ℕ) → Bool
suspect_by secrets masks s = not (eqb (bit_and s secrets) 0) && eqb (bit_and s masks) 0

-- a set that is in two families
abbrev pub Common : Family → Family → Type 0
Common F G = (A : ℕ) × T (member A F && member A G)
