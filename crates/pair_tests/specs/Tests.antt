-- What the pair of two parts reports. Cited by the contracts of this crate and its callers'. Assumes nothing.
use Rattle.std.specs.Prelude.{ℕ, List}
use Rattle.std.proofs.Math.Option.{Option}
use Rattle.rules.specs.Records.{Class}
use Rattle.rules.specs.Families.{product, reported}
use Rattle.families.specs.Parts.{family_at}

-- the set that the product of two families reports, each a part of bytes of its own, if it holds a suspect one
unfoldable pub report_of_parts : List Class → (first : List ℕ) (p : ℕ) (second : List ℕ) (q : ℕ) → Option ℕ
report_of_parts variables first p second q = reported variables (product (family_at first p) (family_at second q))
