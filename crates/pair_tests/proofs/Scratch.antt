-- What the pair of two parts reports where the product is made in bytes of its own: products and reports see only which
-- sets are in the families. Assumes nothing.
use Prim.Native.Nat.{ℕ}
use mathlib.Core.Path.{◌≡◌, ◌∙◌}
use mathlib.Core.List.{List}
use lib.ListN.{length}
use native.Mathlib.Omega.{arith}
use Rattle.rules.specs.Records.{Class, most_variables}
use Rattle.rules.specs.Families.{product, reported}
use Rattle.rule_laws.proofs.Bounds.{product_below}
use Rattle.families.specs.Parts.{family_at, with_family}
use Rattle.families.proofs.Parts.{below_at, with_length, with_there}
use Rattle.families.proofs.Work.{Alike, alike_product, written_alike}
use Rattle.suspect_sets.proofs.Sets.{reported_same}

module _ (scratch first : List ℕ) (p : ℕ) (second : List ℕ) (q : ℕ) (long : length scratch ≡ 384) where
  -- the two families stand in parts 0 and 1
  abbrev one : List ℕ
  one = with_family scratch 0 (family_at first p)

  abbrev both : List ℕ
  both = with_family one 1 (family_at second q)

  one_length : length one ≡ 384
  one_length = omega (arith, with_length scratch 0 (family_at first p) (omega arith))

  first_there : Alike (family_at both 0) (family_at first p)
  first_there =
      rw (with_there one 1 0 (family_at second q) (omega (arith, one_length)) (λ e. absurd (omega arith)))
      (written_alike scratch 0 (family_at first p) (omega arith) (below_at first p))

  second_there : Alike (family_at both 1) (family_at second q)
  second_there = written_alike one 1 (family_at second q) (omega (arith, one_length)) (below_at second q)

  -- and their product behind them
  pub scratch_report : (variables : List Class)
      → reported variables (family_at (with_family both 2 (product (family_at both 0) (family_at both 1))) 2)
      ≡ reported variables (product (family_at first p) (family_at second q))
  scratch_report variables =
      let room = with_length one 1 (family_at second q) (omega (arith, one_length)) in
      let made = product_below most_variables (family_at both 0) (family_at both 1) (below_at both 0) (below_at both 1) in
      reported_same variables _ _
      (λ A. (written_alike both 2 _ (omega (arith, one_length)) made).same A ∙ (alike_product first_there second_there).same A)
