-- `family_products::product` meets its contract. The loop's invariant: the part has the product of the sets passed
-- with the second family, all else is as it was after emptying, and the pairs counted are those of the rows passed.
-- The lists of both families are theirs (`front_listed`). Assumes nothing.
use Prim.Native.Nat.{ℕ, ◌*◌}
use mathlib.Core.Path.{◌≡◌}
use mathlib.Core.List.{List}
use lib.ListN.{take}
use Rattle.rules.specs.Families.{Family, product}
use Rattle.families.specs.Parts.{with_family}
use Rattle.families.specs.Present.{reversed}
use Rattle.family_products.proofs.product.Given as goal

-- the slice with the product of the first i sets listed and a family in one part
abbrev pub partial : List ℕ → (into : ℕ) → (sets : List ℕ) → Family → (i : ℕ) → List ℕ
partial work into sets G i = with_family work into (product (reversed (take i sets)) G)

abbrev pub invariant-loop-i : goal.invariant-loop-i
invariant-loop-i l = record {
  tried : l.pairs ≡ l.i * l.columns;
  made : l.work ≡ partial l.initial.work l.into l.sets (reversed (take l.columns l.others)) l.i;
}
