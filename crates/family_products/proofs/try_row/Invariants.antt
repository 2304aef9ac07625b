-- `family_products::try_row` meets its contract. The loop's invariant: the differences with the sets passed are in the
-- part, all else is as it was, and as many pairs are counted. Assumes nothing.
use Prim.Native.Nat.{ℕ, ◌+◌}
use mathlib.Core.Path.{◌≡◌}
use mathlib.Core.List.{List, map}
use lib.Bits.{bit_xor}
use lib.ListN.{take}
use Rattle.rules.specs.Lists.{union}
use Rattle.families.specs.Parts.{family_at, with_family}
use Rattle.family_products.proofs.try_row.Given as goal

-- the slice with the differences of a set with the first j others put into one part
abbrev pub partial : List ℕ → (into set : ℕ) → List ℕ → (j : ℕ) → List ℕ
partial work into A others j = with_family work into (union (map (bit_xor A) (take j others)) (family_at work into))

abbrev pub invariant-loop-other : goal.invariant-loop-other
invariant-loop-other l = record {
  tried : l.tried ≡ l.before + l.other-index;
  made : l.work ≡ partial l.initial.work l.into l.set l.others l.other-index;
}
