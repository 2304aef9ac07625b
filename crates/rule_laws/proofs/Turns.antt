-- One turn more of a loop over entries: what holds of each entry before the next, and of the next, holds of each so
-- far. Assumes nothing.
use Prim.Native.Nat.{ℕ, ◌+◌, ◌<◌}
use mathlib.Core.Path.{◌≡◌, sym, subst}
use native.Mathlib.Decide.{ℕ_discrete}
use native.Mathlib.Omega.{arith}

pub one_more : (P : ℕ → Type 0) (j : ℕ) → ((i : ℕ) → i < j → P i) → P j → (i : ℕ) → i < j + 1 → P i
one_more P j before here i h = go (ℕ_discrete i j)
  where
    go : Dec (i ≡ j) → P i
    go (yes same) = subst P (sym same) here
    go (no other) = before i (omega arith)
