-- The lowest number from which on a test holds, where the bound is one more: as before if the test holds at the last
-- number, and else the bound. Assumes nothing.
use Prim.Native.Nat.{ℕ, ◌+◌}
use mathlib.Core.Path.{◌≡◌}
use mathlib.Core.Bool.{Bool, true, false}
use native.Mathlib.Numerals.{add-one}
use Rattle.test_trial.specs.Before.{kept_from}

module _ (same : ℕ → Bool) (k : ℕ) where
  pub kept_on : {from : ℕ} → same k ≡ true → from ≡ kept_from same k → from ≡ kept_from same (k + 1)
  unfolding kept_from
  kept_on holds e = rw (add-one, holds) e

  pub kept_next : same k ≡ false → k + 1 ≡ kept_from same (k + 1)
  unfolding kept_from
  kept_next fails = rw (add-one, fails)
