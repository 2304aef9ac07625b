-- What holds of each entry of a list. Assumes nothing.
use Prim.Native.Nat.{ℕ, zero, suc}
use mathlib.Core.List.{List, [], ◌∷◌, ◌++◌}
use lib.ListN.{get_or}

module _ {ℓ} {A : Type ℓ} (P : A → Type 0) where
  abbrev pub Each : List A → Type 0
  Each [] = Unit {0}
  Each (x ∷ xs) = P x × Each xs

  pub each_append : (xs ys : List A) → Each xs → Each ys → Each (xs ++ ys)
  each_append [] ys hx hy = hy
  each_append (x ∷ xs) ys hx hy = (hx.0, each_append xs ys hx.1 hy)

  pub each_at : (xs : List A) (d : A) → Each xs → P d → (i : ℕ) → P (get_or xs i d)
  each_at [] d h hd i = hd
  each_at (x ∷ xs) d h hd zero = h.0
  each_at (x ∷ xs) d h hd (suc i) = each_at xs d h.1 hd i
