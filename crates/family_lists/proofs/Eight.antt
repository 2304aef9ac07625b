-- Eight bytes of a slice, as a list of their own. Assumes nothing.
use Prim.Native.Nat.{ℕ, ◌+◌, ◌<◌, ◌≤◌}
use mathlib.Core.Path.{◌≡◌, ◌∙◌}
use mathlib.Core.List.{List}
use native.Mathlib.Omega.{arith}
use lib.ListN.{length, get_or, take, drop, length-drop}
use lib.Seq.{length-take-le, get_or-take, get_or-drop}

module _ (work : List ℕ) (at k : ℕ) (e : k ≡ 8) where
  pub eight_bytes : at + 8 ≤ length work → length (take k (drop at work)) ≡ 8
  eight_bytes has = rw e (length-take-le 8 (drop at work) (omega (arith, length-drop at work)))

  pub byte_at : (j : ℕ) → j < 8 → get_or (take k (drop at work)) j 0 ≡ get_or work (at + j) 0
  byte_at j h = get_or-take k (drop at work) j 0 (omega arith) ∙ get_or-drop at work j 0
