-- Weights of +1, -1 or 0 on assignments, and when the sum over one list of assignments equals the sum over another:
-- the arithmetic of the proof of demand 3. A sum is told by its count of +1 and its count of -1, so that natural
-- numbers are enough. Assumes nothing.
use Prim.Native.Nat.{ℕ, ◌+◌, ◌*◌}
use mathlib.Core.Path.{◌≡◌, refl, subst, fun_ext}
use mathlib.Core.Bool.{Bool, true, false, not, ◌&&◌, xor}
use mathlib.Core.List.{List, [], ◌∷◌}
use native.Mathlib.Omega.{arith}
use Rattle.rules.specs.Lists.{digit, count}
use Rattle.rules.specs.Values.{Assignment}

pub data Sign : Type 0 where
  plus minus nought : Sign

abbrev pub pluses₁ : Sign → ℕ
pluses₁ plus = 1
pluses₁ minus = 0
pluses₁ nought = 0

abbrev pub minuses₁ : Sign → ℕ
minuses₁ plus = 0
minuses₁ minus = 1
minuses₁ nought = 0

-- a sign times (-1) to the power b
abbrev pub twist : Bool → Sign → Sign
twist false v = v
twist true plus = minus
twist true minus = plus
twist true nought = nought

-- a sign times b, as 0 or 1
abbrev pub keep : Bool → Sign → Sign
keep true v = v
keep false v = nought

pub twist_twist : (a b : Bool) (v : Sign) → twist a (twist b v) ≡ twist (xor b a) v
unfolding xor
twist_twist false false v = refl
twist_twist false true v = refl
twist_twist true false v = refl
twist_twist true true plus = refl
twist_twist true true minus = refl
twist_twist true true nought = refl

pub twist_swap : (a b : Bool) (v : Sign) → twist a (twist b v) ≡ twist b (twist a v)
twist_swap false b v = refl
twist_swap true false v = refl
twist_swap true true v = refl

pub keep_twist : (a b : Bool) (v : Sign) → keep a (twist b v) ≡ twist b (keep a v)
keep_twist true b v = refl
keep_twist false true v = refl
keep_twist false false v = refl

pub keep_keep : (a b : Bool) (v : Sign) → keep b (keep a v) ≡ keep (a && b) v
keep_keep true b v = refl
keep_keep false true v = refl
keep_keep false false v = refl

-- ---- sums over a list

abbrev pub Weight : Type 0
Weight = Assignment → Sign

unfoldable pub pluses : Weight → List Assignment → ℕ
pluses w [] = 0
pluses w (x ∷ xs) = pluses₁ (w x) + pluses w xs

unfoldable pub minuses : Weight → List Assignment → ℕ
minuses w [] = 0
minuses w (x ∷ xs) = minuses₁ (w x) + minuses w xs

-- twice the weight u is the sum of the weights a, b, c and d, at one assignment
abbrev pub Halves : (u a b c d : Sign) → Type 0
Halves u a b c d =
    2 * pluses₁ u + minuses₁ a + minuses₁ b + minuses₁ c + minuses₁ d
    ≡ 2 * minuses₁ u + pluses₁ a + pluses₁ b + pluses₁ c + pluses₁ d

-- and so it is of the sums over a list
halves_sum : (u a b c d : Weight) → ((x : Assignment) → Halves (u x) (a x) (b x) (c x) (d x)) → (xs : List Assignment)
    → 2 * pluses u xs + minuses a xs + minuses b xs + minuses c xs + minuses d xs
    ≡ 2 * minuses u xs + pluses a xs + pluses b xs + pluses c xs + pluses d xs
unfolding pluses minuses
halves_sum u a b c d h [] = refl
halves_sum u a b c d h (x ∷ xs) = omega (arith, h x, halves_sum u a b c d h xs)

-- times -1 the +1 and the -1 change places
flipped_sum : (w : Weight) (xs : List Assignment)
    → (pluses (λ x. twist true (w x)) xs ≡ minuses w xs) × (minuses (λ x. twist true (w x)) xs ≡ pluses w xs)
unfolding pluses minuses
flipped_sum w [] = (refl, refl)
flipped_sum w (x ∷ xs) =
    let (p, m) = flipped_sum w xs in
    let (p₁, m₁) = one (w x) in
    (omega arith, omega arith)
  where
    one : (v : Sign) → (pluses₁ (twist true v) ≡ minuses₁ v) × (minuses₁ (twist true v) ≡ pluses₁ v)
    one plus = (refl, refl)
    one minus = (refl, refl)
    one nought = (refl, refl)

nought_sum : (xs : List Assignment) → (pluses (λ x. nought) xs ≡ 0) × (minuses (λ x. nought) xs ≡ 0)
unfolding pluses minuses
nought_sum [] = (refl, refl)
nought_sum (x ∷ xs) = (omega (arith, (nought_sum xs).0), omega (arith, (nought_sum xs).1))

-- the weight 1 on the assignments that pass a test: its sum is their count
pub kept_sum : (test : Assignment → Bool) (xs : List Assignment)
    → (pluses (λ x. keep (test x) plus) xs ≡ count test xs) × (minuses (λ x. keep (test x) plus) xs ≡ 0)
unfolding pluses minuses count
kept_sum test [] = (refl, refl)
kept_sum test (x ∷ xs) = go (test x) (kept_sum test xs)
  where
    go : (b : Bool) → (pluses (λ x. keep (test x) plus) xs ≡ count test xs) × (minuses (λ x. keep (test x) plus) xs ≡ 0)
        → (pluses₁ (keep b plus) + pluses (λ x. keep (test x) plus) xs ≡ digit b + count test xs)
        × (minuses₁ (keep b plus) + minuses (λ x. keep (test x) plus) xs ≡ 0)
    go true (e, f) = (omega arith, omega arith)
    go false (e, f) = (omega arith, omega arith)

-- the weight (-1) to the power of a test
pub twisted_sum : (test : Assignment → Bool) (xs : List Assignment)
    → (pluses (λ x. twist (test x) plus) xs ≡ count (λ x. not (test x)) xs) × (minuses (λ x. twist (test x) plus) xs ≡ count test xs)
unfolding pluses minuses count
twisted_sum test [] = (refl, refl)
twisted_sum test (x ∷ xs) = go (test x) (twisted_sum test xs)
  where
    go : (b : Bool)
        → (pluses (λ x. twist (test x) plus) xs ≡ count (λ x. not (test x)) xs) × (minuses (λ x. twist (test x) plus) xs ≡ count test xs)
        → (pluses₁ (twist b plus) + pluses (λ x. twist (test x) plus) xs ≡ digit (not b) + count (λ x. not (test x)) xs)
        × (minuses₁ (twist b plus) + minuses (λ x. twist (test x) plus) xs ≡ digit b + count test xs)
    go true (e, f) = (omega arith, omega arith)
    go false (e, f) = (omega arith, omega arith)

-- ---- two lists of assignments over which a weight has the same sum
module _ (K L : List Assignment) where
  unfoldable pub Balanced : Weight → Type 0
  Balanced w = pluses w K + minuses w L ≡ minuses w K + pluses w L

  pub balanced_ext : (u w : Weight) → ((x : Assignment) → u x ≡ w x) → Balanced u → Balanced w
  balanced_ext u w h b = subst (λ (v : Weight). Balanced v) (fun_ext h) b

  pub balanced_halves : (u a b c d : Weight) → ((x : Assignment) → Halves (u x) (a x) (b x) (c x) (d x))
      → Balanced a → Balanced b → Balanced c → Balanced d → Balanced u
  unfolding Balanced
  balanced_halves u a b c d h ba bb bc bd = omega (arith, halves_sum u a b c d h K, halves_sum u a b c d h L)

  pub balanced_flip : (w : Weight) → Balanced w → Balanced (λ x. twist true (w x))
  unfolding Balanced
  balanced_flip w b =
      let (plus-K, minus-K) = flipped_sum w K in
      let (plus-L, minus-L) = flipped_sum w L in
      omega arith

  pub balanced_nought : Balanced (λ x. nought)
  unfolding Balanced
  balanced_nought =
      let (plus-K, minus-K) = nought_sum K in
      let (plus-L, minus-L) = nought_sum L in
      omega arith
