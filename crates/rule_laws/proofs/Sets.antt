-- A set's number and its bits are each made from the other, its number of variables is that of its bits,
-- and a number has the bit of an undeclared variable just if it is too large. By induction on the bits,
-- a half at a time. Assumes nothing.
use Prim.Native.Nat.{ℕ, zero, suc, ◌+◌, ◌*◌, ◌/◌, ◌%◌, ◌^◌, ◌≤◌, ◌<◌}
use mathlib.Core.Path.{◌≡◌, refl, sym, ap, ap₂, ◌∙◌, subst}
use mathlib.Core.Bool.{Bool, true, false}
use mathlib.Core.List.{List, [], ◌∷◌}
use native.Mathlib.Nat.{two-pow-succ, pow-succ', div-one, div-div-eq-div-mul, div-eq_of_lt, add-mul-mod_self_left, lt_of_not-le, lt_of_lt_of_le, le-add_right, le-div_iff_mul-le}
use native.Mathlib.Omega.{arith}
use lib.Arith.{bin_ind}
use lib.Dec.{T, eqb, leb→le, nleb→lt}
use lib.ListN.{length}
use lib.Pow.{pow_pos, pow_mono, shr-shr}
use Rattle.rules.specs.Lists.{digit, count}
use Rattle.rules.specs.Records.{most_variables, odd, bits, variable_count, number}
use Rattle.rules.specs.Checks.{undeclared}

-- ---- one bit

digit_odd : (s : ℕ) → digit (odd s) ≡ s % 2
digit_odd s = go (s % 2) (omega arith)
  where
    go : (r : ℕ) → r < 2 → digit (eqb r 1) ≡ r
    go zero h = refl
    go (suc zero) h = refl
    go (suc (suc r)) h = absurd (omega arith)

halved : (s w : ℕ) → s / 2 / 2 ^ w ≡ s / 2 ^ suc w
halved s w = div-div-eq-div-mul s 2 (2 ^ w) ∙ ap {B = ℕ} (λ d. s / d) (sym (pow-succ' 2 w))

-- a number of one more bit: its lowest bit, its other bits, and how large it is
pub lowest_bit : (b : Bool) (n : ℕ) → odd (digit b + 2 * n) ≡ b
lowest_bit true n = rw (add-mul-mod_self_left 1 2 n)
lowest_bit false n = rw (add-mul-mod_self_left 0 2 n)

half_of : (b : Bool) (n : ℕ) → (digit b + 2 * n) / 2 ≡ n
half_of true n = omega arith
half_of false n = omega arith

pub other_bits : (b : Bool) (n w : ℕ) → (digit b + 2 * n) / 2 ^ suc w ≡ n / 2 ^ w
other_bits b n w = sym (halved (digit b + 2 * n) w) ∙ ap {B = ℕ} (λ s. s / 2 ^ w) (half_of b n)

pub one_more_below : (b : Bool) (n k : ℕ) → n < 2 ^ k → digit b + 2 * n < 2 ^ suc k
one_more_below true n k h = omega (arith, two-pow-succ k)
one_more_below false n k h = omega (arith, two-pow-succ k)

-- ---- a set's number and its bits

pub bits_length : (k s : ℕ) → length (bits k s) ≡ k
unfolding bits
bits_length zero s = refl
bits_length (suc k) s = ap suc (bits_length k (s / 2))

-- the bits of a number below 2 to the power k are its own, and each k bits are those of their number
pub number_bits : (k s : ℕ) → s < 2 ^ k → number (bits k s) ≡ s
unfolding bits number
number_bits zero s h = omega arith
number_bits (suc k) s h = omega (arith, digit_odd s, number_bits k (s / 2) (omega (arith, two-pow-succ k)))

pub bits_number : (b : List Bool) → bits (length b) (number b) ≡ b
unfolding bits number
bits_number [] = refl
bits_number (b ∷ bs) = rw (lowest_bit, half_of, bits_number bs)

pub number_below : (b : List Bool) → number b < 2 ^ length b
unfolding number
number_below [] = omega arith
number_below (b ∷ bs) = one_more_below b (number bs) (length bs) (number_below bs)

-- numbers below 2 to the power k are equal if their k bits are
same_bits : (k s t : ℕ) → ((w : ℕ) → w < k → odd (s / 2 ^ w) ≡ odd (t / 2 ^ w)) → bits k s ≡ bits k t
unfolding bits
same_bits zero s t h = refl
same_bits (suc k) s t h =
    ap₂ {C = List Bool} ◌∷◌ (rw (div-one s, div-one t) at (h 0 (omega arith)))
    (same_bits k (s / 2) (t / 2) (λ w l. rw (halved s w, halved t w) (h (suc w) (omega arith))))

pub same_number : (k s t : ℕ) → s < 2 ^ k → t < 2 ^ k → ((w : ℕ) → w < k → odd (s / 2 ^ w) ≡ odd (t / 2 ^ w)) → s ≡ t
same_number k s t p q h = sym (number_bits k s p) ∙ ap number (same_bits k s t h) ∙ number_bits k t q

-- the number of variables of a set is how many of the ten are marked in it
pub variables_marked : (b : List Bool) → length b ≡ most_variables → variable_count (number b) ≡ count (λ m. m) b
unfolding variable_count
variables_marked b e = subst (λ (k : ℕ). count (λ m. m) (bits k (number b)) ≡ count (λ m. m) b) e (ap (count (λ m. m)) (bits_number b))

-- ---- the bits of undeclared variables

-- a number that is not refused has the bits of declared variables alone
pub declared_only : (v s : ℕ) → undeclared v s ≡ false → (w : ℕ) → T (odd (s / 2 ^ w)) → w < v
unfolding undeclared
declared_only v s h w t = lt_of_not-le (λ (l : v ≤ w). rw (div-eq_of_lt (lt_of_lt_of_le below (pow_mono l))) at t)
  where
    below : s < 2 ^ v
    below = nleb→lt (2 ^ v) s (rw h tt)

-- a number other than 0 has a bit
some_bit : (n : ℕ) → 0 < n → (w : ℕ) × T (odd (n / 2 ^ w))
some_bit = bin_ind (λ n. 0 < n → (w : ℕ) × T (odd (n / 2 ^ w))) (λ h. absurd (omega arith)) (λ n ih h. go n ih h (odd n) refl)
  where
    go : (n : ℕ) → (0 < n / 2 → (w : ℕ) × T (odd (n / 2 / 2 ^ w))) → 0 < n → (b : Bool) → odd n ≡ b → (w : ℕ) × T (odd (n / 2 ^ w))
    go n ih h true e = (0, rw (div-one, e) tt)
    go n ih h false e = let (w, t) = ih (omega (arith, digit_odd n, ap digit e)) in (suc w, rw (← halved n w) t)

-- one that is refused has the bit of an undeclared variable
pub undeclared_bit : (v s : ℕ) → undeclared v s ≡ true → (w : ℕ) × (v ≤ w) × T (odd (s / 2 ^ w))
unfolding undeclared
undeclared_bit v s h =
    let (w, t) = some_bit (s / 2 ^ v) ((le-div_iff_mul-le (pow_pos v)).1 (omega (arith, leb→le (2 ^ v) s (rw h tt)))) in
    (v + w, le-add_right v w, rw (← shr-shr s v w) t)
