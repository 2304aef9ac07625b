-- How many bits of a byte are set: what is said of all bytes is a test that antt computes at each of them.
-- Assumes nothing.
use Prim.Native.Nat.{ℕ, zero, suc, ◌+◌, ◌-◌, ◌/◌, ◌%◌, ◌<◌}
use mathlib.Core.Path.{◌≡◌}
use mathlib.Core.Logic.{◌⊎◌, inl, inr}
use mathlib.Core.Bool.{Bool, true, ◌&&◌}
use native.Mathlib.Nat.{eq-or-lt_of_le, le_of_suc-le-suc}
use native.Mathlib.Omega.{arith}
use lib.Dec.{T, eqb, eqb→eq}
use lib.Bits.{bit_and}
use Rattle.rule_laws.proofs.Tests.{and_left, and_right}
use Rattle.families.specs.Present.{bits_below}

-- ---- a test at each number below a bound

abbrev pub passes : (ℕ → Bool) → ℕ → Bool
passes f zero = true
passes f (suc n) = f n && passes f n

pub passed : (f : ℕ → Bool) (n : ℕ) → T (passes f n) → (i : ℕ) → i < n → T (f i)
passed f zero t i h = absurd (omega arith)
passed f (suc n) t i h = go (eq-or-lt_of_le (le_of_suc-le-suc h)) (passed f n (and_right (f n) (passes f n) t) i)
  where
    go : (i ≡ n) ⊎ (i < n) → (i < n → T (f i)) → T (f i)
    go (inl e) before = rw e (and_left (f n) (passes f n) t)
    go (inr l) before = before l

-- ---- the bits of a byte, counted in each two, in each four and in all eight

abbrev pub twos : ℕ → ℕ
twos byte = byte - bit_and (byte / 2) 85

abbrev pub fours : ℕ → ℕ
fours byte = bit_and (twos byte) 51 + bit_and (twos byte / 4) 51

abbrev eights : ℕ → ℕ
eights byte = fours byte % 16 + fours byte / 16

pub eights_count : (byte : ℕ) → byte < 256 → eights byte ≡ bits_below byte 8
unfolding bits_below
eights_count byte h = eqb→eq (eights byte) (bits_below byte 8) (passed (λ b. eqb (eights b) (bits_below b 8)) 256 tt byte h)
