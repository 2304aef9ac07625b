-- Maps of sets, as the bits of 128 bytes. Of a byte's eight sets, those that hold none of some variables,
-- by the variables from 3 on and by those below; and what a map and a part have in common, byte by byte.
-- What is said of all small numbers is a test that antt computes at each. Assumes nothing.
use Prim.Native.Nat.{ℕ, zero, suc, ◌+◌, ◌*◌, ◌-◌, ◌/◌, ◌%◌, ◌^◌, ◌<◌, ◌≤◌}
use mathlib.Core.Path.{◌≡◌, sym, ◌∙◌}
use mathlib.Core.Logic.{◌⊎◌, inl, inr, ◌↔◌}
use mathlib.Core.Bool.{Bool, false, not, ◌&&◌, beq}
use mathlib.Core.List.{List}
use native.Mathlib.Nat.{add-zero, zero-add, lt_of_le_of_lt, zero-div, mod-eq_of_lt}
use native.Mathlib.Omega.{arith}
use borrow.Author.Tests.{le-leb, lt-leb, ne_eqb}
use lib.Bits.{bit_and, bit_or, and_block, and_mod, and_shr, and_le_l, and_le_r, or_add_and}
use lib.Dec.{T, eqb, eqb-suc-zero}
use lib.ListN.{get_or}
use Rattle.rules.specs.Lists.{member}
use Rattle.rules.specs.Records.{odd}
use Rattle.rules.specs.Checks.{undeclared}
use Rattle.rule_laws.proofs.Tests.{and_left, same_bit, lt_or_le}
use Rattle.rule_laws.proofs.Sets.{declared_only, undeclared_bit}
use Rattle.families.specs.Parts.{family_at}
use Rattle.families.proofs.Parts.{below_at}
use Rattle.families.proofs.Filling.{bit_at}
use Rattle.families.proofs.Bits.{passes, passed}
use Rattle.suspect_maps.specs.Maps.{Common}

-- ---- two tests that agree at each two numbers below bounds

abbrev agree : (f g : ℕ → ℕ → Bool) (m n : ℕ) → Bool
agree f g m n = passes (λ i. passes (λ j. beq (f i j) (g i j)) n) m

agreed : (f g : ℕ → ℕ → Bool) (m n : ℕ) → T (agree f g m n) → (i j : ℕ) → i < m → j < n → f i j ≡ g i j
agreed f g m n t i j h l =
    same_bit _ _ (passed (λ j. beq (f i j) (g i j)) n (passed (λ i. passes (λ j. beq (f i j) (g i j)) n) m t i h) j l)

-- ---- the bits of bytes

pub bit_not : (byte k : ℕ) → byte < 256 → k < 8 → odd ((255 - byte) / 2 ^ k) ≡ not (odd (byte / 2 ^ k))
bit_not = agreed (λ byte k. odd ((255 - byte) / 2 ^ k)) (λ byte k. not (odd (byte / 2 ^ k))) 256 8 tt

pub bit_and_lem : (a b k : ℕ) → odd (bit_and a b / 2 ^ k) ≡ (odd (a / 2 ^ k) && odd (b / 2 ^ k))
bit_and_lem a b k =
    rw (and_shr a b k, and_mod (a / 2 ^ k) (b / 2 ^ k) 1)
    (agreed (λ x y. eqb (bit_and x y) 1) (λ x y. eqb x 1 && eqb y 1) 2 2 tt (a / 2 ^ k % 2) (b / 2 ^ k % 2) (omega arith) (omega arith))

-- bit k of byte j of a map is for set 8 × j + k
pub bit_in : (map : List ℕ) (j k : ℕ) → j < 128 → k < 8 → odd (get_or map j 0 / 2 ^ k) ≡ member (8 * j + k) (family_at map 0)
bit_in map j k h l = rw (zero-add j) at (bit_at map 0 j k h l)

-- a byte is not 0 if it has a bit
no_zero : (byte k : ℕ) → T (odd (byte / 2 ^ k)) → 0 < byte
no_zero zero k t = absurd (rw (zero-div (2 ^ k)) at t)
no_zero (suc n) k t = omega arith

some_bit : (byte : ℕ) → byte < 256 → 0 < byte → (k : ℕ) × (k < 8) × T (odd (byte / 2 ^ k))
unfolding undeclared
some_bit byte h some =
    let (k, l, t) = undeclared_bit 0 byte (le-leb 1 byte some) in
    (k, declared_only 8 byte (lt-leb 256 byte h) k t, t)

-- ---- sets that hold none of some variables

-- the variables that a set has in common with them: those below 3, and those from 3 on
in_common : (j k variables : ℕ) → j < 256 → k < 8
    → bit_and (8 * j + k) variables ≡ bit_and k (variables % 8) + 8 * bit_and j (variables / 8 % 256)
in_common j k variables h l =
    let here : j * 8 + k ≡ 8 * j + k = omega arith in
    let there : variables / 8 * 8 + variables % 8 ≡ variables = omega arith in
    let high : bit_and j (variables / 8) ≡ bit_and j (variables / 8 % 256) =
    rw (mod-eq_of_lt h) at (sym (mod-eq_of_lt (lt_of_le_of_lt (and_le_l j (variables / 8)) h)) ∙ and_mod j (variables / 8) 8) in
    omega (arith, rw (here, there) at (and_block 3 j (variables / 8) k (variables % 8) l (omega arith)))

-- some from 3 on
pub not_apart : (j k variables : ℕ) → j < 256 → k < 8 → 0 < bit_and j (variables / 8 % 256) → eqb (bit_and (8 * j + k) variables) 0 ≡ false
not_apart j k variables h l some = ne_eqb (bit_and (8 * j + k) variables) 0 (λ e. omega (arith, in_common j k variables h l))

-- none from 3 on: where bit k of byte v of a number says of the sets k and v below 8 whether they have none
-- in common, it says so of this one
abbrev says_apart : (number v k : ℕ) → Bool
says_apart number v k = odd (number / 2 ^ (8 * v) % 256 / 2 ^ k)

pub apart_below : (number : ℕ) → T (agree (says_apart number) (λ v k. eqb (bit_and k v) 0) 8 8)
    → (j k variables : ℕ) → j < 256 → k < 8 → bit_and j (variables / 8 % 256) ≡ 0
    → odd (number / 2 ^ (8 * (variables % 8)) % 256 / 2 ^ k) ≡ eqb (bit_and (8 * j + k) variables) 0
apart_below number t j k variables h l none =
    rw (in_common j k variables h l, none, add-zero)
    (agreed (says_apart number) (λ v k. eqb (bit_and k v) 0) 8 8 t (variables % 8) k (omega arith) l)

-- ---- what a map and a part have in common

module _ (map bytes : List ℕ) (part : ℕ) where
  -- whether a set is in both
  abbrev in_both : (A : ℕ) → Bool
  in_both A = member A (family_at map 0) && member A (family_at bytes part)

  -- `common` is not 0 just if a set below k is
  abbrev pub Meeting : (k common : ℕ) → Type 0
  Meeting k common = 0 < common ↔ ((A : ℕ) × (A < k) × T (in_both A))

  -- one byte more
  pub meeting_more : (j common : ℕ) → j < 128 → get_or bytes (128 * part + j) 0 < 256 → Meeting (8 * j) common
      → Meeting (8 * (j + 1)) (bit_or common (bit_and (get_or map j 0) (get_or bytes (128 * part + j) 0)))
  meeting_more j common h small m = (λ l. to l (lt_or_le 0 common), λ (A, l, t). from A l t (lt_or_le A (8 * j)))
    where
      byte : ℕ
      byte = bit_and (get_or map j 0) (get_or bytes (128 * part + j) 0)

      bit : (k : ℕ) → k < 8 → odd (byte / 2 ^ k) ≡ in_both (8 * j + k)
      bit k l = bit_and_lem (get_or map j 0) (get_or bytes (128 * part + j) 0) k ∙ rw (bit_in map j k h l, bit_at bytes part j k h l)

      to : 0 < bit_or common byte → (0 < common) ⊎ (common ≤ 0) → (A : ℕ) × (A < 8 * (j + 1)) × T (in_both A)
      to l (inl p) = let (A, b, t) = m.0 p in (A, omega arith, t)
      to l (inr p) =
          let none : common ≡ 0 = omega arith in
          let (k, b, t) = some_bit byte (lt_of_le_of_lt (and_le_r (get_or map j 0) (get_or bytes (128 * part + j) 0)) small) (rw none at l) in
          (8 * j + k, omega arith, rw (bit k b) at t)

      from : (A : ℕ) → A < 8 * (j + 1) → T (in_both A) → (A < 8 * j) ⊎ (8 * j ≤ A) → 0 < bit_or common byte
      from A l t (inl b) = omega (arith, m.1 (A, b, t), or_add_and common byte, and_le_r common byte)
      from A l t (inr b) =
          let here : 8 * j + (A - 8 * j) ≡ A = omega arith in
          let some : 0 < byte = no_zero byte (A - 8 * j) (rw (bit (A - 8 * j) (omega arith), here) t) in
          omega (arith, or_add_and common byte, and_le_l common byte)

  -- all bytes
  pub meeting_end : (j common : ℕ) → 128 ≤ j → Meeting (8 * j) common → T (not (eqb common 0)) ↔ Common (family_at map 0) (family_at bytes part)
  meeting_end j common h m = (
    λ t. let (A, l, b) = m.0 ((tested common).0 t) in (A, b),
    λ (A, t). (tested common).1 (m.1 (A, omega (arith, below_at map 0 A (and_left (member A (family_at map 0)) (member A (family_at bytes part)) t)), t)),
  )
    where
      tested : (n : ℕ) → T (not (eqb n 0)) ↔ 0 < n
      tested zero = (λ t. absurd t, λ l. absurd (omega arith))
      tested (suc n) = (λ t. omega arith, λ l. rw (eqb-suc-zero n) tt)
