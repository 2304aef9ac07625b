-- The list of the sets present in a part: each is there once, in rising order, and no other.
-- And how a part is walked byte by byte: its list by one set more, and by a byte with no bit set; its number of
-- sets by the bits of a byte. By induction on the sets passed. A list and a product that are computed. Assumes nothing.
use Prim.Native.Nat.{ℕ, zero, suc, ◌+◌, ◌*◌, ◌/◌, ◌%◌, ◌^◌, ◌<◌, ◌≤◌}
use mathlib.Core.Path.{◌≡◌, refl, sym, ap, ◌∙◌}
use mathlib.Core.Logic.{◌⊎◌, inl, inr}
use mathlib.Core.Bool.{Bool, true, false, cond, ◌||◌, or_comm, or_assoc, or-false}
use mathlib.Core.List.{List, [], ◌∷◌, ◌++◌}
use native.Mathlib.Nat.{add-zero, add-suc, zero-div, eq-or-lt_of_le}
use native.Mathlib.Numerals.{add-one}
use native.Mathlib.Omega.{arith}
use lib.Dec.{eqb}
use lib.ListN.{length, get_or, set, take, drop, length-append, length-drop, get_or-append, get_or-eq_default}
use lib.Seq.{set_at, take_at, drop-cons, append_snoc, get_or_at}
use Rattle.rules.specs.Lists.{digit, member, insert, union}
use Rattle.rules.specs.Records.{odd, most_sets}
use Rattle.rules.specs.Families.{Family, product}
use Rattle.rule_laws.proofs.Tests.{lt_or_le}
use Rattle.rule_laws.proofs.Members.{All, entry_member}
use Rattle.families.specs.Parts.{holds_at, sets_under, family_at}
use Rattle.families.specs.Present.{reversed, list_at, Listed, BitsOf, bits_below, Sets}
use Rattle.families.proofs.Parts.{sets_below, member_at, below_at}

-- ---- a list from its last entry on

pub length_reversed : (xs : List ℕ) → length (reversed xs) ≡ length xs
unfolding reversed
length_reversed [] = refl
length_reversed (x ∷ xs) = omega (arith, length-append (reversed xs) (x ∷ []), length_reversed xs)

pub reversed_last : (xs : List ℕ) (x : ℕ) → reversed (xs ++ (x ∷ [])) ≡ x ∷ reversed xs
unfolding reversed
reversed_last [] x = refl
reversed_last (y ∷ xs) x = rw (reversed_last xs x)

pub reversed_twice : (xs : List ℕ) → reversed (reversed xs) ≡ xs
unfolding reversed
reversed_twice [] = refl
reversed_twice (x ∷ xs) = reversed_last (reversed xs) x ∙ ap (λ (ys : List ℕ). x ∷ ys) (reversed_twice xs)

pub member_append : (x : ℕ) (xs ys : List ℕ) → member x (xs ++ ys) ≡ (member x xs || member x ys)
unfolding member
member_append x [] ys = refl
member_append x (y ∷ xs) ys = rw (member_append x xs ys) (sym (or_assoc (eqb x y) (member x xs) (member x ys)))

pub member_reversed : (x : ℕ) (xs : List ℕ) → member x (reversed xs) ≡ member x xs
unfolding reversed member
member_reversed x [] = refl
member_reversed x (y ∷ xs) =
    rw (member_append x (reversed xs) (y ∷ []), member_reversed x xs, or-false (eqb x y)) (or_comm (member x xs) (eqb x y))

-- ---- the list of a part

-- a list is rising
abbrev Rising : List ℕ → Type 0
Rising xs = (i j : ℕ) → i < j → j < length xs → get_or xs i 0 < get_or xs j 0

-- a number above all goes behind
rising_more : (xs : List ℕ) (k : ℕ) → All (λ A. A < k) xs → Rising xs → Rising (xs ++ (k ∷ []))
rising_more xs k low up i j l h = go (eq-or-lt_of_le (omega (arith, length-append xs (k ∷ []))))
  where
    in_front : (n : ℕ) → n < length xs → get_or (xs ++ (k ∷ [])) n 0 ≡ get_or xs n 0
    in_front n = get_or-append xs (k ∷ []) 0 n

    go : (j ≡ length xs) ⊎ (j < length xs) → get_or (xs ++ (k ∷ [])) i 0 < get_or (xs ++ (k ∷ [])) j 0
    go (inl e) = rw (e, in_front i (omega arith), get_or_at xs k [] 0 (length xs) refl) (low (get_or xs i 0) (entry_member xs 0 i (omega arith)))
    go (inr m) = rw (in_front i (omega arith), in_front j m) (up i j l m)

-- so those of the sets below k that a part holds are
rising_below : (bytes : List ℕ) (part k : ℕ) → Rising (reversed (sets_under bytes part k))
unfolding sets_under reversed
rising_below bytes part zero = λ i j l h. absurd (omega arith)
rising_below bytes part (suc k) = go (holds_at bytes part k) (rising_below bytes part k)
  where
    F : Family
    F = sets_under bytes part k

    go : (b : Bool) → Rising (reversed F) → Rising (reversed (cond b (k ∷ F) F))
    go true up = rising_more (reversed F) k (λ A t. sets_below bytes part k A (rw member_reversed at t)) up
    go false up = up

-- the list of a part has each set that the part holds, and no other
pub listed_member : (bytes : List ℕ) (part A : ℕ) → A < most_sets → member A (list_at bytes part) ≡ holds_at bytes part A
unfolding list_at
listed_member bytes part A h = member_reversed A (family_at bytes part) ∙ member_at bytes part A h

-- and it is rising, so that each is there once
pub listed_rising : (bytes : List ℕ) (part i j : ℕ) → i < j → j < length (list_at bytes part)
    → get_or (list_at bytes part) i 0 < get_or (list_at bytes part) j 0
unfolding list_at family_at
listed_rising bytes part = rising_below bytes part most_sets

-- what is listed at the front of a slice
module _ (bytes : List ℕ) (part : ℕ) (slice rest : List ℕ) (listed : ℕ) (front : slice ≡ list_at bytes part ++ rest)
    (count : listed ≡ length (family_at bytes part)) where
  long : length (list_at bytes part) ≡ listed
  unfolding list_at
  long = length_reversed (family_at bytes part) ∙ sym count

  pub front_listed : take listed slice ≡ reversed (family_at bytes part)
  unfolding list_at
  front_listed = ap (take listed) front ∙ take_at (list_at bytes part) rest listed long

-- its entries are sets
pub listed_sets : (bytes : List ℕ) (part : ℕ) → Sets (reversed (family_at bytes part))
listed_sets bytes part i = go (lt_or_le i (length xs))
  where
    xs : List ℕ
    xs = reversed (family_at bytes part)

    go : (i < length xs) ⊎ (length xs ≤ i) → get_or xs i 0 < most_sets
    go (inl h) = below_at bytes part _ (rw member_reversed at (entry_member xs 0 i h))
    go (inr h) = rw (get_or-eq_default {A = ℕ} xs 0 h) (omega arith)

-- ---- byte by byte

-- bit k of byte j of a part is for set 8 × j + k
pub bits_of : (bytes : List ℕ) (part j : ℕ) → BitsOf (get_or bytes (128 * part + j) 0) bytes part (8 * j)
unfolding holds_at
bits_of bytes part j k h =
    let byte_of : (8 * j + k) / 8 ≡ j = omega arith in
    let bit_of : (8 * j + k) % 8 ≡ k = omega arith in
    rw (byte_of, bit_of)

-- so of the bytes from byte 8 × e on, eight of which make 64 sets
pub bits_in : (bytes : List ℕ) (part eight k : ℕ) → BitsOf (get_or bytes (128 * part + 8 * eight + k) 0) bytes part (64 * eight + 8 * k)
bits_in bytes part eight k =
    let byte : 128 * part + (8 * eight + k) ≡ 128 * part + 8 * eight + k = omega arith in
    let low : 8 * (8 * eight + k) ≡ 64 * eight + 8 * k = omega arith in
    rw (byte, low) at (bits_of bytes part (8 * eight + k))

-- one set more
pub below_next : (bytes : List ℕ) (part k : ℕ) (b : Bool) → holds_at bytes part k ≡ b
    → sets_under bytes part (k + 1) ≡ cond b (k ∷ sets_under bytes part k) (sets_under bytes part k)
unfolding sets_under
below_next bytes part k b e = rw (add-one k, e)

module _ (bytes : List ℕ) (part k : ℕ) (start now : List ℕ) (at : ℕ) (so_far : Listed bytes part k start now at) where
  -- the part has set k, which is listed
  pub listed_one : holds_at bytes part k ≡ true → at < length now → Listed bytes part (k + 1) start (set now at k) (at + 1)
  unfolding reversed
  listed_one e room = record {
    count = rw (below_next bytes part k true e) (omega (arith, so_far.count));
    sets =
        rw (so_far.sets, drop-cons start at 0 inside, set_at (reversed F) (get_or start at 0) (drop (suc at) start) k at long, below_next bytes part k true e, add-one at)
        (sym (append_snoc (reversed F) k (drop (suc at) start)));
  }
    where
      F : Family
      F = sets_under bytes part k

      long : length (reversed F) ≡ at
      long = length_reversed F ∙ sym so_far.count

      inside : at < length start
      inside = omega (arith, long, ap (λ (xs : List ℕ). length xs) so_far.sets, length-append (reversed F) (drop at start), length-drop at start)

  -- or does not
  pub listed_none : holds_at bytes part k ≡ false → Listed bytes part (k + 1) start now at
  listed_none e = record {
    count = rw (below_next bytes part k false e) so_far.count;
    sets = rw (below_next bytes part k false e) so_far.sets;
  }

-- of a byte with no bit set no set is listed
pub listed_zero : (bytes : List ℕ) (part low : ℕ) (start now : List ℕ) (at : ℕ) → BitsOf 0 bytes part low → Listed bytes part low start now at
    → (k : ℕ) → k ≤ 8 → Listed bytes part (low + k) start now at
listed_zero bytes part low start now at bits so_far zero h = rw (add-zero low) so_far
listed_zero bytes part low start now at bits so_far (suc k) h =
    rw (add-suc low k, ← (add-one (low + k)))
    (listed_none bytes part (low + k) start now at (listed_zero bytes part low start now at bits so_far k (omega arith))
    (sym (bits k h) ∙ ap odd (zero-div (2 ^ k))))

-- nor is one of eight such bytes
pub listed_zeros : (bytes : List ℕ) (part eight : ℕ) (start now : List ℕ) (at : ℕ)
    → ((k : ℕ) → k < 8 → get_or bytes (128 * part + 8 * eight + k) 0 ≡ 0) → Listed bytes part (64 * eight) start now at
    → (k : ℕ) → k ≤ 8 → Listed bytes part (64 * eight + 8 * k) start now at
listed_zeros bytes part eight start now at zeros so_far zero h = rw (add-zero (64 * eight)) so_far
listed_zeros bytes part eight start now at zeros so_far (suc k) h =
    let next : 64 * eight + 8 * suc k ≡ 64 * eight + 8 * k + 8 = omega arith in
    rw next
    (listed_zero bytes part (64 * eight + 8 * k) start now at (rw (zeros k h) at (bits_in bytes part eight k))
    (listed_zeros bytes part eight start now at zeros so_far k (omega arith)) 8 (omega arith))

-- a byte has as many bits set as the part has of its eight sets
pub length_more : (bytes : List ℕ) (part low byte : ℕ) → BitsOf byte bytes part low → (k : ℕ) → k ≤ 8
    → length (sets_under bytes part (low + k)) ≡ length (sets_under bytes part low) + bits_below byte k
unfolding bits_below
length_more bytes part low byte bits zero h = rw (add-zero low) (omega arith)
length_more bytes part low byte bits (suc k) h =
    rw (add-suc low k, ← (add-one (low + k)), below_next bytes part (low + k) (odd (byte / 2 ^ k)) (sym (bits k h)))
    (one_more (odd (byte / 2 ^ k)) (length_more bytes part low byte bits k (omega arith)))
  where
    one_more : (b : Bool) → length (sets_under bytes part (low + k)) ≡ length (sets_under bytes part low) + bits_below byte k
        → length (cond b ((low + k) ∷ sets_under bytes part (low + k)) (sets_under bytes part (low + k)))
        ≡ length (sets_under bytes part low) + (bits_below byte k + digit b)
    one_more true e = omega arith
    one_more false e = omega arith

-- ---- computed

-- the part whose first byte has bits 0 and 7 and whose second has bit 0 is listed from below
pub listed_rises : reversed (sets_under (129 ∷ 1 ∷ []) 0 16) ≡ 0 ∷ 7 ∷ 8 ∷ []
unfolding reversed sets_under holds_at
listed_rises = refl

-- two sets with themselves are four pairs, which make two sets: pairs are not counted by what they make
pub pairs_not_sets : length (product (1 ∷ 2 ∷ []) (1 ∷ 2 ∷ [])) ≡ 2 * 2 → ⊥
unfolding product union insert member
pairs_not_sets e = omega arith
