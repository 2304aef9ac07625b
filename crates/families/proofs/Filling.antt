-- A loop that writes a part byte by byte: after j turns the part's first j bytes have the bits of a family,
-- and all else is as it was; after 128 the family is in the part. And the bits of bytes that are joined,
-- and of powers of two. Assumes nothing.
use Prim.Native.Nat.{ℕ, zero, suc, ◌+◌, ◌*◌, ◌/◌, ◌%◌, ◌^◌, ◌≤◌, ◌<◌}
use mathlib.Core.Path.{◌≡◌, refl, sym, ◌∙◌}
use mathlib.Core.Logic.{◌⊎◌, inl, inr, ⊎_elim}
use mathlib.Core.Bool.{true, false, ◌||◌, or_comm}
use mathlib.Core.List.{List}
use native.Mathlib.Nat.{eq-or-lt_of_le, div-add-mod, div-one, zero-div, two-pow-succ}
use native.Mathlib.Omega.{arith}
use lib.Bits.{bit_or, or_shr, or_mod, or_lt}
use lib.Dec.{eqb, eqb-zero-suc, eqb-suc-zero, eqb-suc-suc}
use lib.ListN.{length, get_or, set, length-set}
use lib.Seq.{get_or-set_same, get_or-set_other}
use Rattle.rules.specs.Lists.{digit, member, union}
use Rattle.rules.specs.Records.{odd}
use Rattle.rules.specs.Families.{Family}
use Rattle.rule_laws.proofs.Lists.{member_union}
use Rattle.rule_laws.proofs.Sets.{lowest_bit, other_bits}
use Rattle.families.specs.Parts.{HasPart, holds_at, family_at, with_family}
use Rattle.families.proofs.Parts.{member_at, written}
use Rattle.families.proofs.Present.{bits_of}

-- a byte that is byte j of a family
pub record ByteOf (F : Family) (j byte : ℕ) : Type 0 where
  pub below : byte < 256
  pub bit : (k : ℕ) → k < 8 → odd (byte / 2 ^ k) ≡ member (8 * j + k) F

-- the part's first j bytes are those of F
pub record Filled (before : List ℕ) (part : ℕ) (F : Family) (j : ℕ) (after : List ℕ) : Type 0 where
  pub turns : j ≤ 128
  pub size : length after ≡ length before
  pub rest : (i : ℕ) → (i < 128 * part) ⊎ (128 * part + j ≤ i) → get_or after i 0 ≡ get_or before i 0
  pub done : (i : ℕ) → i < j → ByteOf F i (get_or after (128 * part + i) 0)

module _ {before : List ℕ} {part : ℕ} {F : Family} where
  pub fill_start : Filled before part F 0 before
  fill_start = record { turns = omega arith; size = refl; rest = λ i o. refl; done = λ i h. absurd (omega arith) }

  pub fill_more : {j : ℕ} {after : List ℕ} {byte : ℕ} → HasPart before part → j < 128 → Filled before part F j after → ByteOf F j byte
      → Filled before part F (j + 1) (set after (128 * part + j) byte)
  fill_more {j} {after} {byte} has h f b = record {
    turns = omega arith;
    size = length-set after (128 * part + j) byte ∙ f.size;
    rest = λ i o. get_or-set_other after (128 * part + j) i byte 0 (other i o) ∙ f.rest i (⊎_elim inl (λ l. inr (omega arith)) o);
    done = λ i l. next i (eq-or-lt_of_le (omega arith));
  }
    where
      other : (i : ℕ) → (i < 128 * part) ⊎ (128 * part + (j + 1) ≤ i) → i ≡ 128 * part + j → ⊥
      other i (inl l) e = omega arith
      other i (inr l) e = omega arith

      next : (i : ℕ) → (i ≡ j) ⊎ (i < j) → ByteOf F i (get_or (set after (128 * part + j) byte) (128 * part + i) 0)
      next i (inl e) = rw (e, get_or-set_same after (128 * part + j) byte 0 (omega arith)) b
      next i (inr l) = rw (get_or-set_other after (128 * part + j) (128 * part + i) byte 0 (λ e. omega arith)) (f.done i l)

  pub fill_end : {j : ℕ} {after : List ℕ} → HasPart before part → 128 ≤ j → Filled before part F j after → after ≡ with_family before part F
  unfolding holds_at
  fill_end {j} {after} has h f =
      written before after part F has f.size
      (λ i o. f.rest i (⊎_elim inl (λ l. inr (omega arith)) o))
      (λ i l. (f.done i (omega arith)).below)
      (λ A l. rw (div-add-mod A 8) at ((f.done (A / 8) (omega arith)).bit (A % 8) (omega arith)))

-- ---- the bytes that such a loop reads

-- bit k of byte j of a part is for set 8 × j + k
pub bit_at : (bytes : List ℕ) (part j k : ℕ) → j < 128 → k < 8
    → odd (get_or bytes (128 * part + j) 0 / 2 ^ k) ≡ member (8 * j + k) (family_at bytes part)
bit_at bytes part j k h l = bits_of bytes part j k l ∙ sym (member_at bytes part (8 * j + k) (omega arith))

-- a byte that the loop has not written, of this part or of another, is that of its part's family
pub unwritten : {before after : List ℕ} {part j : ℕ} {F : Family} (other i : ℕ) → Filled before part F j after
    → (128 * other + i < 128 * part) ⊎ (128 * part + j ≤ 128 * other + i) → i < 128 → get_or after (128 * other + i) 0 < 256
    → ByteOf (family_at before other) i (get_or after (128 * other + i) 0)
unwritten {before} {after} other i f o h b = record {
  below = b;
  bit = λ k l. rw (f.rest (128 * other + i) o) (bit_at before other i k h l);
}

-- ---- the bits of bytes that are joined

pub bit_or_lem : (a b k : ℕ) → odd (bit_or a b / 2 ^ k) ≡ (odd (a / 2 ^ k) || odd (b / 2 ^ k))
bit_or_lem a b k = rw (or_shr a b k, or_mod (a / 2 ^ k) (b / 2 ^ k) 1) (lowest (a / 2 ^ k % 2) (b / 2 ^ k % 2) (omega arith) (omega arith))
  where
    lowest : (x y : ℕ) → x < 2 → y < 2 → eqb (bit_or x y) 1 ≡ (eqb x 1 || eqb y 1)
    lowest zero zero p q = refl
    lowest zero (suc zero) p q = refl
    lowest (suc zero) zero p q = refl
    lowest (suc zero) (suc zero) p q = refl
    lowest zero (suc (suc y)) p q = absurd (omega arith)
    lowest (suc zero) (suc (suc y)) p q = absurd (omega arith)
    lowest (suc (suc x)) y p q = absurd (omega arith)

-- bytes of two families, joined
pub joined : {F G : Family} {j a b : ℕ} → ByteOf F j a → ByteOf G j b → ByteOf (union G F) j (bit_or a b)
joined {F} {G} {j} {a} {b} p q = record {
  below = or_lt 8 a b p.below q.below;
  bit = λ k h. rw (bit_or_lem a b k, p.bit k h, q.bit k h, member_union (8 * j + k) G F) (or_comm (member (8 * j + k) F) (member (8 * j + k) G));
}

double : (k : ℕ) → 2 ^ suc k ≡ digit false + 2 * 2 ^ k
double k = omega (arith, two-pow-succ k)

-- a power of two has one bit
pub bit_power : (k j : ℕ) → odd (2 ^ k / 2 ^ j) ≡ eqb j k
bit_power zero zero = refl
bit_power zero (suc j) = rw (other_bits true 0 j, zero-div) (sym (eqb-suc-zero j))
bit_power (suc k) zero = rw (div-one, double k, lowest_bit false (2 ^ k)) (sym (eqb-zero-suc k))
bit_power (suc k) (suc j) = rw (double k, other_bits false (2 ^ k) j, eqb-suc-suc) (bit_power k j)
