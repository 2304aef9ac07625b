-- `families::insert` meets its contract: one byte of the part is written, and has one more bit, that of the set;
-- every other byte of the part has the bits that it had, and no other set is in that byte at that bit. Assumes nothing.
use Prim.Native.Nat.{ℕ, ◌+◌, ◌*◌, ◌/◌, ◌%◌, ◌^◌, ◌<◌}
use mathlib.Core.Path.{◌≡◌, refl, ap, ap₂, ◌∙◌}
use mathlib.Core.Logic.{⊎_elim}
use mathlib.Core.Bool.{Bool, true, false, ◌||◌, or_comm}
use mathlib.Core.List.{List}
use native.Mathlib.Nat.{one-mul, mod-eq_of_lt}
use native.Mathlib.Omega.{arith}
use borrow.Author.Rules.{rules}
use borrow.Author.Tests.{eqb-true, eqb-false, eq-eqb, ne_eqb}
use lib.Bits.{bit_or, or_lt}
use lib.Dec.{eqb, eqb→eq}
use lib.ListN.{get_or, set, length-set}
use lib.Pow.{pow-lt}
use lib.Seq.{get_or-set_same, get_or-set_other}
use Rattle.rules.specs.Lists.{insert}
use Rattle.rules.specs.Records.{odd, most_sets}
use Rattle.rule_laws.proofs.Tests.{same_test, pass}
use Rattle.rule_laws.proofs.Lists.{member_insert}
use Rattle.families.specs.Parts.{HasPart, family_at, with_family}
use Rattle.families.proofs.Filling.{ByteOf, fill_end, bit_at, bit_or_lem, bit_power}
use Rattle.families.proofs.insert.Goals as goal

-- of a byte joined with 2 to the power k, bit k is set, and every other bit is as it was
with_bit : (byte k j : ℕ) → k < 8 → odd (bit_or byte (1 * 2 ^ k % 256) / 2 ^ j) ≡ (eqb j k || odd (byte / 2 ^ j))
with_bit byte k j h =
    rw (one-mul (2 ^ k), mod-eq_of_lt (pow-lt h))
    (bit_or_lem byte (2 ^ k) j ∙ or_comm (odd (byte / 2 ^ j)) (odd (2 ^ k / 2 ^ j)) ∙ ap (λ (b : Bool). b || odd (byte / 2 ^ j)) (bit_power k j))

-- bit A mod 8 set in byte A / 8
one_more : (work : List ℕ) (part A byte : ℕ) → HasPart work part → A < most_sets → ((i : ℕ) → get_or work i 0 < 256) → byte < 256
    → ((k : ℕ) → k < 8 → odd (byte / 2 ^ k) ≡ (eqb k (A % 8) || odd (get_or work (128 * part + A / 8) 0 / 2 ^ k)))
    → set work (128 * part + A / 8) byte ≡ with_family work part (insert A (family_at work part))
one_more work part A byte has l bytes b bits =
    fill_end has (omega arith) record {
      turns = omega arith;
      size = length-set work (128 * part + A / 8) byte;
      rest = λ i o. get_or-set_other work (128 * part + A / 8) i byte 0 (λ e. ⊎_elim (λ p. omega arith) (λ p. omega arith) o);
      done = λ i h. each i h (eqb i (A / 8)) refl;
    }
  where
    same : (k : ℕ) → k < 8 → eqb k (A % 8) ≡ eqb (8 * (A / 8) + k) A
    same k h =
        same_test (eqb k (A % 8)) (eqb (8 * (A / 8) + k) A)
        (λ t. pass (eq-eqb (8 * (A / 8) + k) A (omega (arith, eqb→eq k (A % 8) t))))
        (λ t. pass (eq-eqb k (A % 8) (omega (arith, eqb→eq (8 * (A / 8) + k) A t))))

    each : (i : ℕ) → i < 128 → (t : Bool) → eqb i (A / 8) ≡ t
        → ByteOf (insert A (family_at work part)) i (get_or (set work (128 * part + A / 8) byte) (128 * part + i) 0)
    each i h true e =
        rw (eqb-true i (A / 8) e, get_or-set_same work (128 * part + A / 8) byte 0 (omega arith)) record {
          below = b;
          bit = λ k h. rw member_insert (bits k h ∙ ap₂ ◌||◌ (same k h) (bit_at work part (A / 8) k (omega arith) h));
        }
    each i h false e =
        rw (get_or-set_other work (128 * part + A / 8) (128 * part + i) byte 0 (λ p. eqb-false i (A / 8) e (omega arith))) record {
          below = bytes (128 * part + i);
          bit = λ k l. rw (member_insert, ne_eqb (8 * i + k) A (λ p. eqb-false i (A / 8) e (omega arith))) (bit_at work part i k h l);
        }

pub returns : goal.returns
returns c =
    let args = c.args in
    let byte = get_or args.work.now (128 * args.part + args.set / 8) 0 in
    let low : (i : ℕ) → get_or args.work.now i 0 < 256 = λ i. search rules in
    one_more args.work.now args.part args.set _ c.requires.0 c.requires.1 low
    (or_lt 8 byte (1 * 2 ^ (args.set % 8) % 256) (low _) (omega arith))
    (λ k h. with_bit byte (args.set % 8) k (omega arith))
