-- `suspect_maps::suspect_map` meets its contract. The loop's invariant: of the bytes passed, each bit says
-- whether its set meets the mask of the secrets, and not that of the masks; each other one is its own number.
-- Assumes nothing.
use Prim.Native.Nat.{ℕ, ◌+◌, ◌*◌, ◌-◌, ◌/◌, ◌%◌, ◌^◌}
use mathlib.Core.Path.{◌≡◌, sym, ◌∙◌}
use native.Mathlib.Nat.{div-add-mod}
use native.Mathlib.Omega.{arith}
use borrow.Author.Count.{below_more}
use lib.Bits.{bit_and}
use lib.ListN.{get_or, set, length-set}
use lib.Seq.{get_or-set_same, get_or-set_other}
use Rattle.rules.specs.Records.{odd}
use Rattle.rule_laws.proofs.Packing.{tabulate_length, tabulate_at}
use Rattle.suspect_maps.specs.Maps.{suspect_by}
use Rattle.suspect_maps.proofs.Maps.{bit_not, bit_and_lem, bit_in}
use Rattle.suspect_maps.proofs.suspect_map.Goals as goal

pub loop-byte-init : goal.loop-byte-init
loop-byte-init c = record {
  long = rw c.byte_numbers-map.ensures (tabulate_length (λ (j : ℕ). j) 128);
  passed = λ i k l h. absurd (omega arith);
  numbers = λ i l h. rw c.byte_numbers-map.ensures (tabulate_at (λ (j : ℕ). j) 128 i 0 h);
}

pub loop-byte-preserved : goal.loop-byte-preserved
loop-byte-preserved c =
    let loop = c.loop-byte in
    let args = c.args in
    let map = loop.byte-items in
    let j = loop.byte-index in
    let number = loop.invariant.numbers j (omega arith) (omega arith) in
    let byte : ℕ = bit_and (255 - c.disjoint_sets.result) c.disjoint_sets-in-loop-byte.result in record {
      long = simp length-set loop.invariant.long;
      passed =
          λ i k l h.
          below_more (λ i. odd (get_or (set map j byte) i 0 / 2 ^ k) ≡ suspect_by args.secrets args.masks (8 * i + k)) j
          (λ i l. rw (get_or-set_other map j i byte 0 (λ e. omega arith)) (loop.invariant.passed i k l h))
          (rw (
            get_or-set_same map j byte 0 (omega (arith, loop.invariant.long)),
            bit_and_lem (255 - c.disjoint_sets.result) c.disjoint_sets-in-loop-byte.result k,
            bit_not c.disjoint_sets.result k (omega arith) h,
            rw number at (c.disjoint_sets.ensures k h),
            rw number at (c.disjoint_sets-in-loop-byte.ensures k h),
          ))
          i l;
      numbers = λ i l h. rw (get_or-set_other map j i byte 0 (λ e. omega arith)) (loop.invariant.numbers i (omega arith) h);
    }

pub returns : goal.returns
returns c =
    λ A l.
    let loop = c.loop-byte in
    rw (div-add-mod A 8) at
    (sym (bit_in loop.byte-items (A / 8) (A % 8) (omega arith) (omega arith)) ∙ loop.invariant.passed (A / 8) (A % 8) (omega arith) (omega arith))
