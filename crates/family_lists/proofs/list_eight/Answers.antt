-- `family_lists::list_eight` meets its contract. The loop's invariant: the sets of the bytes passed that the
-- part holds are listed. A byte that is 0 has none (`listed_zero`). Assumes nothing.
use Prim.Native.Nat.{◌+◌, ◌*◌, ◌-◌, ◌<◌}
use mathlib.Core.Path.{◌≡◌}
use native.Mathlib.Nat.{add-zero}
use native.Mathlib.Omega.{arith}
use Rattle.families.proofs.Present.{bits_in, listed_zero}
use Rattle.family_lists.proofs.Eight.{eight_bytes, byte_at}
use Rattle.family_lists.proofs.list_eight.Goals as goal
use Rattle.family_lists.proofs.list_eight.Goals.{else-byte-ne0, then-byte-ne0}

pub loop-passed-init : goal.loop-passed-init
loop-passed-init c = record { few = omega arith; sets = λ start so_far. rw (add-zero (64 * c.args.eight)) so_far }

pub loop-passed-preserved : goal.loop-passed-preserved
loop-passed-preserved c =
    let args = c.args in
    let passed = c.loop-passed.passed in
    let so_far = c.loop-passed.invariant.sets in
    let from = 128 * args.part + 8 * args.eight in
    let all : from + 8 - from ≡ 8 = omega arith in
    let turn : passed < 8 = omega (arith, eight_bytes args.work.now from _ all (omega arith), c.loop-passed-test.true) in
    let bits = rw (← byte_at args.work.now from _ all passed turn) at (bits_in args.work.now args.part args.eight passed) in
    let next : 64 * args.eight + 8 * (passed + 1) ≡ 64 * args.eight + 8 * passed + 8 = omega arith in
    elim c.if-byte-ne0.branch [
      | then-byte-ne0 w ↦ rw (w.sets-is, w.listed-is, next) record {
        few = omega (arith, w.list_byte-listed.ensures.few);
        sets = λ start before. w.list_byte-listed.ensures.sets args.work.now start args.part bits (so_far start before);
      }
      | else-byte-ne0 w ↦ rw (w.sets-is, w.listed-is, next) record {
        few = omega arith;
        sets =
            λ start before.
            listed_zero args.work.now args.part (64 * args.eight + 8 * passed) start _ _ (rw w.if-byte-ne0.false at bits) (so_far start before) 8 (omega arith);
      }
    ]

pub returns : goal.returns
returns c =
    let from = 128 * c.args.part + 8 * c.args.eight in
    let turns : from + 8 - from ≡ 8 = omega arith in
    let all : c.loop-passed.passed ≡ 8 = omega (arith, eight_bytes c.args.work.now from _ turns (omega arith)) in
    let done = rw all at c.loop-passed.invariant in
    record {
      sets = done.sets;
      few = omega (arith, done.few);
    }
