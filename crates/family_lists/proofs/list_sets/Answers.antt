-- `family_lists::list_sets` meets its contract. The loop's invariant: the sets of the bytes passed that the
-- part holds are listed. Eight bytes that are 0 have none (`listed_zeros`). Assumes nothing.
use Prim.Native.Nat.{◌+◌, ◌*◌}
use mathlib.Core.Path.{◌≡◌, refl}
use native.Mathlib.Omega.{arith}
use Rattle.rules.specs.Records.{most_sets}
use Rattle.rule_laws.proofs.Tests.{pass}
use Rattle.families.specs.Parts.{sets_under, family_at}
use Rattle.families.specs.Present.{reversed, list_at}
use Rattle.families.proofs.Present.{listed_zeros}
use Rattle.family_lists.proofs.list_sets.Goals as goal
use Rattle.family_lists.proofs.list_sets.Goals.{else-not-eight_zeros, then-not-eight_zeros}

pub loop-eight-init : goal.loop-eight-init
unfolding sets_under reversed
loop-eight-init c = record { few = omega arith; sets = record { count = refl; sets = refl } }

pub loop-eight-preserved : goal.loop-eight-preserved
loop-eight-preserved c =
    let args = c.args in
    let eight = c.loop-eight.eight in
    let so_far = c.loop-eight.invariant.sets in
    let next : 64 * (eight + 1) ≡ 64 * eight + 64 = omega arith in
    elim c.if-not-eight_zeros.branch [
      | then-not-eight_zeros w ↦ rw (w.sets-is, w.listed-is, next) record {
        few = omega (arith, w.list_eight-listed.ensures.few);
        sets = w.list_eight-listed.ensures.sets args.sets.now so_far;
      }
      | else-not-eight_zeros w ↦ rw (w.sets-is, w.listed-is, next) record {
        few = omega arith;
        sets =
            listed_zeros args.work.now args.part eight args.sets.now _ _ (c.eight_zeros.ensures.0 (pass w.if-not-eight_zeros.false)) so_far 8 (omega arith);
      }
    ]

pub returns : goal.returns
unfolding family_at list_at
returns c = let all : 64 * c.loop-eight.eight ≡ most_sets = omega arith in
    let done = rw all at c.loop-eight.invariant.sets in
    record {
      sets = done.sets;
      count = done.count;
    }
