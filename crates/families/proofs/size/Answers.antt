-- `families::size` meets its contract. The loop's invariant: `sets` counts those of the sets of the bytes passed that
-- the part holds. Assumes nothing.
use Prim.Native.Nat.{◌+◌, ◌*◌, ◌-◌, ◌<◌}
use mathlib.Core.Path.{◌≡◌, refl}
use native.Mathlib.Omega.{arith}
use Rattle.rules.specs.Records.{most_sets}
use Rattle.families.specs.Parts.{sets_under, family_at}
use Rattle.families.proofs.Parts.{length_below, bytes_length, bytes_at}
use Rattle.families.proofs.Present.{bits_of, length_more}
use Rattle.families.proofs.size.Goals as goal

pub loop-byte-init : goal.loop-byte-init
unfolding sets_under
loop-byte-init c = refl

pub overflow_add-sets : goal.overflow_add-sets
overflow_add-sets c = omega (arith, length_below c.args.work.now c.args.part (8 * c.loop-byte.byte-index))

pub loop-byte-preserved : goal.loop-byte-preserved
loop-byte-preserved c =
    let work = c.args.work.now in
    let part = c.args.part in
    let j = c.loop-byte.byte-index in
    let all : 128 * part + 128 - 128 * part ≡ 128 = omega arith in
    let turn : j < 128 = omega (arith, bytes_length work part _ c.requires all, c.loop-byte-test.true) in
    let next : 8 * (j + 1) ≡ 8 * j + 8 = omega arith in
    rw next
    (omega (arith, rw (bytes_at work part _ j all turn) at c.ones.ensures, length_more work part (8 * j) _ (bits_of work part j) 8 (omega arith)))

pub returns : goal.returns
unfolding family_at
returns c =
    let part = c.args.part in
    let all : 128 * part + 128 - 128 * part ≡ 128 = omega arith in
    let sets : 8 * c.loop-byte.byte-index ≡ most_sets = omega (arith, bytes_length c.args.work.now part _ c.requires all) in
    rw sets at c.loop-byte.invariant
