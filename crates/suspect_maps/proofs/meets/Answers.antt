-- `suspect_maps::meets` meets its contract. The loop's invariant: `common` is not 0 just if one of the sets in the
-- bytes passed is both in the map and in the part. Assumes nothing.
use Prim.Native.Nat.{◌+◌, ◌*◌, ◌-◌, ◌<◌}
use mathlib.Core.Path.{◌≡◌}
use native.Mathlib.Omega.{arith}
use Rattle.families.proofs.Parts.{bytes_length, bytes_at}
use Rattle.suspect_maps.proofs.Maps.{meeting_more, meeting_end}
use Rattle.suspect_maps.proofs.meets.Goals as goal

pub loop-j-init : goal.loop-j-init
loop-j-init c = (λ l. absurd (omega arith), λ (A, l, t). absurd (omega arith))

pub loop-j-preserved : goal.loop-j-preserved
loop-j-preserved c =
    let work = c.args.work.now in
    let part = c.args.part in
    let j = c.loop-j.j in
    let all : 128 * part + 128 - 128 * part ≡ 128 = omega arith in
    let turn : j < 128 = omega (arith, bytes_length work part _ c.requires all, c.loop-j-test.true) in
    rw (bytes_at work part _ j all turn) (meeting_more _ _ _ _ _ turn (c.type_inv.work (128 * part + j)).fits c.loop-j.invariant)

pub returns : goal.returns
returns c =
    let part = c.args.part in
    let all : 128 * part + 128 - 128 * part ≡ 128 = omega arith in
    meeting_end _ _ _ c.loop-j.j _ (omega (arith, bytes_length c.args.work.now part _ c.requires all)) c.loop-j.invariant
