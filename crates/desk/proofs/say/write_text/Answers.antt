-- `desk::say::write_text` is safe: what is put has no more bytes than there is room for. Assumes nothing.
use Rattle.std.proofs.Common.{sym, arith, length-take-le, refl}
use Rattle.desk.proofs.say.write_text.Goals as goal

pub slice_bounds-text-end : goal.slice_bounds-text-end
slice_bounds-text-end g c =
    let few = c.requires.few _ _ _ (record { shown = _; shows = refl; left = _; met = c.put-count.ensures; leaves = refl }) in
    omega (arith, few, c.put-count.array_long)

pub slice_bounds-write_all-end : goal.slice_bounds-write_all-end
slice_bounds-write_all-end g c =
    let few = c.requires.few _ _ _ (record { shown = _; shows = refl; left = _; met = c.put-count.ensures; leaves = refl }) in
    sym (length-take-le _ _ (omega (arith, few, c.put-count.array_long)))
