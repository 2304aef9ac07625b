-- `suspect_maps::meets` meets its contract. The loop's invariant: `common` is not 0 just if one of the sets in the
-- bytes passed is both in the map and in the part. Assumes nothing.
use Prim.Native.Nat.{◌*◌}
use Rattle.suspect_maps.proofs.Maps.{Meeting}
use Rattle.suspect_maps.proofs.meets.Given as goal

abbrev pub invariant-loop-j : goal.invariant-loop-j
invariant-loop-j l = Meeting l.map l.work l.part (8 * l.j) l.common
