-- `family_lists::list_sets` meets its contract. The loop's invariant: the sets of the bytes passed that the
-- part holds are listed. Eight bytes that are 0 have none (`listed_zeros`). Assumes nothing.
use Prim.Native.Nat.{◌*◌, ◌≤◌}
use Rattle.families.specs.Present.{Listed}
use Rattle.family_lists.proofs.list_sets.Given as goal

abbrev pub invariant-loop-eight : goal.invariant-loop-eight
invariant-loop-eight l = record {
  few : l.listed ≤ 64 * l.eight;
  sets : Listed l.work l.part (64 * l.eight) l.initial.sets l.sets l.listed;
}
