-- `family_lists::list_eight` meets its contract. The loop's invariant: the sets of the bytes passed that the
-- part holds are listed. A byte that is 0 has none (`listed_zero`). Assumes nothing.
use Prim.Native.Nat.{ℕ, ◌+◌, ◌*◌, ◌≤◌}
use mathlib.Core.List.{List}
use Rattle.families.specs.Present.{Listed}
use Rattle.family_lists.proofs.list_eight.Given as goal

abbrev pub invariant-loop-passed : goal.invariant-loop-passed
invariant-loop-passed l = record {
  few : l.listed ≤ l.before + 8 * l.passed;
  sets : (start : List ℕ) → Listed l.work l.part (64 * l.eight) start l.initial.sets l.before
      → Listed l.work l.part (64 * l.eight + 8 * l.passed) start l.sets l.listed;
}
