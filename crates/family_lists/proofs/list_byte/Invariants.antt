-- `family_lists::list_byte` meets its contract. The loop's invariant: those of the sets up to the bits passed are
-- listed. Assumes nothing.
use Prim.Native.Nat.{ℕ, ◌+◌, ◌≤◌}
use mathlib.Core.List.{List}
use Rattle.families.specs.Present.{BitsOf, Listed}
use Rattle.family_lists.proofs.list_byte.Given as goal

abbrev pub invariant-loop-k : goal.invariant-loop-k
invariant-loop-k l = record {
  few : l.at ≤ l.listed + l.k;
  sets : (bytes start : List ℕ) (part : ℕ) → BitsOf l.byte bytes part l.low → Listed bytes part l.low start l.initial.sets l.listed
      → Listed bytes part (l.low + l.k) start l.sets l.at;
}
