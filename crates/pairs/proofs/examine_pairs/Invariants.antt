-- `pairs::examine_pairs` meets its contract. The loop's invariant: what was under way where it began still is.
-- The measure is how many nodes are left. Assumes nothing.
use Prim.Native.Nat.{ℕ, ◌-◌}
use mathlib.Core.List.{List}
use Rattle.pairs.specs.Underway.{Underway}
use Rattle.pairs.proofs.examine_pairs.Given as goal

abbrev pub invariant-loop-work : goal.invariant-loop-work
invariant-loop-work l =
    (before : List ℕ) → Underway l.bytes l.entries l.limit before l.examined.netlist l.work l.initial.progress → Underway l.bytes l.entries l.limit before l.examined.netlist l.work l.progress

abbrev pub decreases-loop-work : goal.decreases-loop-work
decreases-loop-work l = l.progress.nodes - l.progress.next
