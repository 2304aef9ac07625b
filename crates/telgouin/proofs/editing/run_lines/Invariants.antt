-- Each turn adds one event to the run so far, and uses up one of the turns that are left.
use Rattle.std.proofs.Common.{◌<◌, ◌≡◌, true}
use Rattle.telgouin.specs.Editing.{Ran}
use Rattle.telgouin.proofs.editing.run_lines.Given as goal

abbrev pub invariant-loop-last : goal.invariant-loop-last
invariant-loop-last g l =
    Ran l.initial.last.turn l.last.turn l.initial.last.left l.last.left l.initial.work l.work × (l.last.more ≡ true → 0 < l.last.left)

abbrev pub decreases-loop-last : goal.decreases-loop-last
decreases-loop-last g l = l.last.left
