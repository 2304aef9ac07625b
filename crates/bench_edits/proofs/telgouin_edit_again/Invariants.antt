-- `bench_edits::telgouin_edit_again` meets its contract. The invariant: at most one answer a turn, at most 65,536
-- turns, and the work bytes keep their number. Assumes nothing.
use Prim.Native.Nat.{◌≤◌}
use mathlib.Core.Path.{◌≡◌}
use lib.ListN.{length}
use Rattle.bench_edits.proofs.telgouin_edit_again.Given as goal

abbrev pub invariant-loop-turn : goal.invariant-loop-turn
invariant-loop-turn l = (l.turn ≤ 65536) × (l.answered ≤ l.turn) × (length l.work ≡ 51200)
