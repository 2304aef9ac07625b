-- `read_words::block_of` meets its contract. The loop's invariant: what the text says is said by the block so far and
-- the lines from here on. The measure is what is left of the text. Assumes nothing.
use Prim.Native.Nat.{◌-◌, ◌≤◌}
use lib.ListN.{length}
use Rattle.read_words.proofs.Lines.{Reached}
use Rattle.read_words.proofs.block_of.Given as goal

abbrev pub invariant-loop-at : goal.invariant-loop-at
invariant-loop-at l = (l.at ≤ length l.text) × (l.line ≤ l.at) × Reached l.text l.initial.bytes l.initial.lines l.bytes l.lines l.count l.line l.at

abbrev pub decreases-loop-at : goal.decreases-loop-at
decreases-loop-at l = length l.text - l.at
