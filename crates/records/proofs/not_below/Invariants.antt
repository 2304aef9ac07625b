-- `records::not_below` meets its contract. The loop's invariant: the operands so far are below the number of nodes.
-- Assumes nothing.
use Rattle.std.proofs.Common.{ℕ, ◌<◌, get_or}
use Rattle.records.proofs.not_below.Given as goal

abbrev pub invariant-loop-j : goal.invariant-loop-j
invariant-loop-j l = (k : ℕ) → k < l.j → get_or l.body k 0 < l.nodes
