-- `node_values::mark_all` meets its contract. Assumes nothing.
use Rattle.std.proofs.Common.{◌≡◌, ◌+◌, ◌<◌, ◌≤◌, sym, ◌∙◌, ℕ, Bool, true, List, set, length, get_or, drop, add-one}
use lib.ListN.{drop_of_length-le}
use lib.Seq.{drop-cons}
use Rattle.node_values.specs.Marks.{mark_all}
use Rattle.node_values.proofs.mark_all.Goals as goal

next : (nodes : List ℕ) (k : ℕ) (marks : List Bool) → k < length nodes
    → mark_all (drop k nodes) marks ≡ mark_all (drop (k + 1) nodes) (set marks (get_or nodes k 0) true)
unfolding mark_all
next nodes k marks h = rw (add-one, drop-cons nodes k 0 h)

-- where none are left, all are marked
all_marked : (nodes : List ℕ) (k : ℕ) (marks : List Bool) → length nodes ≤ k → mark_all (drop k nodes) marks ≡ marks
unfolding mark_all
all_marked nodes k marks h = rw (drop_of_length-le nodes h)

pub loop-operand-preserved : goal.loop-operand-preserved
loop-operand-preserved c = sym (next _ _ _ c.loop-operand-test.true) ∙ c.loop-operand.invariant

pub returns : goal.returns
returns c = sym (all_marked _ _ _ c.loop-operand-test.false) ∙ c.loop-operand.invariant
