-- `suspects::scan` meets its contract. The nodes' loop: the nodes passed, from the first one scanned on,
-- report nothing. The loop in it: the sets at the places passed are not suspect members of the node's family.
-- A node is passed over that is not tested or whose family has no set in common with the map (`none_suspect`).
-- Assumes nothing.
use mathlib.Core.Path.{◌≡◌, sym, ap, ◌∙◌}
use native.Mathlib.Nat.{lt_of_lt_of_le}
use native.Mathlib.Omega.{arith}
use borrow.Author.Count.{below_more}
use lib.ListN.{length}
use Prim.Native.Nat.{ℕ}
use Rattle.rules.specs.Families.{suspect_at}
use Rattle.netlists.proofs.Netlists.{value_count}
use Rattle.set_order.proofs.Order.{set_low}
use Rattle.suspect_sets.proofs.Sets.{none_suspect, set_there, tested_there}
use Rattle.suspects.proofs.Search.{untested_none, none_there, first_there, pass_more, found_suspect, found_clear}
use Rattle.suspects.proofs.scan.Goals as goal
use Rattle.suspects.proofs.scan.Goals.{then-not-is_tested-via-then-not-is_tested, then-not-is_tested-via-else-not-is_tested+then-not-meets}

pub loop-i-preserved-then-not-is_tested : goal.loop-i-preserved-then-not-is_tested
loop-i-preserved-then-not-is_tested c =
    λ n e.
    pass_more n _ _ _ _ (c.loop-i.invariant n e)
    (elim c.then-not-is_tested.branch [
      | then-not-is_tested-via-then-not-is_tested w ↦
          untested_none n _ _ _ (sym (tested_there _ n e _ c.loop-i-test.true c.is_tested.ensures) ∙ w.if-not-is_tested.true)
      | then-not-is_tested-via-else-not-is_tested+then-not-meets w ↦
          none_there n _ _ _
          (rw (← c.part-part.ensures.at)
          (none_suspect n.variables _ _ _ w.meets.result (c.classes_of-classes.ensures n e) c.suspect_map-map.ensures w.meets.ensures
          w.if-not-meets.true))
    ])

pub suspect_in-requires : goal.suspect_in-requires
suspect_in-requires c =
    (omega arith, set_low (set_there _ _ _ c.from-set.ensures c.sets_in_order-order.ensures) c.loop-set-test.true)

pub loop-set-preserved : goal.loop-set-preserved
loop-set-preserved c =
    λ n e.
    let there = set_there _ _ _ c.from-set.ensures c.sets_in_order-order.ensures in
    below_more _ _ (c.loop-set.invariant n e)
    (rw (← there, ← c.part-part.ensures.at) (sym (c.suspect_in.ensures n.variables (c.classes_of-classes.ensures n e)) ∙ c.if-suspect_in.false))

pub loop-i-preserved : goal.loop-i-preserved
loop-i-preserved c =
    λ n e.
    pass_more n _ _ _ _ (c.loop-i.invariant n e)
    (none_there n _ _ _ (λ k l. c.loop-set.invariant n e k (lt_of_lt_of_le l c.loop-set-test.false)))

pub returns-after-loop-i-clause-found : goal.returns-after-loop-i-clause-found
returns-after-loop-i-clause-found c =
    λ n e.
    let i = c.loop-i.i in
    let all : i ≡ length n.nodes = omega (arith, value_count n e) in
    sym (found_clear n _ _ _ (rw all at (c.loop-i.invariant n e)))

-- where a set ends both loops, it is what is found
pub returns-then-suspect_in-clause-found : goal.returns-then-suspect_in-clause-found
returns-then-suspect_in-clause-found c =
    λ n e.
    let there = set_there _ _ _ c.from-set.ensures c.sets_in_order-order.ensures in
    let tests = sym (tested_there _ n e _ c.loop-i-test.true c.is_tested.ensures) ∙ c.if-not-is_tested.false in
    ap (λ (A : ℕ). suspect_at c.loop-i.i A) there
    ∙ sym
    (found_suspect n _ _ _ _ _ (omega arith) (omega (arith, value_count n e)) (c.loop-i.invariant n e)
    (first_there n _ _ _ tests _ c.loop-set-test.true
    (rw (← there, ← c.part-part.ensures.at) (sym (c.suspect_in.ensures n.variables (c.classes_of-classes.ensures n e)) ∙ c.if-suspect_in.true))
    (c.loop-set.invariant n e)))

pub returns-then-suspect_in-clause-within : goal.returns-then-suspect_in-clause-within
returns-then-suspect_in-clause-within c =
    (omega arith, omega arith, set_low (set_there _ _ _ c.from-set.ensures c.sets_in_order-order.ensures) c.loop-set-test.true)
