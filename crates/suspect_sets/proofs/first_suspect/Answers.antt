-- `suspect_sets::first_suspect` meets its contract. Where the part and the map have no set in common,
-- none is suspect (`none_suspect`). The loop's invariant: the sets at the places passed are not suspect members.
-- Assumes nothing.
use mathlib.Core.Path.{sym, ◌∙◌}
use native.Mathlib.Nat.{lt_of_lt_of_le}
use borrow.Author.Count.{below_more}
use Rattle.families.proofs.Parts.{below_at}
use Rattle.set_order.proofs.Order.{set_low}
use Rattle.suspect_sets.specs.Sets.{report_of}
use Rattle.suspect_sets.proofs.Sets.{reported_nothing, reported_first, none_suspect, set_there}
use Rattle.suspect_sets.proofs.first_suspect.Goals as goal

pub returns-then-not-meets-clause-reported : goal.returns-then-not-meets-clause-reported
unfolding report_of
returns-then-not-meets-clause-reported c =
    λ variables by.
    sym
    (reported_nothing variables _ (below_at _ _)
    (none_suspect variables _ _ _ c.meets.result by c.suspect_map-map.ensures c.meets.ensures c.if-not-meets.true))

pub suspect_in-requires : goal.suspect_in-requires
suspect_in-requires c =
    (c.requires, set_low (set_there _ _ _ c.from-set.ensures c.sets_in_order-set-items.ensures) c.loop-set-test.true)

pub returns-then-suspect_in-clause-reported : goal.returns-then-suspect_in-clause-reported
unfolding report_of
returns-then-suspect_in-clause-reported c =
    λ variables by.
    let there = set_there _ _ _ c.from-set.ensures c.sets_in_order-set-items.ensures in
    rw there
    (sym
    (reported_first variables _ (below_at _ _) _ c.loop-set-test.true
    (rw (← there) (sym (c.suspect_in.ensures variables by) ∙ c.if-suspect_in.true)) (c.loop-set.invariant variables by)))

pub returns-then-suspect_in-clause-is_set : goal.returns-then-suspect_in-clause-is_set
returns-then-suspect_in-clause-is_set c =
    set_low (set_there _ _ _ c.from-set.ensures c.sets_in_order-set-items.ensures) c.loop-set-test.true

pub loop-set-preserved : goal.loop-set-preserved
loop-set-preserved c =
    λ variables by.
    let there = set_there _ _ _ c.from-set.ensures c.sets_in_order-set-items.ensures in
    below_more _ _ (c.loop-set.invariant variables by)
    (rw (← there) (sym (c.suspect_in.ensures variables by) ∙ c.if-suspect_in.false))

pub returns-clause-reported : goal.returns-clause-reported
unfolding report_of
returns-clause-reported c =
    λ variables by.
    sym
    (reported_nothing variables _ (below_at _ _)
    (λ k l. c.loop-set.invariant variables by k (lt_of_lt_of_le l c.loop-set-test.false)))
