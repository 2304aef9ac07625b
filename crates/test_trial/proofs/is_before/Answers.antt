-- `test_trial::is_before` meets its contract: on each way the tests are known, as far as the result depends on them.
-- Assumes nothing.
use borrow.Author.Tests.{eq-eqb, ne_eqb}
use Rattle.test_trial.specs.Before.{is_before}
use Rattle.test_trial.proofs.is_before.Goals as goal

pub returns-then-held-eq5 : goal.returns-then-held-eq5
unfolding is_before
returns-then-held-eq5 c = rw (eq-eqb _ _ c.if-node-eq9.true, eq-eqb _ _ c.if-node-eq8.true, eq-eqb _ _ c.if-node-eq7.true, eq-eqb _ _ c.if-node-eq6.true, eq-eqb _ _ c.if-held-eq5.true)

pub returns-else-held-eq5 : goal.returns-else-held-eq5
unfolding is_before
returns-else-held-eq5 c = rw (eq-eqb _ _ c.if-node-eq9.true, eq-eqb _ _ c.if-node-eq8.true, eq-eqb _ _ c.if-node-eq7.true, eq-eqb _ _ c.if-node-eq6.true, ne_eqb _ _ c.if-held-eq5.false)

pub returns-else-node-eq6 : goal.returns-else-node-eq6
unfolding is_before
returns-else-node-eq6 c = rw (eq-eqb _ _ c.if-node-eq9.true, eq-eqb _ _ c.if-node-eq8.true, eq-eqb _ _ c.if-node-eq7.true, ne_eqb _ _ c.if-node-eq6.false)

pub returns-else-node-eq7 : goal.returns-else-node-eq7
unfolding is_before
returns-else-node-eq7 c = rw (eq-eqb _ _ c.if-node-eq9.true, eq-eqb _ _ c.if-node-eq8.true, ne_eqb _ _ c.if-node-eq7.false)

pub returns-else-node-eq8 : goal.returns-else-node-eq8
unfolding is_before
returns-else-node-eq8 c = rw (eq-eqb _ _ c.if-node-eq9.true, ne_eqb _ _ c.if-node-eq8.false)

pub returns-else-node-eq9 : goal.returns-else-node-eq9
unfolding is_before
returns-else-node-eq9 c = rw (ne_eqb _ _ c.if-node-eq9.false)
