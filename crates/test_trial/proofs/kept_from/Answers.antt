-- `test_trial::kept_from` meets its contract: the lowest number stays where the test holds, and else is the next one.
-- Assumes nothing.
use mathlib.Core.Path.{refl, sym, ap, ◌∙◌}
use native.Mathlib.Omega.{arith}
use Rattle.test_trial.specs.Before.{kept_from}
use Rattle.test_trial.proofs.Kept.{kept_on, kept_next}
use Rattle.test_trial.proofs.kept_from.Goals.{then-not-same, else-not-same}
use Rattle.test_trial.proofs.kept_from.Goals as goal

pub loop-k-init : goal.loop-k-init
unfolding kept_from
loop-k-init g c = λ test tells. refl

pub loop-k-preserved : goal.loop-k-preserved
loop-k-preserved g c = λ test tells.
    let told = tells _ _ c.loop-k-test.true c.same.ensures in
    elim c.if-not-same.branch [
      | then-not-same w ↦ w.from-is ∙ kept_next _ _ (sym told ∙ w.if-not-same.true)
      | else-not-same w ↦ kept_on _ _ (sym told ∙ w.if-not-same.false) (w.from-is ∙ c.loop-k.invariant test tells)
    ]

pub returns : goal.returns
returns g c = λ test tells. c.loop-k.invariant test tells ∙ ap (kept_from test) (omega arith)
