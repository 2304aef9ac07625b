-- `fitting` meets its contract. Assumes nothing.
use Rattle.std.proofs.Common.{ℕ, ◌≡◌, Bool, true, false, cond, arith, refl, min, ◌∙◌}
use borrow.Author.Tests.{ltb-true, ltb-false}
use lib.Dec.{ltb}
use Rattle.derivation_rules.specs.Derivations.{most_steps, fitting}
use Rattle.derivations.proofs.fitting.Goals as goal

lower : (whole : ℕ) → min whole most_steps ≡ cond (ltb most_steps whole) most_steps whole
lower whole = go (ltb most_steps whole) refl
  where
    go : (b : Bool) → ltb most_steps whole ≡ b → min whole most_steps ≡ cond b most_steps whole
    go true e = omega (arith, ltb-true most_steps whole e)
    go false e = omega (arith, ltb-false most_steps whole e)

pub returns : goal.returns
unfolding fitting
returns c = c.min.ensures ∙ lower _
