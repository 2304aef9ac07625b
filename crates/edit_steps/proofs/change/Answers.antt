-- `edit_steps::change` meets its contract: a state beyond the limits is nobody's, and else the edit is the addition
-- or the removal. Assumes nothing.
use mathlib.Core.Logic.{⊎_elim}
use native.Mathlib.Omega.{arith}
use Rattle.edit_steps.proofs.Changing.{state_count, state_variables, refused_early}
use Rattle.edit_steps.proofs.change.Goals as goal

pub returns-then-loaded-gt-MOST_VARIABLES : goal.returns-then-loaded-gt-MOST_VARIABLES
returns-then-loaded-gt-MOST_VARIABLES c =
    rw c.at.ensures
    (refused_early _ _ _ _ _ _
    (λ n formed s.
    absurd
    (⊎_elim (λ over. omega (arith, over, state_variables n s, formed.few_variables)) (λ over. omega (arith, over.1, state_count n s, formed.few_nodes))
    c.then-loaded-gt-MOST_VARIABLES.either)))
