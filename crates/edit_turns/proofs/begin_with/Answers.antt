-- `edit_turns::begin_with` meets its contract: where a block was refused, there is no answer of which a turn could be
-- told. Assumes nothing.
use mathlib.Core.Path.{refl}
use Rattle.edit_turns.specs.Turns.{begun}
use Rattle.edit_turns.proofs.Outcomes.{opened_answer}
use Rattle.edit_turns.proofs.begin_with.Goals as goal

pub returns-in-Ok-clause-stands : goal.returns-in-Ok-clause-stands
unfolding begun
returns-in-Ok-clause-stands c =
    rw c.in-Ok.is
    (λ n work held says. record { is = held; answers = opened_answer n _ says; faults = refl; counts = refl })
