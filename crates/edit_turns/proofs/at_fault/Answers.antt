-- `edit_turns::at_fault` meets its contract: only the fault is told anew. Assumes nothing.
use mathlib.Core.Path.{refl}
use Rattle.edit_turns.specs.Turns.{failed}
use Rattle.edit_turns.proofs.at_fault.Goals as goal

pub returns : goal.returns
unfolding failed
returns c = λ s work stands. record { is = stands.is; answers = stands.answers; faults = refl; counts = stands.counts }
