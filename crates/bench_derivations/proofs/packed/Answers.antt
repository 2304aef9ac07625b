-- `packed` meets its contract. Assumes nothing.
use Rattle.bench_derivations.specs.Packed.{packed_steps}
use Rattle.bench_derivations.proofs.packed.Goals as goal

pub returns : goal.returns
unfolding packed_steps
returns c = rw c.number_of.ensures
