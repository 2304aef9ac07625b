-- `telgouin_derive` meets its contract: the number of steps is that of the reply. Assumes nothing.
use Rattle.std.proofs.Common.{ap}
use Rattle.bench_derivations.specs.Packed.{packed_steps}
use Rattle.bench_derivations.proofs.telgouin_derive.Goals as goal

pub returns-in-Ok-clause-reply : goal.returns-in-Ok-clause-reply
unfolding packed_steps
returns-in-Ok-clause-reply c = ap packed_steps c.in-Ok.ensures.reply
