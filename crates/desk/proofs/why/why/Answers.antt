-- `desk::why::why` is safe and ends: there are no more steps than there may be. Assumes nothing.
use Rattle.std.proofs.Common.{ap}
use Rattle.derivations.specs.Meaning.{derived_of}
use Rattle.desk.proofs.why.why.Goals as goal

pub say_steps-requires : goal.say_steps-requires
say_steps-requires c = c.derive_held.ensures.most _ (ap derived_of c.in-Ok.is)
