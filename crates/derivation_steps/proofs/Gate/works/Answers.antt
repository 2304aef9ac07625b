-- `works` meets its contract: both claims are looked up, the second only where the first is true. Assumes nothing.
use Rattle.std.proofs.Common.{ap}
use lib.Bits.{xor_lt}
use Rattle.rules.specs.Records.{most_variables}
use Rattle.derivation_rules.specs.Derivations.{Claim}
use Rattle.derivation_steps.proofs.Gate.works.Goals as goal

pub has-requires-then-has : goal.has-requires-then-has
has-requires-then-has c =
    let (size, _, second, set) = c.args.self.in_range in
    let other = c.of_second.ensures in (
      size,
      rw (ap (λ (d : Claim). d.node) other) second,
      rw (ap (λ (d : Claim). d.set) other) (xor_lt most_variables _ _ set c.requires),
    )
