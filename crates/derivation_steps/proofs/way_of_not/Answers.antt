-- `way_of_not` meets its contract: in the settled layer the operand has the set; in the glitch layer it has it,
-- or the set is empty. Assumes nothing.
use Rattle.std.proofs.Common.{refl}
use Rattle.rules.specs.Records.{listed}
use Rattle.derivation_rules.specs.Derivations.{rules_of, layer_below, picked, product_of, needed, first_made, chosen}
use Rattle.derivation_steps.proofs.Claims.{claim_known}
use Rattle.derivation_steps.proofs.way_of_not.Goals as goal

pub returns-in-Settled : goal.returns-in-Settled
unfolding listed rules_of layer_below picked product_of needed first_made chosen
returns-in-Settled c = rw c.in-Settled.is

pub returns-in-Glitch : goal.returns-in-Glitch
unfolding listed rules_of layer_below picked product_of needed first_made chosen
returns-in-Glitch c =
    let told = claim_known _ c.has.ensures refl c.if-has.true in rw (c.in-Glitch.is, rw c.in-Glitch.is at told)

pub returns-in-Glitch-2 : goal.returns-in-Glitch-2
unfolding listed rules_of layer_below picked product_of needed first_made chosen
returns-in-Glitch-2 c =
    let told = claim_known _ c.has.ensures refl c.if-has.false in rw (c.in-Glitch.is, rw c.in-Glitch.is at told)
