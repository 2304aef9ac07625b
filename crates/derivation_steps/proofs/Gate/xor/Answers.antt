-- `xor` meets its contract: both operands in the settled layer, all rules in the glitch layer. Assumes nothing.
use Rattle.rules.specs.Records.{listed}
use Rattle.derivation_rules.specs.Derivations.{rules_of, layer_below, picked, first_made, chosen}
use Rattle.derivation_steps.proofs.Gate.xor.Goals as goal

pub returns-in-Settled : goal.returns-in-Settled
unfolding listed rules_of layer_below picked first_made chosen
returns-in-Settled c = rw c.in-Settled.is (rw c.in-Settled.is at c.both.ensures)

pub returns-in-Glitch : goal.returns-in-Glitch
unfolding listed rules_of layer_below picked first_made chosen
returns-in-Glitch c = rw c.in-Glitch.is (rw c.in-Glitch.is at c.spread.ensures)
