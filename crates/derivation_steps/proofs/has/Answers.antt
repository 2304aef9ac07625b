-- `has` meets its contract: it looks into the part that holds the node's family in the layer. Assumes nothing.
use mathlib.Core.Path.{sym, ap, ◌∙◌}
use Rattle.rules.specs.Lists.{member}
use Rattle.derivation_rules.specs.Derivations.{claimed}
use Rattle.derivation_steps.specs.Meaning.{layer_meant}
use Rattle.derivation_steps.proofs.Claims.{part_of, layer_as}
use Rattle.derivation_steps.proofs.has.Goals as goal

pub returns : goal.returns
unfolding claimed
returns c =
    let a = c.args in
    rw (c.part.ensures.at, layer_as) at c.holds.ensures ∙ ap (member _) (sym (part_of a.work.now a.claim.node (layer_meant a.claim.layer) c.requires.1))
