-- `suspect_sets::classes_of` meets its contract: the variables of the two classes. Assumes nothing.
use Rattle.rules.specs.Records.{secret, mask}
use Rattle.suspect_sets.proofs.classes_of.Goals as goal

pub returns : goal.returns
returns c = λ n e. record {
  secrets = c.variables_of.ensures n secret e c.byte.ensures;
  masks = c.variables_of-2.ensures n mask e c.byte-2.ensures;
}
