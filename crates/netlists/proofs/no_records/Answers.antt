-- `netlists::no_records` meets its contract: an array of one value is a padded list of no entries. Assumes nothing.
use Prim.Native.Nat.{ℕ}
use Rattle.rules.specs.Records.{most_variables, most_nodes}
use Rattle.netlists.specs.Netlists.{blank, flat_of}
use Rattle.netlists.proofs.Netlists.{padded_none}
use Rattle.netlists.proofs.no_records.Goals as goal

pub returns : goal.returns
unfolding flat_of
returns c = rw c.blank_node.ensures (cc (padded_none {A = ℕ} most_variables 0, padded_none most_nodes blank))
