-- There are no more steps than there may be.
use Rattle.std.proofs.Common.{ap}
use Rattle.derivations.specs.Meaning.{derived_of}
use Rattle.desk.proofs.picture.suspect_path.Goals as goal

pub path_of-requires : goal.path_of-requires
path_of-requires c = c.derive_held.ensures.most _ (ap derived_of c.in_ok-count.was)
