-- `pairs::single_or_none` meets its contract: the half of glitching signals decides. Assumes nothing.
use Rattle.pair_search.specs.Pairs.{unless_single}
use Rattle.pairs.proofs.single_or_none.Goals as goal

pub returns-in-Clear : goal.returns-in-Clear
unfolding unless_single
returns-in-Clear c = rw c.in-Clear.is c.no_pair.ensures

pub returns-in-Suspect : goal.returns-in-Suspect
unfolding unless_single
returns-in-Suspect c = rw c.in-Suspect.is
