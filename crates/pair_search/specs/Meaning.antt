-- What the enum of a search means in change request A1: for each case its values. Promises use these. Assumes nothing.
use Rattle.pair_search.specs.declared.Found.{Found}
use Rattle.pair_search.specs.declared.Found.TheVariants.{Single, NoPair, Pair, Spent}
use Rattle.pair_search.specs.declared.Search.{Search}
use Rattle.pair_search.specs.Pairs.{PairFinding, single, no_pair, pair_at, spent, Searched}

-- what is found
abbrev pub pair_finding_of : Found → PairFinding
pair_finding_of (Single node set) = single node set
pair_finding_of NoPair = no_pair
pair_finding_of (Pair i j set) = pair_at i j set
pair_finding_of Spent = spent

-- and how many pairs were looked at
abbrev pub searched_of : Search → Searched
searched_of s = record { found = pair_finding_of s.found; looked = s.looked }
