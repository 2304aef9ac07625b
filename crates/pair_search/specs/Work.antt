-- The reports of pairs by what the work bytes hold, of two blocks or of one, and when a search is over.
-- Cited by the contracts of this crate. Assumes nothing.
use Rattle.std.specs.Prelude.{ℕ, ◌+◌, ◌*◌, Bool, true, false, List}
use Rattle.std.proofs.Math.Option.{Option}
use Rattle.rules.specs.Records.{Class}
use Rattle.pair_tests.specs.Tests.{report_of_parts}
use Rattle.pair_search.specs.Pairs.{Pair, PairFinding, single, no_pair, pair_at, spent}

-- the set of a pair, if the product of the glitch families that the bytes of two blocks hold, one of node i and the
-- other of node j, has a suspect one
unfoldable pub report_between : List Class → (first second : List ℕ) → Pair → Option ℕ
report_between variables first second p = report_of_parts variables first (2 * p.i + 1) second (2 * p.j + 1)

-- the same of two nodes of one block
unfoldable pub report_in : List Class → List ℕ → Pair → Option ℕ
report_in variables bytes = report_between variables bytes bytes

-- whether a search ends with what it found
abbrev pub over : PairFinding → Bool
over (single node set) = true
over no_pair = false
over (pair_at i j set) = true
over spent = true
