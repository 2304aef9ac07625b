-- A reply with pairs in one number, for the benchmark. Cited by the contracts of this crate. Assumes nothing.
use Rattle.std.specs.Prelude.{ℕ, ◌+◌, ◌*◌, ◌%◌}
use Rattle.rules.specs.Checks.{Outcome, answered, refused}
use Rattle.pair_search.specs.Pairs.{PairFinding, single, no_pair, pair_at, spent, PairFindings}

-- the count of pairs, the case and three numbers of it, from the highest bits on: 16, 4 and thrice 12 bits
abbrev pub packed : (looked case first second third : ℕ) → ℕ
packed looked case first second third =
    (((looked % 65536 * 16 + case % 16) * 4096 + first % 4096) * 4096 + second % 4096) * 4096 + third % 4096

-- what is found, with the count
unfoldable pub packed_finding : PairFinding → (looked : ℕ) → ℕ
packed_finding (single node set) looked = packed looked 1 node set 0
packed_finding no_pair looked = packed looked 2 0 0 0
packed_finding (pair_at i j set) looked = packed looked 3 i j set
packed_finding spent looked = packed looked 4 0 0 0

-- and of a refusal number and place
unfoldable pub packed_reply : Outcome PairFindings → ℕ
packed_reply (refused number place) = packed 0 0 number place 0
packed_reply (answered f) = packed_finding f.searched.found f.searched.looked
