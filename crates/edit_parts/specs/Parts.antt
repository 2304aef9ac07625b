-- What is offered to a block, and what moves where a node is removed. Cited by the contracts of this crate, below the
-- entry points. Assumes nothing.
use Rattle.std.specs.Prelude.{Result, Ok, Err}
use Rattle.rules.specs.declared.Refusal.{Refusal}
use Rattle.std.specs.Prelude.{ℕ, ◌+◌, ◌*◌, ◌-◌, ◌<◌, ◌≡◌, List, Option, length, drop, MatchOption}
use Rattle.std.proofs.Math.Seq.{paste}
use Rattle.rules.specs.declared.Node.{Node}
use Rattle.rules.specs.Records.{Netlist}
use Rattle.rules.specs.Checks.{Outcome, answered, refused}
use Rattle.rules.specs.Paper.{number_of, place_of}
use Rattle.edit_rules.specs.Edits.{lowest_user}

-- what is offered: a node record, or a refusal
abbrev pub offered_of : Result Node Refusal → Outcome Node
offered_of (Ok e) = answered e
offered_of (Err r) = refused (number_of r) (place_of r)

-- node i's lowest user in a netlist, if some node uses it
abbrev pub IsLowestUser : (i : ℕ) → Netlist → Option ℕ → Type 0
IsLowestUser i n user = MatchOption user (lowest_user i n.nodes ≡ length n.nodes) (λ j. (j < length n.nodes) × (j ≡ lowest_user i n.nodes))

-- the work bytes once the families of node `removed`, of so many nodes, are removed: those behind it move down,
-- and the last 256 bytes stay
unfoldable pub moved_down : (removed count : ℕ) → List ℕ → List ℕ
moved_down removed count work = paste work (256 * removed) (drop (256 * (removed + 1)) work) (256 * (count - 1 - removed))
