-- What the types of this crate mean: a layer, a claim, and a rule with what it needs; the sets that work in rule 6;
-- and which numbers can be looked up. Cited by the contracts. Assumes nothing.
use Rattle.std.specs.Prelude.{ℕ, ◌≤◌, ◌<◌, Bool, ◌&&◌, List, [], ◌∷◌, length}
use Rattle.std.specs.Int.Bits.{bit_xor}
use Rattle.rules.specs.Records.{most_nodes, most_sets}
use Rattle.rules.specs.Checks.{most_work}
use Rattle.nodes.specs.Work.{so_far}
use Rattle.derivation_rules.specs.Derivations as R
use Rattle.derivation_rules.specs.Derivations.{settled, glitch, claim, claimed, way}
use Rattle.families.specs.declared.Layer.{Layer}
use Rattle.families.specs.declared.Layer.TheVariants.{Settled, Glitch}
use Rattle.derivation_steps.specs.declared.Claim.{Claim}
use Rattle.derivation_steps.specs.declared.Way.{Way}
use Rattle.derivation_steps.specs.declared.Way.TheVariants.{Own, Operand, Empty, First, Second, Both}

abbrev pub layer_meant : Layer → R.Layer
layer_meant Settled = settled
layer_meant Glitch = glitch

abbrev pub claim_of : Claim → R.Claim
claim_of c = claim c.node (layer_meant c.layer) c.set

abbrev pub way_of : Way → R.Way
way_of Own = way 1 []
way_of (Operand c) = way 2 (claim_of c ∷ [])
way_of Empty = way 3 []
way_of (First c) = way 4 (claim_of c ∷ [])
way_of (Second c) = way 5 (claim_of c ∷ [])
way_of (Both c d) = way 6 (claim_of c ∷ claim_of d ∷ [])

-- whether a set of the first operand works in rule 6, by work bytes that hold the families
abbrev pub works_of : (work : List ℕ) → R.Layer → (first second set candidate : ℕ) → Bool
works_of work ℓ first second A B =
    claimed (so_far work most_nodes) (claim first ℓ B) && claimed (so_far work most_nodes) (claim second ℓ (bit_xor A B))

-- work bytes that have room for the families of every netlist, two operands that are numbers of nodes, and the number
-- of a set
abbrev pub InRange : (work : List ℕ) (first second set : ℕ) → Type 0
InRange work first second set =
    (most_work ≤ length work) × (first < most_nodes) × (second < most_nodes) × (set < most_sets)
