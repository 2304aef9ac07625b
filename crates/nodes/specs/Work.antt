-- The families of all nodes in the work bytes: part 2 × i is the settled family of node i, and the part after it its
-- glitch family. Cited by the contracts of this crate. Assumes nothing.
use Rattle.std.specs.Prelude.{ℕ, ◌+◌, ◌*◌, ◌≡◌, List, take}
use Rattle.rules.specs.Lists.{tabulate}
use Rattle.rules.specs.Records.{Netlist}
use Rattle.rules.specs.Families.{Family, product, spread, Families, families}
use Rattle.rules.specs.Slices.{work_bytes}
use Rattle.netlists.specs.declared.Kind.{Kind}
use Rattle.netlists.specs.declared.Kind.TheVariants.{End, Variable, Input, Not, Xor, And, Or, Register}
use Rattle.families.specs.Parts.{family_at, with_family}

-- the family of a gate of this kind with two operands, from their families
abbrev pub gate_by : Kind → Family → Family → Family
gate_by Xor F G = product F G
gate_by End F G = spread F G
gate_by Variable F G = spread F G
gate_by Input F G = spread F G
gate_by Not F G = spread F G
gate_by And F G = spread F G
gate_by Or F G = spread F G
gate_by Register F G = spread F G

-- the families of node i
abbrev pub families_in : List ℕ → (i : ℕ) → Families
families_in bytes i = record { settled = family_at bytes (2 * i); glitch = family_at bytes (2 * i + 1) }

-- those of the nodes below i
unfoldable pub so_far : List ℕ → (i : ℕ) → List Families
so_far bytes i = tabulate (families_in bytes) i

-- the bytes with the families of node i
unfoldable pub with_families : List ℕ → (i : ℕ) → Families → List ℕ
with_families bytes i F = with_family (with_family bytes (2 * i) F.settled) (2 * i + 1) F.glitch

-- the work bytes hold the families of the first k nodes of a netlist at their front
abbrev pub HoldsFirst : Netlist → (k : ℕ) → (work : List ℕ) → Type 0
HoldsFirst n k work = take (256 * k) work ≡ work_bytes (take k (families n))
