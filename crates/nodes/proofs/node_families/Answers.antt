-- `nodes::node_families` meets its contract: writing the settled family of node i leaves the families of the nodes
-- below, from which its glitch family is worked out. Assumes nothing.
use Prim.Native.Nat.{ℕ, ◌+◌, ◌*◌}
use mathlib.Core.Path.{◌≡◌, ◌∙◌}
use mathlib.Core.List.{List}
use native.Mathlib.Omega.{arith}
use Rattle.rules.specs.Records.{Cell}
use Rattle.rules.specs.Families.{settled_rule, glitch_rule, families_rule}
use Rattle.families.specs.Parts.{HasPart, with_family}
use Rattle.nodes.specs.Work.{so_far, with_families}
use Rattle.nodes.proofs.Nodes.{so_far_with}
use Rattle.nodes.proofs.node_families.Goals as goal

both : (before settled after : List ℕ) (i : ℕ) (cell : Cell) → HasPart before (2 * i)
    → settled ≡ with_family before (2 * i) (settled_rule (so_far before i) cell)
    → after ≡ with_family settled (2 * i + 1) (glitch_rule (so_far settled i) cell)
    → after ≡ with_families before i (families_rule (so_far before i) cell)
unfolding with_families families_rule
both before settled after i cell has p q = q ∙ rw (p, so_far_with before i (settled_rule (so_far before i) cell) has)

pub returns : goal.returns
returns c = λ cell e.
    both _ _ _ _ cell (omega arith) (c.settled_family.ensures cell e)
    (c.glitch_family.ensures cell e)
