-- `queries::in_families` meets its contract: the work bytes hold the families of all nodes, and a part of them
-- holds just the sets of one of a node's two families. They are `most_work`, which have room for every netlist.
-- Assumes nothing.
use Prim.Native.Nat.{ℕ, ◌+◌, ◌*◌, ◌≤◌, ◌<◌}
use mathlib.Core.Path.{◌≡◌, refl, ◌∙◌}
use mathlib.Core.List.{List, ◌++◌}
use native.Mathlib.Omega.{arith}
use lib.ListN.{length, length-replicate}
use borrow.Author.Rules.{rules}
use Rattle.rules.specs.Checks.{most_work}
use Rattle.rules.specs.Lists.{member}
use Rattle.rules.specs.Records.{Netlist}
use Rattle.rules.specs.Families.{families, families_at}
use Rattle.rules.specs.Slices.{work_bytes}
use Rattle.netlists.specs.declared.Netlist as Value
use Rattle.netlists.specs.Netlists.{flat_of, Formed}
use Rattle.netlists.proofs.Netlists.{value_count, few_nodes, all_ready, well_formed}
use Rattle.families.specs.Parts.{family_at}
use Rattle.families.proofs.Work.{settled_there, glitch_there}
use Rattle.queries.proofs.in_families.Goals as goal

module _ {value : Value.Netlist} (f : Formed value) where
  -- a node's parts are there
  has_part : (k i part : ℕ) → i < value.count → part ≤ 2 * i + 1 → most_work ≡ k → 128 * part + 128 ≤ k
  has_part k i part h l e = omega (arith, few_nodes f)

  -- what they hold once the families of all nodes are written
  in_parts : (n : Netlist) → value ≡ flat_of n → (work rest : List ℕ) (i A : ℕ) → i < value.count → work ≡ work_bytes (families n) ++ rest
      → (member A (family_at work (2 * i + 0)) ≡ member A (families_at n i).settled)
      × (member A (family_at work (2 * i + 1)) ≡ member A (families_at n i).glitch)
  in_parts n e work rest i A h w =
      let formed = well_formed f n e in
      let l : i < length n.nodes = omega (arith, value_count n e) in
      let even : 2 * i + 0 ≡ 2 * i = omega arith in
      rw (even, w) ((settled_there n formed rest i l).same A, (glitch_there n formed rest i l).same A)

pub all_families-requires : goal.all_families-requires
all_families-requires c = all_ready c.requires.0 _ (length-replicate {A = ℕ} most_work 0)

pub part-requires : goal.part-requires
part-requires c = omega (arith, few_nodes c.requires.0)

pub part-requires-2 : goal.part-requires-2
part-requires-2 c = omega (arith, few_nodes c.requires.0)

pub holds-settled-requires : goal.holds-settled-requires
holds-settled-requires c =
    let pre = c.requires in
    (has_part pre.0 _ _ _ pre.1 c.part.ensures.low (search rules), pre.2)

pub holds-glitch-requires : goal.holds-glitch-requires
holds-glitch-requires c =
    let pre = c.requires in
    (has_part pre.0 _ _ _ pre.1 c.part-2.ensures.low (search rules), pre.2)

pub returns : goal.returns
returns c =
    let pre = c.requires in
    λ n e.
    let (s, g) = in_parts pre.0 n e _ _ _ _ pre.1 (c.all_families.ensures n e) in
    (refl, rw c.part.ensures.at at c.holds-settled.ensures ∙ s, rw c.part-2.ensures.at at c.holds-glitch.ensures ∙ g)
