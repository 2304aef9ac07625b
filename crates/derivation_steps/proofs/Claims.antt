-- The layers by their numbers, and what the work bytes tell of a claim: an operand's family in a layer is part
-- 2 × node + layer. Assumes nothing.
use Prim.Native.Nat.{ℕ, ◌+◌, ◌*◌, ◌<◌}
use mathlib.Core.Path.{◌≡◌, refl, sym, ap, ◌∙◌}
use mathlib.Core.Bool.{Bool}
use mathlib.Core.List.{List}
use native.Mathlib.Nat.{add-zero}
use native.Mathlib.Omega.{arith}
use lib.ListN.{get_or}
use Rattle.rules.specs.Lists.{member}
use Rattle.rules.specs.Records.{most_nodes}
use Rattle.rules.specs.Families.{Families, constant}
use Rattle.families.specs.contracts.Layer.{the_type}
use Rattle.families.specs.Layers.{number_of}
use denote.Enum.Declared.{tag_of}
use Rattle.families.specs.Parts.{family_at}
use Rattle.nodes.specs.Work.{so_far, families_in}
use Rattle.nodes.proofs.Nodes.{so_far_at}
use Rattle.derivation_rules.specs.Derivations.{Layer, settled, glitch, layer_number, layer_of, family_in, Claim, claimed}
use Rattle.families.specs.declared.Layer as Value
use Rattle.families.specs.declared.Layer.TheVariants.{Settled, Glitch}
use Rattle.derivation_steps.specs.Meaning.{layer_meant}

pub part_of : (bytes : List ℕ) (a : ℕ) (ℓ : Layer) → a < most_nodes
    → family_in ℓ (get_or (so_far bytes most_nodes) a constant) ≡ family_at bytes (2 * a + layer_number ℓ)
unfolding family_in layer_number
part_of bytes a ℓ h = ap (family_in ℓ) (so_far_at bytes most_nodes a h) ∙ go ℓ
  where
    go : (ℓ : Layer) → family_in ℓ (families_in bytes a) ≡ family_at bytes (2 * a + layer_number ℓ)
    go settled = ap (family_at bytes) (sym (add-zero (2 * a)))
    go glitch = refl

-- what is known of a claim, said of the set
pub claim_known : (Fs : List Families) {c d : Claim} {told b : Bool} → told ≡ claimed Fs c → c ≡ d → told ≡ b
    → member d.set (family_in d.layer (get_or Fs d.node constant)) ≡ b
unfolding claimed
claim_known Fs is same e = ap (claimed Fs) (sym same) ∙ sym is ∙ e

-- a layer's number, as the part has it and as `as` gives it, is that of the definitions; and the layer of a number is the one that has it
pub layer_as : (layer : Value.Layer) → number_of layer ≡ layer_number (layer_meant layer)
unfolding layer_number
layer_as Settled = refl
layer_as Glitch = refl

pub layer_byte : (layer : Value.Layer) → tag_of the_type layer ≡ layer_number (layer_meant layer)
unfolding layer_number
layer_byte Settled = refl
layer_byte Glitch = refl

pub layer_read : (layer : Value.Layer) (k : ℕ) → number_of layer ≡ k → (k < 2) × (layer_meant layer ≡ layer_of k)
unfolding layer_of
layer_read Settled k e = (omega arith, rw (← e) refl)
layer_read Glitch k e = (omega arith, rw (← e) refl)
