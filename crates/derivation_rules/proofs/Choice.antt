-- Which rule is the first that works goes by which sets the operands' families hold, and not by the order
-- of their lists. Assumes nothing.
use Prim.Native.Nat.{ℕ, ◌<◌}
use mathlib.Core.Path.{◌≡◌, refl}
use mathlib.Core.List.{List, [], ◌∷◌}
use lib.Bits.{bit_xor}
use lib.ListN.{get_or}
use Rattle.rules.specs.Records.{Cell, input, gate, operands}
use Rattle.rules.specs.Families.{Families, constant}
use Rattle.rule_laws.proofs.Lists.{member_head, member_tail}
use Rattle.rule_laws.proofs.Members.{All}
use Rattle.families.proofs.Work.{Alike, alike_product}
use Rattle.derivation_rules.specs.Derivations.{Layer, family_in, Choice, picked, family_of, product_of, needed, first_made, chosen}
use Rattle.derivation_rules.proofs.Lowest.{lowest_alike}
use Rattle.derivation_rules.proofs.Derivation.{picked_among}

module _ (Fs Gs : List Families) (i : ℕ) (alike : (a : ℕ) → a < i → (ℓ : Layer) → Alike (family_in ℓ (get_or Fs a constant)) (family_in ℓ (get_or Gs a constant))) where
  same_product : (ℓ : Layer) (nodes : List ℕ) → All (λ a. a < i) nodes → Alike (product_of (family_of Fs ℓ) nodes) (product_of (family_of Gs ℓ) nodes)
  unfolding product_of
  same_product ℓ [] lower = record { same = λ A. refl }
  same_product ℓ (a ∷ []) lower = alike a (lower a (member_head a [])) ℓ
  same_product ℓ (a ∷ b ∷ nodes) lower =
      alike_product (alike a (lower a (member_head a _)) ℓ) (same_product ℓ (b ∷ nodes) (λ c t. lower c (member_tail c a _ t)))

  same_needed : (ℓ : Layer) (nodes : List ℕ) (A : ℕ) → All (λ a. a < i) nodes → needed Fs ℓ nodes A ≡ needed Gs ℓ nodes A
  unfolding needed
  same_needed ℓ [] A lower = refl
  same_needed ℓ (a ∷ []) A lower = refl
  same_needed ℓ (a ∷ b ∷ nodes) A lower =
      let others : All (λ a. a < i) (b ∷ nodes) = λ c t. lower c (member_tail c a (b ∷ nodes) t) in
      rw
      (lowest_alike (alike a (lower a (member_head a _)) ℓ) (λ B. (same_product ℓ (b ∷ nodes) others).same (bit_xor A B)), same_needed ℓ (b ∷ nodes) _ others)

  same_first : (ℓ : Layer) (operands : List ℕ) (choices : List Choice) (A : ℕ) → All (λ a. a < i) operands
      → first_made Fs ℓ operands choices A ≡ first_made Gs ℓ operands choices A
  unfolding first_made
  same_first ℓ operands [] A lower = refl
  same_first ℓ operands (c ∷ []) A lower = rw (same_needed ℓ _ A (λ a t. lower a (picked_among c.operands operands a t)))
  same_first ℓ operands (c ∷ d ∷ choices) A lower =
      let taken : All (λ a. a < i) (picked c.operands operands) = λ a t. lower a (picked_among c.operands operands a t) in
      rw ((same_product ℓ _ taken).same A, same_needed ℓ _ A taken, same_first ℓ operands (d ∷ choices) A lower)

  pub same_choice : (cell : Cell) → All (λ a. a < i) (operands cell) → (ℓ : Layer) (A : ℕ) → chosen Fs ℓ cell A ≡ chosen Gs ℓ cell A
  unfolding operands chosen
  same_choice (input s) lower ℓ A = refl
  same_choice (gate kind ops) lower ℓ A = same_first _ _ _ A lower
