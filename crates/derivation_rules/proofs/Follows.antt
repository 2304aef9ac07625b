-- A set's derivation follows from the rules, and a set for which steps follow is in the family: by recursion over the
-- nodes, and over the steps. Of all steps that follow for the set, none begin with a lower rule than its derivation,
-- which by rule 6 goes on with the first operand's lowest set that works. Assumes nothing.
use Prim.Native.Nat.{ℕ, zero, suc, ◌*◌, ◌≤◌, ◌<◌}
use mathlib.Core.Path.{◌≡◌, refl, sym, ap, ◌∙◌, subst}
use mathlib.Core.List.{List, [], ◌∷◌, append-nil}
use native.Mathlib.Omega.{arith}
use lib.Bits.{bit_xor}
use lib.Dec.{T, ltb, lt→ltb}
use lib.ListN.{length, get_or, length-append}
use Rattle.rules.specs.Lists.{member}
use Rattle.rules.specs.Records.{Kind, operand_count, Operands, listed, Cell, input, gate, Netlist, WellFormed}
use Rattle.rules.specs.Families.{Family, families, families_at}
use Rattle.rule_laws.proofs.Lists.{member_head, member_tail, product_holds}
use Rattle.rule_laws.proofs.Members.{All, all_single}
use Rattle.rule_laws.proofs.Tests.{or_left, or_right, and_both}
use Rattle.rule_laws.proofs.Reading.{read_well_formed}
use Rattle.derivation_rules.specs.Derivations.{Layer, family_in, Step, step, step_bytes, step_size, steps_out, Is, Choice, layer_below, picked, In, here, there, Follows, own, made, FollowsEach, none, one, more, claim, Way, lowest_set, family_of, product_of, needed, chosen, explained, derivation, in_family, Certificate}
use Rattle.derivation_rules.proofs.Lowest.{lowest_least}
use Rattle.derivation_rules.proofs.Derivation.{own_family, is_made, made_family, chosen_at, xor_rest, xor_back, lowest_left, picked_lower, taken, derivation_unfolds}

-- ---- the first of the steps

-- the rule of the first step
abbrev first_rule : List Step → ℕ
first_rule [] = 0
first_rule (s ∷ steps) = s.rule

-- Steps that follow begin with one of the node, the layer and the set.
pub follows_begins : {n : Netlist} {i : ℕ} {ℓ : Layer} {A : ℕ} {steps : List Step} → Follows n i ℓ A steps
    → (rule : ℕ) × (below : List Step) × (steps ≡ step i ℓ rule A ∷ below)
follows_begins (own is) = (_, _, refl)
follows_begins (made is c each) = (_, _, refl)

-- ---- the derivation follows

-- the derivations of a set of the family of each node below a bound follow
abbrev FollowBelow : Netlist → (bound : ℕ) → Type 0
FollowBelow n bound =
    (k : ℕ) → k < bound → (ℓ : Layer) (A : ℕ) → T (member A (family_in ℓ (families_at n k))) → Follows n k ℓ A (derivation n k ℓ A)

-- then those of what is needed of such nodes do
needed_follow : (n : Netlist) → WellFormed n → (i : ℕ) → FollowBelow n i → (ℓ : Layer) (nodes : List ℕ) (A : ℕ) → All (λ a. a < i) nodes
    → T (member A (product_of (family_of (families n) ℓ) nodes)) → FollowsEach n nodes ℓ A (explained (derivation n) (needed (families n) ℓ nodes A))
unfolding needed explained product_of families_at
needed_follow n formed i f ℓ [] A lower t = rw (all_single (λ B. B ≡ 0) 0 refl A t) none
needed_follow n formed i f ℓ (a ∷ []) A lower t = rw append-nil (one (f a (lower a (member_head a [])) ℓ A t))
needed_follow n formed i f ℓ (a ∷ b ∷ nodes) A lower t =
    let B = lowest_set (λ B. member (bit_xor A B) (product_of (family_of (families n) ℓ) (b ∷ nodes))) (family_of (families n) ℓ a) in
    let (m, left) = lowest_left n formed ℓ a _ A t in
    subst (λ (X : ℕ). FollowsEach n (a ∷ b ∷ nodes) ℓ X (explained (derivation n) (needed (families n) ℓ (a ∷ b ∷ nodes) A))) (xor_back A B)
    (more (f a (lower a (member_head a _)) ℓ B m) (needed_follow n formed i f ℓ (b ∷ nodes) _ (λ c u. lower c (member_tail c a _ u)) left))

-- of a node over those below it
follow_at : (n : Netlist) → WellFormed n → (i : ℕ) → FollowBelow n i → (cell : Cell) → Is n i cell → (ℓ : Layer) (A : ℕ)
    → T (member A (family_in ℓ (families_at n i)))
    → let w = chosen (families n) ℓ cell A in Follows n i ℓ A (step i ℓ w.rule A ∷ explained (derivation n) w.needs)
unfolding chosen explained
follow_at n formed i f (input s) is ℓ A t = rw (all_single (λ B. B ≡ s) s refl A (rw (own_family n formed is ℓ) at t)) (own is)
follow_at n formed i f (gate kind ops) is ℓ A t =
    let w = taken n formed is ℓ A t in
    rw w.is (made is w.among (needed_follow n formed i f (layer_below kind ℓ) _ A (picked_lower n formed is w.by.operands) w.makes))

-- of the nodes below a bound
follow_below : (n : Netlist) → WellFormed n → (m i : ℕ) → i < m → i < length n.nodes → (ℓ : Layer) (A : ℕ)
    → T (member A (family_in ℓ (families_at n i))) → Follows n i ℓ A (derivation n i ℓ A)
follow_below n formed zero i l h ℓ A t = absurd (omega arith)
follow_below n formed (suc m) i l h ℓ A t =
    rw (derivation_unfolds n formed i h ℓ A t)
    (follow_at n formed i (λ k b. follow_below n formed m k (omega arith) (omega arith)) (get_or n.nodes i (input 0)) (record { there = h; same = refl }) ℓ A t)

-- the derivation of a set that is in the family follows from the rules
pub derivation_follows : (n : Netlist) → WellFormed n → (i : ℕ) → i < length n.nodes → (ℓ : Layer) (A : ℕ)
    → T (member A (family_in ℓ (families_at n i))) → Follows n i ℓ A (derivation n i ℓ A)
derivation_follows n formed i = follow_below n formed (suc i) i (omega arith)

-- ---- what follows is in the family

-- what one of these choices makes is made
in_made : (F : ℕ → Family) (operands : List ℕ) {choices : List Choice} {c : Choice} (A : ℕ) → In c choices
    → T (member A (product_of F (picked c.operands operands))) → T (is_made F operands choices A)
in_made F operands {c = c} A here t = or_left (member A (product_of F (picked c.operands operands))) _ t
in_made F operands A (there {d = d} m) t = or_right (member A (product_of F (picked d.operands operands))) _ (in_made F operands A m t)

module _ (n : Netlist) (formed : WellFormed n) where
  -- where steps follow for each of some nodes, what is made of the sets is among what is made of their families
  pub each_in_family : {nodes : List ℕ} {ℓ : Layer} {A : ℕ} {steps : List Step} → FollowsEach n nodes ℓ A steps
      → T (member A (product_of (family_of (families n) ℓ) nodes))
  unfolding product_of families_at
  each_in_family f =
      elim f as (λ i ℓ A steps f. T (member A (family_in ℓ (families_at n i)))) (λ nodes ℓ A steps f. T (member A (product_of (family_of (families n) ℓ) nodes))) [
        | own {ℓ = ℓ} {A = A} is ↦ rw (own_family n formed is ℓ) (member_head A [])
        | made {ℓ = ℓ} {A = A} is c (each → t) ↦ rw (made_family n formed is ℓ A) (in_made _ _ A c t)
        | none ↦ member_head 0 []
        | one (f → t) ↦ t
        | more {B = B} {C = C} (f → t) (each → u) ↦ product_holds _ _ B C t u
      ]

  -- a set for which steps follow is in the family
  pub follows_in_family : {i : ℕ} {ℓ : Layer} {A : ℕ} {steps : List Step} → Follows n i ℓ A steps → T (member A (family_in ℓ (families_at n i)))
  unfolding product_of families_at
  follows_in_family f = each_in_family (one f)

-- ---- the first rule that works, and the lowest set

module _ (n : Netlist) (formed : WellFormed n) where
  -- no steps that follow for a set begin with a lower rule than its derivation
  pub first_rule_lem : {i : ℕ} {ℓ : Layer} {A : ℕ} {s : Step} {below : List Step} → Follows n i ℓ A (s ∷ below) → (chosen_at n i ℓ A).rule ≤ s.rule
  unfolding chosen
  first_rule_lem f = begins f
    where
      begins : {i : ℕ} {ℓ : Layer} {A : ℕ} {steps : List Step} → Follows n i ℓ A steps → (chosen_at n i ℓ A).rule ≤ first_rule steps
      begins (own is) = rw is.same (omega arith)
      begins (made {ℓ = ℓ} {c = c} {A} is m each) =
          let w = taken n formed is ℓ A (follows_in_family n formed (made is m each)) in
          rw (is.same, w.is) (w.least c m (each_in_family n formed each))

  -- Of the operands that the rule takes which is chosen, the first one's set is the lowest that works: no steps for
  -- a lower one, and for what is left of the set, follow.
  pub lowest_first_set : {i : ℕ} {kind : Kind} {ops : Operands (operand_count kind)} {a b : ℕ} {nodes : List ℕ} {B C : ℕ} {firsts others : List Step}
      (is : Is n i (gate kind ops)) (ℓ : Layer) (A : ℕ) (t : T (member A (family_in ℓ (families_at n i))))
      → picked (taken n formed is ℓ A t).by.operands (listed (operand_count kind) ops) ≡ a ∷ b ∷ nodes
      → Follows n a (layer_below kind ℓ) B firsts → FollowsEach n (b ∷ nodes) (layer_below kind ℓ) C others → bit_xor B C ≡ A
      → (D : ℕ) × ((chosen_at n i ℓ A).needs ≡ claim a (layer_below kind ℓ) D ∷ needed (families n) (layer_below kind ℓ) (b ∷ nodes) (bit_xor A D)) × (D ≤ B)
  unfolding families_at needed chosen
  lowest_first_set {kind = kind} {B = B} {C} is ℓ A t takes f each e = (
    _,
    ap (λ (w : Way). w.needs) (ap (λ (cell : Cell). chosen (families n) ℓ cell A) is.same ∙ (taken n formed is ℓ A t).is)
        ∙ ap (λ (l : List ℕ). needed (families n) (layer_below kind ℓ) l A) takes,
    lowest_least _ _ B (follows_in_family n formed f) (rw (xor_rest A B C (sym e)) (each_in_family n formed each)),
  )

-- ---- certificates

-- A certificate can be believed without the checker: the set is in the family.
pub certified : (file : List ℕ) (node layer set count : ℕ) (slice : List ℕ) → (c : Certificate file node layer set count slice)
    → T (in_family c.netlist node layer set)
unfolding in_family
certified file node layer set count slice c =
    and_both (ltb layer 2) _ (lt→ltb layer 2 c.low) (follows_in_family c.netlist (read_well_formed file c.netlist c.is) c.follows)

-- steps are five bytes each
pub out_length : (steps : List Step) → length (steps_out steps) ≡ step_size * length steps
unfolding step_bytes steps_out
out_length [] = refl
out_length (s ∷ steps) = omega (arith, out_length steps, length-append (step_bytes s) (steps_out steps))
