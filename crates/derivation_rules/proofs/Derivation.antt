-- How a derivation unfolds. A node's families are the rule over the whole table; a kind's family in a layer is what its
-- rules make, the one law by kinds; what the first rule that works needs is below the node and in the operands'
-- families; so the derivation is that step, and then the derivations of what it needs. Assumes nothing.
use Prim.Native.Nat.{ℕ, ◌/◌, ◌≤◌, ◌<◌}
use mathlib.Core.Path.{◌≡◌, refl, sym, ap, ◌∙◌, subst}
use mathlib.Core.Logic.{◌⊎◌, inl, inr, ⊎_elim}
use mathlib.Core.Bool.{Bool, true, false, cond, ◌||◌, or-false, or_comm}
use mathlib.Core.List.{List, [], ◌∷◌}
use native.Mathlib.Omega.{arith}
use lib.Bits.{bit_xor, xor_comm}
use lib.Dec.{T, eqb}
use lib.ListN.{length, get_or, take}
use lib.Seq.{get_or-take}
use Rattle.rules.specs.Lists.{member, insert}
use Rattle.rules.specs.Tables.{table}
use Rattle.rules.specs.Records.{Kind, NOT, XOR, AND, OR, register, operand_count, Operands, listed, Rule, from_operands}
use Rattle.rules.specs.Records.{Cell, input, gate, Netlist, WellFormed, odd, operands, most_sets}
use Rattle.rules.specs.Families.{Family, Families, constant, product, spread, settled_of, glitch_of, family_rule, families_rule, families, families_at}
use Rattle.rule_laws.proofs.Tests.{pass}
use Rattle.rule_laws.proofs.Lists.{member_head, member_tail, member_cases, member_insert, member_union, xor_twice}
use Rattle.rule_laws.proofs.Members.{All}
use Rattle.rule_laws.proofs.Operands.{from_same}
use Rattle.rule_laws.proofs.Tables.{table_entry}
use Rattle.rule_laws.proofs.Entries.{length_done}
use Rattle.rule_laws.proofs.Bounds.{product_cases, families_small}
use Rattle.derivation_rules.specs.Derivations.{Layer, settled, glitch, family_in, step, Is, Choice, rules_of, layer_below, picked, In, here, there, Claim, Way, way, claimed, lowest_set, family_of, product_of, needed, first_made, chosen, Derivations, explained, derivation_rule, derivation}
use Rattle.derivation_rules.proofs.Lowest.{lowest_least, lowest_works}

-- ---- a node's families

-- the rule over the entries so far is the rule over the whole table, where the operands are lower nodes
rule_so_far : (Fs : List Families) (i : ℕ) (cell : Cell) → All (λ a. a < i) (operands cell) → families_rule (take i Fs) cell ≡ families_rule Fs cell
unfolding operands family_rule families_rule
rule_so_far Fs i (input s) lower = refl
rule_so_far Fs i (gate kind ops) lower = cc (column (settled_of kind), column (glitch_of kind))
  where
    column : (rule : Rule Families Family (operand_count kind))
        → from_operands (operand_count kind) rule (λ a. get_or (take i Fs) a constant) ops
        ≡ from_operands (operand_count kind) rule (λ a. get_or Fs a constant) ops
    column rule = from_same (operand_count kind) rule _ _ ops (λ a m. get_or-take i Fs a constant (lower a m))

-- so a node's families are the rule over the whole table
pub families_at_lem : (n : Netlist) → WellFormed n → (i : ℕ) → i < length n.nodes
    → families_at n i ≡ families_rule (families n) (get_or n.nodes i (input 0))
unfolding families families_at
families_at_lem n formed i h = table_entry families_rule n.nodes i constant (input 0) h ∙ rule_so_far (families n) i _ (formed.lower i h)

-- ---- what the rules make

-- some of these choices makes A of the operands' sets
abbrev pub is_made : (F : ℕ → Family) (operands : List ℕ) → List Choice → (A : ℕ) → Bool
is_made F operands [] A = false
is_made F operands (c ∷ choices) A = member A (product_of F (picked c.operands operands)) || is_made F operands choices A

added_made : (F : Family) (A : ℕ) → member A (insert 0 F) ≡ (member A F || (member A (0 ∷ []) || false))
unfolding member
added_made F A = rw (member_insert A 0 F, or-false (eqb A 0), or-false (eqb A 0)) (or_comm (eqb A 0) (member A F))

spread_made : (F G : Family) (A : ℕ)
    → member A (spread F G) ≡ (member A (0 ∷ []) || (member A F || (member A G || (member A (product F G) || false))))
unfolding spread member
spread_made F G A = rw (member_insert A 0 _, member_union A F _, member_union A G _, or-false (eqb A 0), or-false (member A (product F G)))

-- Each row of document 01's table, in either layer, is what the rules of the kind make.
rows : (kind : Kind) (ℓ : Layer) (Fs : List Families) (ops : Operands (operand_count kind)) (A : ℕ)
    → member A (family_in ℓ (families_rule Fs (gate kind ops)))
    ≡ is_made (family_of Fs (layer_below kind ℓ)) (listed (operand_count kind) ops) (rules_of kind ℓ) A
unfolding family_in families_rule family_rule from_operands settled_of glitch_of listed rules_of layer_below picked product_of
rows NOT settled Fs (a, ops) A = sym (or-false _)
rows NOT glitch Fs (a, ops) A = added_made _ A
rows XOR settled Fs (a, (b, ops)) A = sym (or-false _)
rows XOR glitch Fs (a, (b, ops)) A = spread_made _ _ A
rows AND settled Fs (a, (b, ops)) A = spread_made _ _ A
rows AND glitch Fs (a, (b, ops)) A = spread_made _ _ A
rows OR settled Fs (a, (b, ops)) A = spread_made _ _ A
rows OR glitch Fs (a, (b, ops)) A = spread_made _ _ A
rows register settled Fs (a, ops) A = sym (or-false _)
rows register glitch Fs (a, ops) A = sym (or-false _)

module _ (n : Netlist) (formed : WellFormed n) where
  -- a node's family in a layer, by what the node is
  pub family_of_lem : {i : ℕ} {cell : Cell} → Is n i cell → (ℓ : Layer) → family_in ℓ (families_at n i) ≡ family_in ℓ (families_rule (families n) cell)
  family_of_lem is ℓ = ap (family_in ℓ) (families_at_lem n formed _ is.there ∙ ap (families_rule (families n)) is.same)

  -- an input's has its own set only
  pub own_family : {i s : ℕ} → Is n i (input s) → (ℓ : Layer) → family_in ℓ (families_at n i) ≡ s ∷ []
  unfolding family_in family_rule families_rule
  own_family is settled = family_of_lem is settled
  own_family is glitch = family_of_lem is glitch

  -- any other node's has what the rules make of the operands'
  pub made_family : {i : ℕ} {kind : Kind} {ops : Operands (operand_count kind)} → Is n i (gate kind ops) → (ℓ : Layer) (A : ℕ)
      → member A (family_in ℓ (families_at n i))
      ≡ is_made (family_of (families n) (layer_below kind ℓ)) (listed (operand_count kind) ops) (rules_of kind ℓ) A
  made_family {kind = kind} {ops} is ℓ A = ap (member A) (family_of_lem is ℓ) ∙ rows kind ℓ (families n) ops A

-- ---- the first rule that works

-- rules stand in the order of their numbers, from a lowest on
abbrev Rising : (low : ℕ) → List Choice → Type 0
Rising low [] = Unit
Rising low (c ∷ choices) = (low ≤ c.rule) × Rising c.rule choices

rules_rising : (kind : Kind) (ℓ : Layer) → Rising 0 (rules_of kind ℓ)
unfolding rules_of
rules_rising NOT settled = (omega arith, tt)
rules_rising NOT glitch = (omega arith, (omega arith, tt))
rules_rising XOR settled = (omega arith, tt)
rules_rising XOR glitch = (omega arith, (omega arith, (omega arith, (omega arith, tt))))
rules_rising AND ℓ = (omega arith, (omega arith, (omega arith, (omega arith, tt))))
rules_rising OR ℓ = (omega arith, (omega arith, (omega arith, (omega arith, tt))))
rules_rising register ℓ = (omega arith, tt)

-- no rule is below the lowest
above : {low : ℕ} {choices : List Choice} {c : Choice} → In c choices → Rising low choices → low ≤ c.rule
above here r = r.0
above (there m) r = omega (arith, r.0, above m r.1)

in_cases : {c d : Choice} {choices : List Choice} → In c (d ∷ choices) → (c ≡ d) ⊎ In c choices
in_cases here = inl refl
in_cases (there m) = inr m

-- a choice that makes A: the way that is chosen is its, and no other that makes A has a lower rule
pub record Taken (Fs : List Families) (ℓ : Layer) (operands : List ℕ) (choices : List Choice) (A : ℕ) : Type 0 where
  pub by : Choice
  pub among : In by choices
  pub makes : T (member A (product_of (family_of Fs ℓ) (picked by.operands operands)))
  pub is : first_made Fs ℓ operands choices A ≡ way by.rule (needed Fs ℓ (picked by.operands operands) A)
  pub least : (c : Choice) → In c choices → T (member A (product_of (family_of Fs ℓ) (picked c.operands operands))) → by.rule ≤ c.rule

module _ (Fs : List Families) (ℓ : Layer) (operands : List ℕ) (A : ℕ) where
  abbrev makes_it : Choice → Bool
  makes_it c = member A (product_of (family_of Fs ℓ) (picked c.operands operands))

  -- where some choice makes A, the first that does is taken
  first_taken : (low : ℕ) (choices : List Choice) → Rising low choices → T (is_made (family_of Fs ℓ) operands choices A) → Taken Fs ℓ operands choices A
  unfolding first_made
  first_taken low [] r t = absurd t
  first_taken low (c ∷ []) r t =
      record { by = c; among = here; makes = rw or-false at t; is = refl; least = λ x m _. above m (omega arith, r.1) }
  first_taken low (c ∷ d ∷ choices) r t = go (makes_it c) refl t (first_taken c.rule (d ∷ choices) r.1)
    where
      go : (b : Bool) → makes_it c ≡ b → T (b || is_made (family_of Fs ℓ) operands (d ∷ choices) A)
          → (T (is_made (family_of Fs ℓ) operands (d ∷ choices) A) → Taken Fs ℓ operands (d ∷ choices) A) → Taken Fs ℓ operands (c ∷ d ∷ choices) A
      go true e u rest = record { by = c; among = here; makes = pass e; is = rw e; least = λ x m _. above m (omega arith, r.1) }
      go false e u rest =
          let w = rest u in
          record {
            by = w.by;
            among = there w.among;
            makes = w.makes;
            is = rw e w.is;
            least = λ x m v. ⊎_elim (λ q. absurd (subst T (ap makes_it q ∙ e) v)) (λ k. w.least x k v) (in_cases m);
          }

-- ---- what it needs

-- the first rule that works for a set of node i, and what it needs
abbrev pub chosen_at : Netlist → (i : ℕ) → Layer → (A : ℕ) → Way
chosen_at n i ℓ A = chosen (families n) ℓ (get_or n.nodes i (input 0)) A

-- each of the needs is of a node below the bound, and in its family
abbrev pub NeedsHeld : Netlist → (bound : ℕ) → List Claim → Type 0
NeedsHeld n bound [] = Unit
NeedsHeld n bound (c ∷ needs) = (c.node < bound) × T (claimed (families n) c) × NeedsHeld n bound needs

-- what is left of A without B; and that with B is A
pub xor_rest : (A B C : ℕ) → A ≡ bit_xor B C → bit_xor A B ≡ C
xor_rest A B C e = ap (λ (X : ℕ). bit_xor X B) e ∙ xor_comm (bit_xor B C) B ∙ xor_twice B C

pub xor_back : (A B : ℕ) → bit_xor B (bit_xor A B) ≡ A
xor_back A B = rw (xor_comm A B) (xor_twice B A)

-- what is picked of the operands is among them
pub picked_among : (k : ℕ) (operands : List ℕ) → All (λ a. T (member a operands)) (picked k operands)
unfolding picked
picked_among k [] a t = t
picked_among k (b ∷ operands) a t = go (odd k) t (picked_among (k / 2) operands a)
  where
    go : (o : Bool) → T (member a (cond o (b ∷ picked (k / 2) operands) (picked (k / 2) operands)))
        → (T (member a (picked (k / 2) operands)) → T (member a operands)) → T (member a (b ∷ operands))
    go true u rest = ⊎_elim (λ e. rw e (member_head b operands)) (λ m. member_tail a b operands (rest m)) (member_cases a b _ u)
    go false u rest = member_tail a b operands (rest u)

module _ (n : Netlist) (formed : WellFormed n) where
  -- a node's family in either layer is of sets that there may be
  pub small : (ℓ : Layer) (a : ℕ) → All (λ A. A < most_sets) (family_in ℓ (families_at n a))
  unfolding family_in
  small settled a = (families_small n formed a).0
  small glitch a = (families_small n formed a).1

  -- a set of a product is made of the first one's lowest set that works, and of what is left
  pub lowest_left : (ℓ : Layer) (a : ℕ) (G : Family) (A : ℕ) → T (member A (product (family_of (families n) ℓ a) G))
      → let B = lowest_set (λ B. member (bit_xor A B) G) (family_of (families n) ℓ a) in
      T (member B (family_of (families n) ℓ a)) × T (member (bit_xor A B) G)
  unfolding families_at
  lowest_left ℓ a G A t =
      let F = family_of (families n) ℓ a in
      let (C, D, c, d, e) = product_cases F G A t in
      lowest_works _ F (omega (arith, lowest_least (λ B. member (bit_xor A B) G) F C c (rw (xor_rest A C D e) d), small ℓ a C c))

  -- so what it needs is held
  needed_held : (ℓ : Layer) (bound : ℕ) (nodes : List ℕ) (A : ℕ) → All (λ a. a < bound) nodes
      → T (member A (product_of (family_of (families n) ℓ) nodes)) → NeedsHeld n bound (needed (families n) ℓ nodes A)
  unfolding needed product_of claimed
  needed_held ℓ bound [] A lower t = tt
  needed_held ℓ bound (a ∷ []) A lower t = (lower a (member_head a []), t, tt)
  needed_held ℓ bound (a ∷ b ∷ nodes) A lower t =
      let (m, left) = lowest_left ℓ a _ A t in
      (lower a (member_head a _), m, needed_held ℓ bound (b ∷ nodes) _ (λ c u. lower c (member_tail c a _ u)) left)

  module _ {i : ℕ} {kind : Kind} {ops : Operands (operand_count kind)} (is : Is n i (gate kind ops)) where
    -- the operands that a choice takes are lower nodes
    pub picked_lower : (k : ℕ) → All (λ a. a < i) (picked k (listed (operand_count kind) ops))
    unfolding operands
    picked_lower k a t = formed.lower i is.there a (rw is.same (picked_among k _ a t))

    -- of a set of the family, the first rule that works is one that does
    pub taken : (ℓ : Layer) (A : ℕ) → T (member A (family_in ℓ (families_at n i)))
        → Taken (families n) (layer_below kind ℓ) (listed (operand_count kind) ops) (rules_of kind ℓ) A
    taken ℓ A t = first_taken _ _ _ A 0 _ (rules_rising kind ℓ) (subst T (made_family n formed is ℓ A) t)

-- what it needs is below the node and in the operands' families
pub needs_held : (n : Netlist) → WellFormed n → (i : ℕ) → i < length n.nodes → (ℓ : Layer) (A : ℕ)
    → T (member A (family_in ℓ (families_at n i))) → NeedsHeld n i (chosen_at n i ℓ A).needs
unfolding chosen
needs_held n formed i h ℓ A t = go (get_or n.nodes i (input 0)) (record { there = h; same = refl })
  where
    go : (cell : Cell) → Is n i cell → NeedsHeld n i (chosen (families n) ℓ cell A).needs
    go (input s) is = tt
    go (gate kind ops) is =
        let w = taken n formed is ℓ A t in
        rw w.is (needed_held n formed (layer_below kind ℓ) i _ A (picked_lower n formed is w.by.operands) w.makes)

-- ---- derivations

-- the derivations of needs below a bound are among those of the nodes below it
explained_so_far : (n : Netlist) (i : ℕ) (needs : List Claim) → NeedsHeld n i needs
    → explained (λ k. get_or (take i (table (derivation_rule (families n)) [] n.nodes)) k (λ ℓ A. [])) needs ≡ explained (derivation n) needs
unfolding derivation explained
explained_so_far n i [] held = refl
explained_so_far n i (c ∷ needs) held =
    cc (explained_so_far n i needs held.2, get_or-take i (table (derivation_rule (families n)) [] n.nodes) c.node (λ ℓ A. []) held.0)

-- a set's derivation is the step by the first rule that works, and then the derivations of what it needs
pub derivation_unfolds : (n : Netlist) → WellFormed n → (i : ℕ) → i < length n.nodes → (ℓ : Layer) (A : ℕ)
    → T (member A (family_in ℓ (families_at n i)))
    → derivation n i ℓ A ≡ step i ℓ (chosen_at n i ℓ A).rule A ∷ explained (derivation n) (chosen_at n i ℓ A).needs
unfolding derivation_rule derivation
derivation_unfolds n formed i h ℓ A t =
    ap (λ (d : Derivations). d ℓ A) (table_entry rule n.nodes i (λ ℓ A. []) (input 0) h)
    ∙ rw (length_done rule n.nodes i h, explained_so_far n i _ (needs_held n formed i h ℓ A t))
  where
    rule : List Derivations → Cell → Derivations
    rule = derivation_rule (families n)
