-- Change request A5, "How the set got there": the steps by which document 01's rules put a set into a family.
-- First what a step is and what it is for steps to follow from the rules, which knows nothing of search;
-- then the derivation, with the order in which rules are tried; then the refusals and the reply.
-- Families and rows of checks are document 01's. Assumes nothing.
use Rattle.std.specs.Prelude.{ℕ, zero, suc, ◌*◌, ◌/◌, ◌%◌, ◌<◌, ◌≡◌, Bool, not, cond, ◌&&◌, List, [], ◌∷◌, ◌++◌, eqb, ltb, length, get_or, take}
use Rattle.std.specs.Int.Bits.{bit_xor}
use Rattle.rules.specs.Lists.{member}
use Rattle.rules.specs.Tables.{table}
use Rattle.rules.specs.Records.{Kind, NOT, XOR, AND, OR, register, kind_number, operand_count, Operands, listed}
use Rattle.rules.specs.Records.{Cell, input, gate, Netlist, odd, most_sets}
use Rattle.rules.specs.Families.{Family, Families, constant, product, families, families_at}
use Rattle.rules.specs.Checks.{Outcome, answered, and_then, Check, check, judged, read, queried_with}
use Rattle.rules.specs.Slices.{filled}

-- ---- steps

-- the layer of settled signals and that of glitching ones
pub data Layer : Type 0 where
  settled glitch : Layer

-- settled 0, glitch 1
unfoldable pub layer_number : Layer → ℕ
layer_number settled = 0
layer_number glitch = 1

-- a node's family in a layer
unfoldable pub family_in : Layer → Families → Family
family_in settled F = F.settled
family_in glitch F = F.glitch

-- a step of a derivation: by this rule the set is in the node's family in this layer
pub record Step : Type 0 where
  pub node : ℕ
  pub layer : Layer
  pub rule : ℕ
  pub set : ℕ

abbrev pub step : (node : ℕ) → Layer → (rule set : ℕ) → Step
step i ℓ k A = record { node = i; layer = ℓ; rule = k; set = A }

-- five bytes a step: node, layer, rule, set low byte first
unfoldable pub step_bytes : Step → List ℕ
step_bytes s = s.node ∷ layer_number s.layer ∷ s.rule ∷ s.set % 256 ∷ s.set / 256 ∷ []

abbrev pub step_size : ℕ
step_size = 5

unfoldable pub steps_out : List Step → List ℕ
steps_out [] = []
steps_out (s ∷ steps) = step_bytes s ++ steps_out steps

-- ---- what follows from the rules

-- node i of a netlist is this one
pub record Is (n : Netlist) (i : ℕ) (cell : Cell) : Type 0 where
  pub there : i < length n.nodes
  pub same : get_or n.nodes i (input 0) ≡ cell

-- A rule above 1, and the operands of which it takes a set each, as a binary number with the first operand as bit 0.
-- What it explains is the symmetric difference of those sets, and with no operand the empty set.
pub record Choice : Type 0 where
  pub rule : ℕ
  pub operands : ℕ

abbrev pub choice : (rule operands : ℕ) → Choice
choice k operands = record { rule = k; operands = operands }

-- those of a gate whose family has the empty set and its operands' sets too:
-- 3 the empty set, 4 first operand alone, 5 second alone, 6 both
abbrev pub spreading : List Choice
spreading = choice 3 0 ∷ choice 4 1 ∷ choice 5 2 ∷ choice 6 3 ∷ []

-- The rules that document 01 gives a kind in a layer, by their numbers; 2 is from a register's or NOT's operand.
unfoldable pub rules_of : Kind → Layer → List Choice
rules_of NOT settled = choice 2 1 ∷ []
rules_of NOT glitch = choice 2 1 ∷ choice 3 0 ∷ []
rules_of XOR settled = choice 6 3 ∷ []
rules_of XOR glitch = spreading
rules_of AND ℓ = spreading
rules_of OR ℓ = spreading
rules_of register ℓ = choice 2 1 ∷ []

-- the layer of the operands' families: a register (kind 7) takes settled ones only
unfoldable pub layer_below : Kind → Layer → Layer
layer_below kind ℓ = cond (eqb (kind_number kind) 7) settled ℓ

-- the operands that a binary number picks, in operand order
unfoldable pub picked : (number : ℕ) → (operands : List ℕ) → List ℕ
picked k [] = []
picked k (a ∷ operands) = cond (odd k) (a ∷ picked (k / 2) operands) (picked (k / 2) operands)

-- a choice is one of these
pub data In : Choice → List Choice → Type 0 where
  here : {c : Choice} {choices : List Choice} → In c (c ∷ choices)
  there : {c d : Choice} {choices : List Choice} → In c choices → In c (d ∷ choices)

-- Steps that follow from the rules, for a set in the family of node i in a layer: a step that document 01 allows there,
-- and behind it steps that follow for just the operands that it needs, the first operand's first.
mutual
  pub data Follows (n : Netlist) : (i : ℕ) (ℓ : Layer) (set : ℕ) → List Step → Type 0 where
    -- rule 1: an input's own set, in both layers
    own : {i : ℕ} {ℓ : Layer} {A : ℕ} → Is n i (input A) → Follows n i ℓ A (step i ℓ 1 A ∷ [])
    -- the others: what is made of sets of the operands that the rule takes
    made : {i : ℕ} {kind : Kind} {ops : Operands (operand_count kind)} {ℓ : Layer} {c : Choice} {A : ℕ}
        {below : List Step} → Is n i (gate kind ops) → In c (rules_of kind ℓ)
        → FollowsEach n (picked c.operands (listed (operand_count kind) ops)) (layer_below kind ℓ) A below
        → Follows n i ℓ A (step i ℓ c.rule A ∷ below)

  -- and those for a set of each of these nodes, one behind the other, where A is the symmetric difference of the sets
  pub data FollowsEach (n : Netlist) : (nodes : List ℕ) (ℓ : Layer) (set : ℕ) → List Step → Type 0 where
    none : {ℓ : Layer} → FollowsEach n [] ℓ 0 []
    one : {a : ℕ} {ℓ : Layer} {A : ℕ} {steps : List Step} → Follows n a ℓ A steps → FollowsEach n (a ∷ []) ℓ A steps
    more : {a b : ℕ} {nodes : List ℕ} {ℓ : Layer} {B C : ℕ} {firsts others : List Step} → Follows n a ℓ B firsts
        → FollowsEach n (b ∷ nodes) ℓ C others
        → FollowsEach n (a ∷ b ∷ nodes) ℓ (bit_xor B C) (firsts ++ others)

-- ---- the derivation of a set that is in the family

-- what a step needs: that this set is in an operand's family in this layer
pub record Claim : Type 0 where
  pub node : ℕ
  pub layer : Layer
  pub set : ℕ

abbrev pub claim : (node : ℕ) → Layer → (set : ℕ) → Claim
claim i ℓ A = record { node = i; layer = ℓ; set = A }

-- a rule, and what it needs of the operands
pub record Way : Type 0 where
  pub rule : ℕ
  pub needs : List Claim

abbrev pub way : (rule : ℕ) → List Claim → Way
way k needs = record { rule = k; needs = needs }

-- whether a node has the set
unfoldable pub claimed : List Families → Claim → Bool
claimed Fs c = member c.set (family_in c.layer (get_or Fs c.node constant))

-- the lowest-numbered set of a family that passes the test; where none does, the number of all sets
unfoldable pub lowest_set : (ℕ → Bool) → Family → ℕ
lowest_set test [] = most_sets
lowest_set test (B ∷ F) = let rest = lowest_set test F in cond (test B && ltb B rest) B rest

-- a node's family in a layer, among these
abbrev pub family_of : List Families → Layer → (node : ℕ) → Family
family_of Fs ℓ a = family_in ℓ (get_or Fs a constant)

-- the sets that are made of one of each of these nodes' families: of none the empty set
unfoldable pub product_of : (ℕ → Family) → (nodes : List ℕ) → Family
product_of F [] = 0 ∷ []
product_of F (a ∷ []) = F a
product_of F (a ∷ b ∷ nodes) = product (F a) (product_of F (b ∷ nodes))

-- of which sets A is made: the first node's lowest that works, where what is left of A is made of the others'
unfoldable pub needed : List Families → Layer → (nodes : List ℕ) → (A : ℕ) → List Claim
needed Fs ℓ [] A = []
needed Fs ℓ (a ∷ []) A = claim a ℓ A ∷ []
needed Fs ℓ (a ∷ b ∷ nodes) A =
    let B = lowest_set (λ B. member (bit_xor A B) (product_of (family_of Fs ℓ) (b ∷ nodes))) (family_of Fs ℓ a) in
    claim a ℓ B ∷ needed Fs ℓ (b ∷ nodes) (bit_xor A B)

-- the choices tried in this order: the first that makes A of the operands' sets, and the last where no other does
unfoldable pub first_made : List Families → Layer → (operands : List ℕ) → List Choice → (A : ℕ) → Way
first_made Fs ℓ operands [] A = way 0 []
first_made Fs ℓ operands (c ∷ []) A = way c.rule (needed Fs ℓ (picked c.operands operands) A)
first_made Fs ℓ operands (c ∷ d ∷ choices) A =
    cond (member A (product_of (family_of Fs ℓ) (picked c.operands operands)))
    (way c.rule (needed Fs ℓ (picked c.operands operands) A)) (first_made Fs ℓ operands (d ∷ choices) A)

-- The first rule that works, of those that document 01 gives the node in the layer, where the families are those of the
-- lower nodes and A is a set of the node's own.
unfoldable pub chosen : List Families → Layer → Cell → (A : ℕ) → Way
chosen Fs ℓ (input s) A = way 1 []
chosen Fs ℓ (gate kind ops) A =
    first_made Fs (layer_below kind ℓ) (listed (operand_count kind) ops) (rules_of kind ℓ) A

-- the derivations of a node's sets, by layer and set
abbrev pub Derivations : Type 0
Derivations = Layer → (set : ℕ) → List Step

-- those of the needs, one behind the other
unfoldable pub explained : (ℕ → Derivations) → List Claim → List Step
explained at [] = []
explained at (c ∷ needs) = at c.node c.layer c.set ++ explained at needs

-- a step, and then those of its operands; node by node, where there are no steps beyond the nodes so far
unfoldable pub derivation_rule : List Families → List Derivations → Cell → Derivations
derivation_rule Fs done cell ℓ A =
    let w = chosen Fs ℓ cell A in
    step (length done) ℓ w.rule A ∷ explained (λ i. get_or done i (λ ℓ A. [])) w.needs

-- the derivation of a set in the family of node i in a layer
unfoldable pub derivation : Netlist → (i : ℕ) → Layer → (set : ℕ) → List Step
derivation n i = get_or (table (derivation_rule (families n)) [] n.nodes) i (λ ℓ A. [])

-- ---- refusals and the reply

-- the layer of a number, and whether the set is in the family there: no layer above 1 has any
unfoldable pub layer_of : ℕ → Layer
layer_of zero = settled
layer_of (suc k) = glitch

unfoldable pub in_family : Netlist → (node layer set : ℕ) → Bool
in_family n i k A = ltb k 2 && member A (family_in (layer_of k) (families_at n i))

-- at most so many steps; how many a slice of so many bytes takes
abbrev pub most_steps : ℕ
most_steps = 512

unfoldable pub fitting : (bytes : ℕ) → ℕ
fitting bytes = cond (ltb most_steps (bytes / step_size)) most_steps (bytes / step_size)

-- the derivation that is asked for
unfoldable pub derived : Netlist → (node layer set : ℕ) → List Step
derived n i k A = derivation n i (layer_of k) A

unfoldable pub set_check : (node layer set : ℕ) → Netlist → Check
set_check i k A n = check 16 (not (in_family n i k A)) A

unfoldable pub steps_check : (node layer set room : ℕ) → Netlist → Check
steps_check i k A room n = check 15 (ltb room (length (derived n i k A))) room

-- the netlist in which the set is derived in so many steps at most, or refusal 16, and last 15
unfoldable pub explainable : (node layer set room : ℕ) → Netlist → Outcome Netlist
explainable i k A room n = judged (set_check i k A n ∷ steps_check i k A room n ∷ []) n

-- the same of netlist bytes: before 16 stand the refusals of a query of a node and a set, 1 to 9, 12 and 13
unfoldable pub derivable : List ℕ → (node layer set room : ℕ) → Outcome Netlist
derivable file i k A room = and_then (queried_with file i A) (explainable i k A room)

-- the reply, for a slice of so many bytes: the number of steps
unfoldable pub steps_reply : List ℕ → (node layer set bytes : ℕ) → Outcome ℕ
steps_reply file i k A bytes = and_then (derivable file i k A (fitting bytes)) (λ n. answered (length (derived n i k A)))

-- the slice at exit, which held `before`: the steps, and beyond them what stood there; on a refusal what stood there
unfoldable pub steps_after : List ℕ → (node layer set : ℕ) → (before : List ℕ) → List ℕ
steps_after file i k A before =
    filled (λ n. steps_out (derived n i k A)) (derivable file i k A (fitting (length before))) before

-- A certificate: netlist bytes, and a slice whose first steps follow from the rules for a set of
-- a node's family in a layer.
pub record Certificate (file : List ℕ) (node layer set count : ℕ) (slice : List ℕ) : Type 0 where
  pub netlist : Netlist
  pub is : read file ≡ answered netlist
  pub low : layer < 2
  pub steps : List Step
  pub many : length steps ≡ count
  pub written : take (step_size * count) slice ≡ steps_out steps
  pub follows : Follows netlist node (layer_of layer) set steps
