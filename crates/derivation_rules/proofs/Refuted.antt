-- Steps that do not follow from the rules, so that what is said of derivations is not empty: none at all
-- for a set that is not in the family, and not those of a derivation by another rule or in another order.
-- And slices that are no certificate, beside one that is. Assumes nothing.
use Prim.Native.Nat.{ℕ}
use mathlib.Core.Path.{◌≡◌, refl, sym, ap, subst, ◌∙◌}
use mathlib.Core.List.{List, [], ◌∷◌}
use native.Mathlib.Omega.{arith}
use lib.ListN.{length, get_or}
use Rattle.rules.specs.Records.{XOR, listed, Cell, input, gate, operands, Netlist, WellFormed, written_out, variables_out, nodes_out}
use Rattle.rules.specs.Families.{families_at}
use Rattle.rules.specs.Blocks.{P9, P10}
use Rattle.rule_laws.proofs.Reading.{read_well_formed}
use Rattle.rules.proofs.Blocks.{reply_to}
use Rattle.rules.proofs.BlockCounts.{p9, p9_read, p10, p10_read}
use Rattle.derivation_rules.specs.Derivations.{Layer, settled, glitch, layer_number, family_in, Step, step, step_bytes, steps_out, Choice, rules_of, picked, In, here, there, Follows, own, made, FollowsEach, one, more, chosen, first_made, layer_of, Certificate}
use Rattle.derivation_rules.proofs.Blocks.{a_derivation, small}
use Rattle.derivation_rules.proofs.Follows.{derivation_follows, follows_in_family, first_rule_lem, follows_begins, out_length}

-- ---- no steps

-- No steps follow for the secret alone where the signals of block A have settled.
pub a_none : (steps : List Step) → ¬ Follows p9 4 settled 1 steps
unfolding reply_to family_in families_at
a_none steps f = follows_in_family p9 (read_well_formed P9.bytes p9 p9_read) f

-- Nor do any follow for a glitch behind the register of block B, though its operand has that set in the glitch layer.
pub b_none : (steps : List Step) → ¬ Follows p10 4 glitch 3 steps
unfolding reply_to family_in families_at
b_none steps f = follows_in_family p10 (read_well_formed P10.bytes p10 p10_read) f

-- ---- another rule

small_formed : WellFormed small
unfolding reply_to variables_out nodes_out written_out
small_formed = read_well_formed (written_out small) small refl

-- A settled XOR does not have a set by rule 4, though its first operand has it.
pub xor_alone : ¬ Follows small 4 settled 1 (step 4 settled 4 1 ∷ step 1 settled 1 1 ∷ [])
unfolding rules_of first_made chosen
xor_alone f = omega (arith, first_rule_lem small small_formed f)

-- ---- another order

-- the node of the first step
abbrev first_node : List Step → ℕ
first_node [] = 0
first_node (s ∷ steps) = s.node

-- the first steps are of the first node
each_begins : {n : Netlist} {a : ℕ} {nodes : List ℕ} {ℓ : Layer} {A : ℕ} {steps : List Step} → FollowsEach n (a ∷ nodes) ℓ A steps → first_node steps ≡ a
each_begins (one f) = let (rule, below, e) = follows_begins f in rw e
each_begins (more f each) = let (rule, below, e) = follows_begins f in rw e

-- at gate 4 of block A a step by rule 6 takes sets of both operands, the first of which is node 3
a_first : {c : Choice} → In c (rules_of XOR glitch) → c.rule ≡ 6 → picked c.operands (3 ∷ 1 ∷ []) ≡ 3 ∷ 1 ∷ []
unfolding rules_of picked
a_first here six = absurd (omega arith)
a_first (there here) six = absurd (omega arith)
a_first (there (there here)) six = absurd (omega arith)
a_first (there (there (there here))) six = refl
a_first {c = c} (there (there (there (there x17)))) six = elim x17 [ ]

-- so the next step is of that node
abbrev rules_at : Cell → List Choice
rules_at (input s) = []
rules_at (gate kind ops) = rules_of kind glitch

next_step : {A : ℕ} {s : Step} {steps : List Step} → Follows p9 4 glitch A (s ∷ steps) → s.rule ≡ 6 → first_node steps ≡ 3
unfolding listed operands
next_step (own is) six = absurd (omega arith)
next_step (made is m each) six =
    let taken = a_first (subst (In _) (sym (ap rules_at is.same)) m) six in
    each_begins (rw (← ap operands is.same, taken) at each)

-- The steps of the secret alone in block A do not follow with those of the two operands exchanged.
pub a_exchanged : ¬ Follows p9 4 glitch 1 (step 4 glitch 6 1 ∷ step 1 glitch 1 2 ∷ step 3 glitch 4 3 ∷ step 0 glitch 1 3 ∷ [])
a_exchanged f = omega (arith, next_step f refl)

-- ---- certificates

-- the steps of the secret alone in block A, as `derive` writes them
abbrev a_slice : List ℕ
a_slice = 4 ∷ 1 ∷ 6 ∷ 1 ∷ 0 ∷ 3 ∷ 1 ∷ 4 ∷ 3 ∷ 0 ∷ 0 ∷ 1 ∷ 1 ∷ 3 ∷ 0 ∷ 1 ∷ 1 ∷ 1 ∷ 2 ∷ 0 ∷ []

-- They are a certificate of four steps,
pub a_certificate : Certificate P9.bytes 4 1 1 4 a_slice
unfolding reply_to family_in families_at layer_of layer_number step_bytes steps_out
a_certificate = record {
  netlist = p9;
  is = p9_read;
  low = omega arith;
  steps = step 4 glitch 6 1 ∷ step 3 glitch 4 3 ∷ step 0 glitch 1 3 ∷ step 1 glitch 1 2 ∷ [];
  many = refl;
  written = refl;
  follows =
      subst (Follows p9 4 glitch 1) a_derivation
      (derivation_follows p9 (read_well_formed P9.bytes p9 p9_read) 4 (omega arith) glitch 1 tt);
}

-- and not of twenty, which is how many bytes they are;
pub a_bytes_counted : ¬ Certificate P9.bytes 4 1 1 20 a_slice
a_bytes_counted c = omega (arith, c.many, out_length c.steps, ap {B = ℕ} length c.written)

-- nor is any other slice that begins with another node.
pub a_other_node : (slice : List ℕ) → ¬ Certificate P9.bytes 4 1 1 4 (3 ∷ slice)
unfolding step_bytes steps_out
a_other_node slice c =
    let (rule, below, begins) = follows_begins c.follows in
    omega (arith, ap (λ (l : List ℕ). get_or l 0 0) (c.written ∙ ap steps_out begins))
