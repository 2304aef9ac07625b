-- A derivation can have more steps than could ever be written. In a chain of gates, each XOR of the node before
-- it with itself, the steps of the empty set double at each gate: behind a gate's own step stand all of the
-- operand's, twice. Assumes nothing.
use Prim.Native.Nat.{ℕ, zero, suc, ◌+◌, ◌^◌, ◌≤◌, ◌<◌}
use mathlib.Core.Path.{◌≡◌, refl, ap}
use mathlib.Core.Bool.{Bool, true}
use mathlib.Core.List.{[], ◌∷◌}
use native.Mathlib.Numerals.{add-one}
use native.Mathlib.Omega.{arith}
use borrow.Author.Tests.{lt-ltb}
use lib.Dec.{T}
use lib.ListN.{length, get_or, length-append}
use lib.Pow.{pow_mono}
use Rattle.rules.specs.Lists.{member, tabulate}
use Rattle.rules.specs.Records.{XOR, listed, from_operands, Cell, input, gate, Netlist, WellFormed, most_nodes, operands, set_of}
use Rattle.rules.specs.Families.{Family, settled_of, family_rule, families_rule, families_at}
use Rattle.rules.specs.Checks.{refused, judged}
use Rattle.rule_laws.proofs.Lists.{member_head, product_holds}
use Rattle.rule_laws.proofs.Tests.{same_test}
use Rattle.rule_laws.proofs.Members.{All, all_none, all_front, all_single}
use Rattle.rule_laws.proofs.Packing.{tabulate_length, tabulate_at}
use Rattle.derivation_rules.specs.Derivations.{settled, family_in, Is, rules_of, layer_below, picked, claim, way, lowest_set, product_of, needed, first_made, chosen, explained, derivation, layer_of, in_family, most_steps, derived, set_check, steps_check, explainable}
use Rattle.derivation_rules.proofs.Lowest.{lowest_least}
use Rattle.derivation_rules.proofs.Derivation.{own_family, family_of_lem, chosen_at, derivation_unfolds}

-- no variables; an input of the empty set, and behind it so many gates
abbrev pub chain : (gates : ℕ) → Netlist
chain gates = record { variables = []; nodes = input 0 ∷ tabulate (λ j. gate XOR (j, (j, tt))) gates }

-- how many nodes it has, and what they are
chain_length : (gates : ℕ) → length (chain gates).nodes ≡ suc gates
chain_length gates = ap suc (tabulate_length (λ j. gate XOR (j, (j, tt))) gates)

input_is : (gates : ℕ) → Is (chain gates) 0 (input 0)
input_is gates = record { there = omega arith; same = refl }

gate_is : (gates j : ℕ) → j < gates → Is (chain gates) (suc j) (gate XOR (j, (j, tt)))
gate_is gates j h = record { there = omega (arith, chain_length gates); same = tabulate_at (λ j. gate XOR (j, (j, tt))) gates j (input 0) h }

-- The chain obeys the record rules.
pub chain_formed : (gates : ℕ) → gates < most_nodes → WellFormed (chain gates)
unfolding listed operands set_of
chain_formed gates few = record {
  few_variables = omega arith;
  few_nodes = omega (arith, chain_length gates);
  lower = λ i h. (obeys i (omega (arith, chain_length gates))).0;
  declared = λ i h. (obeys i (omega (arith, chain_length gates))).1;
}
  where
    node : ℕ → Cell
    node i = get_or (chain gates).nodes i (input 0)

    obeys : (i : ℕ) → i ≤ gates → All (λ a. a < i) (operands (node i)) × (set_of (node i) < 1)
    obeys zero h = (all_none _, omega arith)
    obeys (suc j) h = rw (gate_is gates j h).same (all_front _ j (j ∷ []) (omega arith) (all_single _ j (omega arith)), omega arith)

-- no set is lower than the empty one
lowest_empty : (test : ℕ → Bool) (F : Family) → T (member 0 F) → T (test 0) → lowest_set test F ≡ 0
lowest_empty test F m t = omega (arith, lowest_least test F 0 m t)

module _ (gates : ℕ) (few : gates < most_nodes) where
  formed : WellFormed (chain gates)
  formed = chain_formed gates few

  -- The empty set is in each node's settled family.
  pub chain_holds : (i : ℕ) → i ≤ gates → T (member 0 (family_in settled (families_at (chain gates) i)))
  unfolding family_in families_at from_operands settled_of family_rule families_rule
  chain_holds zero h = rw (own_family (chain gates) formed (input_is gates) settled) (member_head 0 [])
  chain_holds (suc j) h =
      let t = chain_holds j (omega arith) in
      rw (family_of_lem (chain gates) formed (gate_is gates j h) settled) (product_holds _ _ 0 0 t t)

  -- at a gate, the empty set needs that of the operand, twice
  needs_empty : (j : ℕ) → j < gates → chosen_at (chain gates) (suc j) settled 0 ≡ way 6 (claim j settled 0 ∷ claim j settled 0 ∷ [])
  unfolding families_at listed rules_of layer_below picked product_of needed first_made chosen
  needs_empty j h = let t = chain_holds j (omega arith) in rw ((gate_is gates j h).same, lowest_empty)

  -- The empty set's derivation at node i has 2 to the power i + 1 steps, less one: twice those of
  -- the node before, and one more.
  pub doubled : (i : ℕ) → i ≤ gates → length (derivation (chain gates) i settled 0) + 1 ≡ 2 ^ (i + 1)
  unfolding explained chosen
  doubled zero h = rw (derivation_unfolds (chain gates) formed 0 (omega arith) settled 0 (chain_holds 0 h))
  doubled (suc j) h =
      rw (derivation_unfolds (chain gates) formed (suc j) (gate_is gates j h).there settled 0 (chain_holds (suc j) h), needs_empty j h)
      (simp (length-append, add-one) (omega (arith, simp add-one at (doubled j (omega arith)))))

  -- From the ninth gate on, those are more than fit into any slice: refusal 15.
  pub from_ninth : (i room : ℕ) → 9 ≤ i → i ≤ gates → room ≤ most_steps → explainable i 0 0 room (chain gates) ≡ refused 15 room
  unfolding layer_of in_family derived set_check steps_check explainable judged
  from_ninth i room low h small =
      let holds : in_family (chain gates) i 0 0 ≡ true = same_test _ true (λ _. tt) (λ _. chain_holds i h) in
      let over : room < length (derived (chain gates) i 0 0) = omega (arith, doubled i h, pow_mono {i = 10} {j = i + 1} (omega arith)) in
      rw (holds, lt-ltb _ _ over)

-- So it is at the last of 199 gates, as many as a netlist may have behind an input: 2 to the power 200
-- steps, less one, are refused.
pub too_many : (room : ℕ) → room ≤ most_steps → explainable 199 0 0 room (chain 199) ≡ refused 15 room
too_many room h = from_ninth 199 (omega arith) 199 room (omega arith) (omega arith) h
