-- What is known of a claim that is to be explained: it is true of the netlist that the work bytes hold the families of,
-- its set is one of those that there may be, its node's record can be looked at; and the way that is chosen by the
-- bytes is the first rule that works, whose needs are such claims again. Assumes nothing.
use Prim.Native.Nat.{ℕ, ◌≤◌, ◌<◌}
use mathlib.Core.Path.{◌≡◌, sym, ap, subst, ◌∙◌}
use mathlib.Core.Bool.{true}
use mathlib.Core.List.{List, ◌∷◌, ◌++◌}
use native.Mathlib.Omega.{arith}
use lib.Dec.{T, ltb}
use lib.ListN.{length, get_or}
use Rattle.rules.specs.Lists.{member}
use Rattle.rules.specs.Records as R
use Rattle.rules.specs.Records.{WellFormed, input, most_nodes, most_sets}
use Rattle.rules.specs.Families.{constant, families, families_at}
use Rattle.rules.specs.Slices.{entry, work_bytes}
use Rattle.rule_laws.proofs.Tests.{pass, and_right}
use Rattle.netlists.specs.declared.Netlist.{Netlist}
use Rattle.netlists.specs.Netlists.{blank, flat_of, Placed}
use Rattle.netlists.proofs.Netlists.{value_count, value_entry, few_nodes, one_netlist, placed_at, placed_later}
use Rattle.families.proofs.Work.{Alike, settled_there, glitch_there}
use Rattle.nodes.specs.Work.{so_far}
use Rattle.nodes.proofs.Nodes.{so_far_at}
use Rattle.derivation_steps.specs.declared.Claim.{Claim}
use Rattle.derivation_steps.specs.declared.Way.{Way}
use Rattle.derivation_steps.specs.declared.Way.TheVariants.{Own, Operand, Empty, First, Second, Both}
use Rattle.derivation_rules.specs.Derivations as D
use Rattle.derivation_rules.specs.Derivations.{Layer, settled, glitch, family_in, step, claim, claimed, chosen, explained, derivation, layer_of, in_family}
use Rattle.derivation_steps.specs.Meaning.{layer_meant, claim_of, way_of}
use Rattle.derivation_rules.proofs.Choice.{same_choice}
use Rattle.derivation_rules.proofs.Derivation.{small, NeedsHeld, needs_held, derivation_unfolds}
use Rattle.derivations.specs.Written.{Known, Held, HeldEach}

-- a claim of a node below a number is one of a node below a higher one
pub held_higher : {value : Netlist} {i j : ℕ} {c : Claim} → Held value i c → i ≤ j → Held value j c
held_higher h l = record { below = omega (arith, h.below); true = h.true }

pub each_higher : (value : Netlist) (i j : ℕ) (w : Way) → HeldEach value i w → i ≤ j → HeldEach value j w
each_higher value i j Own h l = tt
each_higher value i j (Operand c) h l = held_higher h l
each_higher value i j Empty h l = tt
each_higher value i j (First c) h l = held_higher h l
each_higher value i j (Second c) h l = held_higher h l
each_higher value i j (Both c d) (h, m) l = (held_higher h l, held_higher m l)

-- the families that bytes hold are a netlist's
held_alike : (n : R.Netlist) → WellFormed n → (work rest : List ℕ) → work ≡ work_bytes (families n) ++ rest → (a : ℕ) → a < length n.nodes → (ℓ : Layer)
    → Alike (family_in ℓ (get_or (so_far work most_nodes) a constant)) (family_in ℓ (families_at n a))
unfolding family_in
held_alike n formed work rest e a h settled =
    rw (so_far_at work most_nodes a (omega (arith, formed.few_nodes)), e) (settled_there n formed rest a h)
held_alike n formed work rest e a h glitch =
    rw (so_far_at work most_nodes a (omega (arith, formed.few_nodes)), e) (glitch_there n formed rest a h)

module _ {value : Netlist} {work : List ℕ} (k : Known value work) where
  -- its netlist
  abbrev n : R.Netlist
  n = k.formed.netlist

  formed : WellFormed n
  formed = k.formed.obeys

  -- the way that is chosen by the bytes is the first rule that works
  same_way : (i : ℕ) → i < length n.nodes → (ℓ : Layer) (A : ℕ)
      → chosen (so_far work most_nodes) ℓ (get_or n.nodes i (input 0)) A ≡ chosen (families n) ℓ (get_or n.nodes i (input 0)) A
  unfolding families_at
  same_way i h = same_choice (so_far work most_nodes) (families n) i (λ a l. held_alike n formed work k.rest k.held a (omega arith)) (get_or n.nodes i (input 0)) (formed.lower i h)

  -- what the bytes tell of a claim is so of the netlist
  pub by_bytes : (c : Claim) → c.node < value.count → (m : R.Netlist) → value ≡ flat_of m
      → claimed (so_far work most_nodes) (claim_of c) ≡ member c.set (family_in (layer_meant c.layer) (families_at m c.node))
  unfolding claimed
  by_bytes c h m e =
      rw (← one_netlist k.formed m e)
      ((held_alike n formed work k.rest k.held c.node (omega (arith, value_count n k.formed.is)) (layer_meant c.layer)).same c.set)

  -- what is true of that netlist is true of the one that the value is of
  true_claim : (bound : ℕ) (d : Claim) → d.node < bound → T (claimed (families n) (claim_of d)) → Held value bound d
  true_claim bound d below t = record { below = below; true = λ m e. rw (← one_netlist k.formed m e) t }

  -- a claim of a set in the family, in one of the two layers
  pub claim_held : (c : Claim) (i number A : ℕ) → claim_of c ≡ claim i (layer_of number) A → i < value.count
      → in_family n i number A ≡ true → Held value value.count c
  unfolding in_family claimed families_at
  claim_held c i number A is there e =
      true_claim value.count c (rw (ap (λ (d : D.Claim). d.node) is) there)
      (subst (λ (d : D.Claim). T (claimed (families n) d)) (sym is) (and_right (ltb number 2) _ (pass e)))

  -- ---- a claim that is true

  module _ {c : Claim} (held : Held value value.count c) where
    there : c.node < length n.nodes
    there = omega (arith, held.below, value_count n k.formed.is)

    in_family_lem : T (member c.set (family_in (layer_meant c.layer) (families_at n c.node)))
    unfolding claimed families_at
    in_family_lem = held.true n k.formed.is

    pub node_number : c.node < most_nodes
    node_number = omega (arith, held.below, few_nodes k.formed)

    pub set_number : c.set < most_sets
    set_number = small n formed (layer_meant c.layer) c.node c.set in_family_lem

    pub record_there : Placed most_nodes (get_or value.nodes c.node blank)
    record_there = placed_later (omega (arith, node_number)) (placed_at k.formed c.node held.below)

    -- its derivation has a step
    pub steps_some : (m : R.Netlist) → value ≡ flat_of m → 0 < length (derivation m c.node (layer_meant c.layer) c.set)
    steps_some m e =
        rw (← one_netlist k.formed m e, derivation_unfolds n formed c.node there (layer_meant c.layer) c.set in_family_lem) (omega arith)

    -- the way that is chosen is the first rule that works
    module _ (w : Way) (is : (cell : R.Cell) → get_or value.nodes c.node blank ≡ entry cell
        → way_of w ≡ chosen (so_far work most_nodes) (layer_meant c.layer) cell c.set) where
      the_way : way_of w ≡ chosen (families n) (layer_meant c.layer) (get_or n.nodes c.node (input 0)) c.set
      the_way = is _ (value_entry n k.formed.is c.node held.below) ∙ same_way c.node there (layer_meant c.layer) c.set

      -- what it needs are claims that are true, of lower nodes
      pub needs_true : HeldEach value c.node w
      needs_true = go w (rw (← the_way) at (needs_held n formed c.node there (layer_meant c.layer) c.set in_family_lem))
        where
          go : (w : Way) → NeedsHeld n c.node (way_of w).needs → HeldEach value c.node w
          go Own held = tt
          go (Operand d) (below, t, _) = true_claim c.node d below t
          go Empty held = tt
          go (First d) (below, t, _) = true_claim c.node d below t
          go (Second d) (below, t, _) = true_claim c.node d below t
          go (Both d e) (below, t, (under, u, _)) = (true_claim c.node d below t, true_claim c.node e under u)

      -- and the claim's derivation is that step and then those of the needs
      pub steps_of : (m : R.Netlist) → value ≡ flat_of m → (rule : ℕ) → rule ≡ (way_of w).rule
          → derivation m c.node (layer_meant c.layer) c.set
          ≡ step c.node (layer_meant c.layer) rule c.set ∷ explained (derivation m) (way_of w).needs
      steps_of m e rule same =
          rw (← one_netlist k.formed m e, same)
          (derivation_unfolds n formed c.node there (layer_meant c.layer) c.set in_family_lem
          ∙ ap (λ (way : D.Way). step c.node (layer_meant c.layer) way.rule c.set ∷ explained (derivation n) way.needs) (sym the_way))
