-- The sets of the families of a netlist that obeys the record rules are sets of its variables, and so below
-- `most_sets`; its feeding points are inputs or registers, no higher than the node. What a rule makes comes from its
-- operands' families or points. Assumes nothing.
use Prim.Native.Nat.{ℕ, suc, ◌≤◌, ◌<◌, ◌^◌}
use mathlib.Core.Path.{◌≡◌, ap, ◌∙◌}
use mathlib.Core.Logic.{⊎_elim}
use mathlib.Core.List.{List, [], ◌∷◌, map}
use native.Mathlib.Nat.{le_refl, le_trans, lt_of_lt_of_le, le_of_suc-le-suc}
use native.Mathlib.Omega.{arith}
use lib.Bits.{bit_xor, xor_lt}
use lib.Pow.{pow_pos, pow_mono}
use lib.Dec.{T}
use lib.ListN.{length, get_or, take}
use lib.Seq.{length-take-le}
use Rattle.rules.specs.Lists.{member}
use Rattle.rules.specs.Tables.{table}
use Rattle.rules.specs.Records.{input, Netlist, WellFormed, most_variables, most_sets, set_of}
use Rattle.rules.specs.Values.{is_point, feeding_rule, feedings, feeding}
use Rattle.rules.specs.Families.{Family, product, families_at}
use Rattle.rule_laws.proofs.Lists.{member_head, member_tail, member_cases, union_cases}
use Rattle.rule_laws.proofs.Members.{All, all_none, all_single, all_insert, all_union}
use Rattle.rule_laws.proofs.Tables.{table_length, table_entry}
use Rattle.rule_laws.proofs.Entries.{each_feeding, each_family}
use Rattle.rule_laws.proofs.Feeding.{point_rule}

-- ---- what is in a product

map_cases : (f : ℕ → ℕ) (C : ℕ) (G : Family) → T (member C (map f G)) → (B : ℕ) × T (member B G) × (C ≡ f B)
map_cases f C [] t = absurd (unfold member in t)
map_cases f C (B ∷ G) t =
    ⊎_elim (λ e. (B, member_head B G, e))
    (λ m. let (B', b, e) = map_cases f C G m in (B', member_tail B' B G b, e))
    (member_cases C (f B) (map f G) t)

-- what is in a product is the symmetric difference of one from each
pub product_cases : (F G : Family) (C : ℕ) → T (member C (product F G))
    → (A : ℕ) × (B : ℕ) × T (member A F) × T (member B G) × (C ≡ bit_xor A B)
unfolding product
product_cases [] G C t = absurd (unfold member in t)
product_cases (A ∷ F) G C t =
    ⊎_elim (λ m. let (B, b, e) = map_cases (bit_xor A) C G m in (A, B, member_head A F, b, e))
    (λ m. let (A', B, a, b, e) = product_cases F G C m in (A', B, member_tail A' A F a, b, e))
    (union_cases C (map (bit_xor A) G) (product F G) t)

-- so sets of the first v variables make a product of such sets
pub product_below : (v : ℕ) (F G : Family) → All (λ A. A < 2 ^ v) F → All (λ A. A < 2 ^ v) G → All (λ A. A < 2 ^ v) (product F G)
product_below v F G p q C t = let (A, B, a, b, e) = product_cases F G C t in rw e (xor_lt v A B (p A a) (q B b))

-- ---- the sets of the families

-- where each input has a set of the first v variables, so has each node in both of its families
sets_below : (n : Netlist) (v : ℕ) → ((i : ℕ) → i < length n.nodes → set_of (get_or n.nodes i (input 0)) < 2 ^ v)
    → (i : ℕ)
    → ((A : ℕ) → T (member A (families_at n i).settled) → A < 2 ^ v) × ((A : ℕ) → T (member A (families_at n i).glitch) → A < 2 ^ v)
sets_below n v inputs =
    each_family n (All Below) record {
      empty = all_single Below 0 (pow_pos v);
      alone = λ i h. all_single Below (set_of (get_or n.nodes i (input 0))) (inputs i h);
      added = λ F p. all_insert Below 0 F (pow_pos v) p;
      joined = all_union Below;
      multiplied = product_below v;
    }
  where
    Below : ℕ → Type 0
    Below A = A < 2 ^ v

-- of a netlist that obeys the record rules
module _ (n : Netlist) (formed : WellFormed n) where
  -- each set of a family is a set of declared variables
  pub sets_declared : (i : ℕ)
      → All (λ A. A < 2 ^ length n.variables) (families_at n i).settled × All (λ A. A < 2 ^ length n.variables) (families_at n i).glitch
  sets_declared = sets_below n (length n.variables) formed.declared

  -- and so, as each input's set, one of those that there may be
  pub set_small : (i : ℕ) → i < length n.nodes → set_of (get_or n.nodes i (input 0)) < most_sets
  set_small i h = lt_of_lt_of_le (formed.declared i h) (pow_mono formed.few_variables)

  pub families_small : (i : ℕ) → All (λ A. A < most_sets) (families_at n i).settled × All (λ A. A < most_sets) (families_at n i).glitch
  families_small = sets_below n most_variables set_small

-- ---- feeding points

-- each is an input or a register, no higher than the node
pub feeding_points : (n : Netlist) (i : ℕ) → i < length n.nodes → (j : ℕ) → T (member j (feeding n i))
    → (j ≤ i) × T (is_point (get_or n.nodes j (input 0)))
feeding_points n i h j t = (le_of_suc-le-suc (found i j t).0, (found i j t).1)
  where
    Found : ℕ → ℕ → Type 0
    Found m k = (k < m) × T (is_point (get_or n.nodes k (input 0)))

    found : (m : ℕ) → All (Found (suc m)) (feeding n m)
    found =
        each_feeding n (λ m. All (Found m)) record {
          stays = λ m l F g p k u. (le_trans (p k u).0 g, (p k u).1);
          empty = all_none (Found 0);
          alone = λ m g point. all_single (Found (suc m)) m (le_refl (suc m), point);
          joined = λ m. all_union (Found m);
        }

-- an input or a register feeds itself only
pub point_feeding : (n : Netlist) (i : ℕ) → i < length n.nodes → T (is_point (get_or n.nodes i (input 0))) → feeding n i ≡ i ∷ []
unfolding feeding feedings
point_feeding n i h point =
    table_entry feeding_rule n.nodes i [] (input 0) h ∙ point_rule (take i t) (get_or n.nodes i (input 0)) point
    ∙ ap {B = List ℕ} (λ k. k ∷ []) (length-take-le i t (omega (arith, table_length feeding_rule [] n.nodes)))
  where
    t : List (List ℕ)
    t = table feeding_rule [] n.nodes
