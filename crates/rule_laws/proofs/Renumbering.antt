-- The law of renumbering, over `table`, once: where nodes have other numbers and their operands follow, each operand
-- before its node as it was, every entry travels with its node. Nodes may be left out that no other node uses, may
-- move, and others may stand between them. So do settled values, families, feeding points (renumbered) and what a node
-- reports; and the netlist obeys the record rules. Assumes nothing.
use Prim.Native.Nat.{ℕ, zero, suc, ◌≤◌, ◌<◌, ◌^◌}
use mathlib.Core.Path.{◌≡◌, refl, sym, ap, ap₂, ◌∙◌, subst}
use mathlib.Core.Logic.{◌↔◌, ◌⊎◌, ⊎_elim}
use mathlib.Core.Bool.{Bool, true, false, cond, ◌||◌}
use mathlib.Core.List.{List, [], ◌∷◌, map}
use mathlib.Core.Option.{none}
use native.Mathlib.Nat.{not-suc-le-zero}
use native.Mathlib.Decide.{dec_lt}
use native.Mathlib.Omega.{arith}
use borrow.Author.Tests.{eq-eqb}
use lib.Dec.{eqb, eqb→eq}
use lib.ListN.{length, get_or, take, get_or-eq_default}
use lib.Seq.{get_or-take}
use Rattle.rules.specs.Lists.{member, insert, union}
use Rattle.rules.specs.Tables.{table}
use Rattle.rules.specs.Records.{Rule, Operands, operand_count, listed, from_operands, renamed_all}
use Rattle.rules.specs.Records.{Cell, input, gate, Netlist, WellFormed, operands, set_of, renamed, most_nodes}
use Rattle.rules.specs.Values.{Assignment, value_of, value_rule, values, is_point, joined, feeding_rule, feedings, feeding}
use Rattle.rules.specs.Families.{Family, Families, constant, settled_of, glitch_of, family_rule, families_rule, families, families_at, tested, mark, layer_marks}
use Rattle.rule_laws.proofs.Tests.{pass, same_test}
use Rattle.rule_laws.proofs.Lists.{member_head, member_tail}
use Rattle.rule_laws.proofs.Members.{All, all_none, all_single, all_union, all_map}
use Rattle.rule_laws.proofs.Operands.{from_same, from_renamed, operands_renamed, set_renamed, kind_renamed}
use Rattle.rule_laws.proofs.Tables.{table_length, table_entry}
use Rattle.rule_laws.proofs.Entries.{length_done}
use Rattle.rule_laws.proofs.Halves.{layer_mark}

-- Those of the old nodes that are kept have their new numbers by f: they are there, with their operands, which are
-- kept and before them as they were, and no two become the same. Nothing is said of the others, old or new.
pub record Renumbers (f : ℕ → ℕ) (Kept : ℕ → Type 0) (old new : List Cell) : Type 0 where
  pub there : (a : ℕ) → Kept a → (a < length old) ↔ (f a < length new)
  pub cells : (a : ℕ) → Kept a → get_or new (f a) (input 0) ≡ renamed f (get_or old a (input 0))
  pub uses : (a : ℕ) → Kept a → All (λ b. Kept b × ((b < a) ↔ (f b < f a))) (operands (get_or old a (input 0)))
  pub apart : (a b : ℕ) → Kept a → Kept b → f a ≡ f b → a ≡ b

-- ---- the law

module _ (f : ℕ → ℕ) (Kept : ℕ → Type 0) {A : Type 0} (d : A) (R : A → A → Type 0) where
  -- the step gives entries in R where those of the operands are
  abbrev pub Follows : (List A → Cell → A) → Type 0
  Follows step =
      (a : ℕ) → Kept a → (done more : List A) → length done ≡ a → length more ≡ f a → (cell : Cell)
      → All (λ b. R (get_or done b d) (get_or more (f b) d)) (operands cell) → R (step done cell) (step more (renamed f cell))

  -- where an entry is in both lists or in neither, and the defaults are in R
  either : R d d → (xs ys : List A) (a b k l : ℕ) → length xs ≡ k → length ys ≡ l → (a < k) ↔ (b < l)
      → (a < k → R (get_or xs a d) (get_or ys b d)) → R (get_or xs a d) (get_or ys b d)
  either r xs ys a b k l p q (in_both, back) inside = go (dec_lt a k)
    where
      go : Dec (a < k) → R (get_or xs a d) (get_or ys b d)
      go (yes h) = inside h
      go (no h) = rw (get_or-eq_default xs d {n = a} (omega arith), get_or-eq_default ys d {n = b} (beyond (dec_lt b l))) r
        where
          beyond : Dec (b < l) → length ys ≤ b
          beyond (yes m) = absurd (h (back m))
          beyond (no m) = omega arith

  module _ (step : List A → Cell → A) (follows : Follows step) (r : R d d) (old new : List Cell) (renumbers : Renumbers f Kept old new) where
    abbrev before : List A
    before = table step [] old

    abbrev after : List A
    after = table step [] new

    abbrev Travels : ℕ → Type 0
    Travels a = R (get_or before a d) (get_or after (f a) d)

    below : (n a : ℕ) → a < n → Kept a → Travels a
    below zero a h kept = absurd (not-suc-le-zero h)
    below (suc n) a h kept =
        either r before after a (f a) _ _ (omega (arith, table_length step [] old)) (omega (arith, table_length step [] new)) (renumbers.there a kept)
        (λ l. here l ((renumbers.there a kept).0 l) (λ b s. below n b (omega arith)))
      where
        here : a < length old → f a < length new → ((b : ℕ) → b < a → Kept b → Travels b) → Travels a
        here l m earlier =
            rw (table_entry step old a d (input 0) l, table_entry step new (f a) d (input 0) m, renumbers.cells a kept)
            (follows a kept (take a before) (take (f a) after) (length_done step old a l) (length_done step new (f a) m) _ (λ b t.
            let (still, order) = renumbers.uses a kept b t in
            either r (take a before) (take (f a) after) b (f b) a (f a) (length_done step old a l) (length_done step new (f a) m) order
            (λ s. rw (get_or-take a before b d s, get_or-take (f a) after (f b) d (order.0 s)) (earlier b s still))))

    -- every entry of a node that is kept travels with it
    pub renumbered_entry : (a : ℕ) → Kept a → Travels a
    renumbered_entry a = below (suc a) a (omega arith)

-- ---- the rules follow

module _ (f : ℕ → ℕ) (Kept : ℕ → Type 0) where
  -- what a rule makes of the operands' entries
  from_follows : {A B : Type 0} (k : ℕ) (rule : Rule A B k) (e g : ℕ → A) (ops : Operands k) → All (λ a. e a ≡ g (f a)) (listed k ops)
      → from_operands k rule e ops ≡ from_operands k rule g (renamed_all f k ops)
  from_follows k rule e g ops same = from_same k rule e (λ a. g (f a)) ops same ∙ sym (from_renamed f k rule g ops)

  values_follow : (x : Assignment) → Follows f Kept false ◌≡◌ (value_rule x)
  unfolding value_rule renamed operands
  values_follow x a kept done more p q (input s) same = refl
  values_follow x a kept done more p q (gate kind ops) same = from_follows (operand_count kind) (value_of kind) _ _ ops same

  families_follow : Follows f Kept constant ◌≡◌ families_rule
  unfolding families_rule family_rule renamed operands
  families_follow a kept done more p q (input s) same = refl
  families_follow a kept done more p q (gate kind ops) same =
      ap₂ {C = Families} (λ F G. record { settled = F; glitch = G })
      (from_follows (operand_count kind) (settled_of kind) _ _ ops same) (from_follows (operand_count kind) (glitch_of kind) _ _ ops same)

  -- the points after are those before, renumbered, and each of them is kept
  pub record PointsFollow (before after : List ℕ) : Type 0 where
    pub points : after ≡ map f before
    pub kept : All Kept before

  -- no two of them become the same, so that they are joined as before
  module _ (apart : (a b : ℕ) → Kept a → Kept b → f a ≡ f b → a ≡ b) where
    member_follows : (x : ℕ) (ys : List ℕ) → Kept x → All Kept ys → member (f x) (map f ys) ≡ member x ys
    unfolding member
    member_follows x [] p q = refl
    member_follows x (y ∷ ys) p q =
        ap₂ ◌||◌ (eqb_follows (q y (member_head y ys))) (member_follows x ys p (λ z t. q z (member_tail z y ys t)))
      where
        eqb_follows : Kept y → eqb (f x) (f y) ≡ eqb x y
        eqb_follows k =
            same_test (eqb (f x) (f y)) (eqb x y) (λ t. pass (eq-eqb x y (apart x y p k (eqb→eq (f x) (f y) t))))
            (λ t. pass (eq-eqb (f x) (f y) (ap f (eqb→eq x y t))))

    union_follows : (xs ys : List ℕ) → All Kept xs → All Kept ys → union (map f xs) (map f ys) ≡ map f (union xs ys)
    unfolding union insert
    union_follows [] ys p q = refl
    union_follows (x ∷ xs) ys p q =
        let rest : All Kept xs = λ z t. p z (member_tail z x xs t) in
        rw (union_follows xs ys rest q, member_follows x (union xs ys) (p x (member_head x xs)) (all_union Kept xs ys rest q)) (go (member x (union xs ys)))
      where
        go : (b : Bool) → cond b (map f (union xs ys)) (f x ∷ map f (union xs ys)) ≡ map f (cond b (union xs ys) (x ∷ union xs ys))
        go true = refl
        go false = refl

    joined_follows : (e g : ℕ → List ℕ) (nodes : List ℕ) → All (λ a. PointsFollow (e a) (g (f a))) nodes → PointsFollow (joined e nodes) (joined g (map f nodes))
    unfolding joined
    joined_follows e g [] h = record { points = refl; kept = all_none Kept }
    joined_follows e g (a ∷ nodes) h =
        let p = h a (member_head a nodes) in
        let q = joined_follows e g nodes (λ b t. h b (member_tail b a nodes t)) in
        record {
          points = ap₂ union p.points q.points ∙ union_follows _ _ p.kept q.kept;
          kept = all_union Kept _ _ p.kept q.kept;
        }

    feedings_follow : Follows f Kept [] PointsFollow feeding_rule
    unfolding feeding_rule is_point
    feedings_follow a kept done more p q cell same = rw (kind_renamed f cell, operands_renamed f cell, p, q) (go (is_point cell))
      where
        go : (b : Bool) → PointsFollow (cond b (a ∷ []) (joined (λ b. get_or done b []) (operands cell))) (cond b (f a ∷ []) (joined (λ b. get_or more b []) (map f (operands cell))))
        go true = record { points = refl; kept = all_single Kept a kept }
        go false = joined_follows _ _ (operands cell) same

-- ---- a netlist whose nodes have other numbers

module _ (f : ℕ → ℕ) (Kept : ℕ → Type 0) (n m : Netlist) (renumbers : Renumbers f Kept n.nodes m.nodes) where
  pub values_renumbered : (x : Assignment) (a : ℕ) → Kept a → get_or (values n x) a false ≡ get_or (values m x) (f a) false
  unfolding values
  values_renumbered x = renumbered_entry f Kept false ◌≡◌ (value_rule x) (values_follow f Kept x) refl n.nodes m.nodes renumbers

  pub families_renumbered : (a : ℕ) → Kept a → families_at n a ≡ families_at m (f a)
  unfolding families_at families
  families_renumbered = renumbered_entry f Kept constant ◌≡◌ families_rule (families_follow f Kept) refl n.nodes m.nodes renumbers

  pub feedings_renumbered : (a : ℕ) → Kept a → PointsFollow f Kept (feeding n a) (feeding m (f a))
  unfolding feeding feedings
  feedings_renumbered =
      renumbered_entry f Kept [] (PointsFollow f Kept) feeding_rule (feedings_follow f Kept renumbers.apart)
      (record { points = refl; kept = all_none Kept }) n.nodes m.nodes renumbers

  module _ (variables : m.variables ≡ n.variables) where
    -- what a node reports in a layer
    pub marks_renumbered : (layer : Families → Family) (a : ℕ) → Kept a → get_or (layer_marks layer n) a none ≡ get_or (layer_marks layer m) (f a) none
    marks_renumbered layer a kept =
        rw (layer_mark layer n a, layer_mark layer m (f a), ← families_renumbered a kept, renumbers.cells a kept, variables)
        (unfold mark tested in (rw kind_renamed))

    -- node i has its operands below it, and a set of declared variables
    pub record Placed (i : ℕ) : Type 0 where
      pub lower : All (λ a. a < i) (operands (get_or m.nodes i (input 0)))
      pub declared : set_of (get_or m.nodes i (input 0)) < 2 ^ length m.variables

    kept_placed : WellFormed n → (a : ℕ) → Kept a → f a < length m.nodes → Placed (f a)
    kept_placed formed a kept h =
        let there = (renumbers.there a kept).1 h in
        record {
          lower =
              rw (renumbers.cells a kept, operands_renamed) (all_map (λ b. b < f a) f _ (λ b t. (renumbers.uses a kept b t).1.0 (formed.lower a there b t)));
          declared = rw (renumbers.cells a kept, set_renamed, variables) (formed.declared a there);
        }

    -- it obeys the record rules, where each of its nodes is one that is kept or stands as they ask
    pub renumbered_formed : WellFormed n → length m.nodes ≤ most_nodes
        → ((i : ℕ) → i < length m.nodes → ((a : ℕ) × Kept a × (f a ≡ i)) ⊎ Placed i) → WellFormed m
    renumbered_formed formed few each = record {
      few_variables = rw variables formed.few_variables;
      few_nodes = few;
      lower = λ i h. (placed i h).lower;
      declared = λ i h. (placed i h).declared;
    }
      where
        placed : (i : ℕ) → i < length m.nodes → Placed i
        placed i h = ⊎_elim (λ c. subst Placed c.2 (kept_placed formed c.0 c.1 (rw c.2 h))) (λ p. p) (each i h)
