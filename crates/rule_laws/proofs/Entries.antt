-- What the rules keep holds at every node: a property of the entries of tables over the same nodes, which the defaults
-- have and the steps keep, is that of all entries; and from it, properties of feeding points and of families.
-- So one induction over the nodes serves `Once`, `Bounds` and `Probe`. Assumes nothing.
use Prim.Native.Nat.{ℕ, zero, suc, ◌≤◌, ◌<◌}
use mathlib.Core.Path.{◌≡◌, sym, subst, fun_ext}
use mathlib.Core.Bool.{Bool, true, false, cond}
use mathlib.Core.List.{List, [], ◌∷◌}
use native.Mathlib.Nat.{not-suc-le-zero}
use native.Mathlib.Decide.{dec_lt}
use native.Mathlib.Omega.{arith}
use lib.Dec.{T}
use lib.ListN.{length, get_or, take, length-take, get_or-eq_default}
use lib.Seq.{get_or-take, length-take-le}
use Rattle.rules.specs.Lists.{member, insert, union}
use Rattle.rules.specs.Tables.{table}
use Rattle.rules.specs.Records.{Kind, NOT, XOR, AND, OR, register, operand_count, Operands, listed, from_operands}
use Rattle.rules.specs.Records.{Cell, input, gate, Netlist, operands, set_of}
use Rattle.rules.specs.Values.{is_point, joined, feeding_rule, feedings, feeding}
use Rattle.rules.specs.Families.{Family, product, spread, Families, constant, settled_of, glitch_of, family_rule, families_rule, families, families_at}
use Rattle.rule_laws.proofs.Lists.{member_head, member_tail}
use Rattle.rule_laws.proofs.Tables.{table_length, table_entry}

-- ---- a property of every entry, of several tables over the same nodes side by side

module _ {ξ ℓ κ μ} {X : Type ξ} {A : X → Type ℓ} {B : Type κ} (step : (x : X) → List (A x) → B → A x) (nodes : List B)
    (a : (x : X) → A x) (b : B) (P : ℕ → ((x : X) → A x) → Type μ) where
  abbrev pub tables : (x : X) → List (A x)
  tables x = table (step x) [] nodes

  -- P n e says that the entries e are right where n nodes are done. The steps keep that: what is right stays so where
  -- more are done, the defaults are right, and the steps from right entries are right.
  pub record KeptBySteps : Type (ξ ⊔ ℓ ⊔ μ) where
    pub stays : (m n : ℕ) (e : (x : X) → A x) → m ≤ n → P m e → P n e
    pub defaults : P 0 a
    pub stepped : (i : ℕ) → i < length nodes → ((k : ℕ) → P i (λ x. get_or (take i (tables x)) k (a x)))
        → P (suc i) (λ x. step x (take i (tables x)) (get_or nodes i b))

  entries_below : KeptBySteps → (n i : ℕ) → i < n → P (suc i) (λ x. get_or (tables x) i (a x))
  entries_below kept zero i h = absurd (not-suc-le-zero h)
  entries_below kept (suc n) i h = entry (dec_lt i (length nodes)) (λ k l. entries_below kept n k (omega arith))
    where
      beyond : (k m : ℕ) (l : (x : X) → List (A x)) → ((x : X) → length (l x) ≤ k) → P m (λ x. get_or (l x) k (a x))
      beyond k m l g =
          subst (P m) (fun_ext (λ x. sym (get_or-eq_default (l x) (a x) (g x)))) (kept.stays 0 m a (omega arith) kept.defaults)

      earlier : ((k : ℕ) → k < i → P (suc k) (λ x. get_or (tables x) k (a x))) → (k : ℕ) → Dec (k < i)
          → P i (λ x. get_or (take i (tables x)) k (a x))
      earlier before k (yes l) =
          subst (P i) (fun_ext (λ x. sym (get_or-take i (tables x) k (a x) l))) (kept.stays (suc k) i _ l (before k l))
      earlier before k (no l) = beyond k i (λ x. take i (tables x)) (λ x. omega (arith, length-take i (tables x)))

      entry : Dec (i < length nodes) → ((k : ℕ) → k < i → P (suc k) (λ x. get_or (tables x) k (a x))) → P (suc i) (λ x. get_or (tables x) i (a x))
      entry (yes l) before =
          subst (P (suc i)) (fun_ext (λ x. sym (table_entry (step x) nodes i (a x) b l)))
          (kept.stepped i l (λ k. earlier before k (dec_lt k i)))
      entry (no l) before = beyond i (suc i) tables (λ x. omega (arith, table_length (step x) [] nodes))

  -- every entry is right, whatever the node's number
  pub each_entry : KeptBySteps → (i : ℕ) → P (suc i) (λ x. get_or (tables x) i (a x))
  each_entry kept i = entries_below kept (suc i) i (omega arith)

-- so many entries are taken as there are nodes before
pub length_done {ℓ κ} : {A : Type ℓ} {B : Type κ} (step : List A → B → A) (nodes : List B) (i : ℕ) → i < length nodes
    → length (take i (table step [] nodes)) ≡ i
length_done step nodes i h = length-take-le i (table step [] nodes) (omega (arith, table_length step [] nodes))

-- ---- feeding points

-- what holds of both cases of a test
either : (P : List ℕ → Type 0) (b : Bool) {F G : List ℕ} → (T b → P F) → P G → P (cond b F G)
either P true p q = p tt
either P false p q = q

-- P i F says that F is right as the feeding points of a node below i. The rule keeps that: a point alone
-- is right, and so are unions.
pub record KeptByFeeding (n : Netlist) (P : ℕ → List ℕ → Type 0) : Type 0 where
  pub stays : (m i : ℕ) (F : List ℕ) → m ≤ i → P m F → P i F
  pub empty : P 0 []
  pub alone : (i : ℕ) → i < length n.nodes → T (is_point (get_or n.nodes i (input 0))) → P (suc i) (i ∷ [])
  pub joined : (i : ℕ) (F G : List ℕ) → P i F → P i G → P i (union F G)

module _ (n : Netlist) (P : ℕ → List ℕ → Type 0) (kept : KeptByFeeding n P) where
  all_joined : (i : ℕ) (points_of : ℕ → List ℕ) → ((k : ℕ) → P i (points_of k)) → (nodes : List ℕ) → P i (joined points_of nodes)
  unfolding joined
  all_joined i points_of before [] = kept.stays 0 i [] (omega arith) kept.empty
  all_joined i points_of before (a ∷ nodes) = kept.joined i _ _ (before a) (all_joined i points_of before nodes)

  by_feeding : (done : List (List ℕ)) (i : ℕ) → length done ≡ i → ((k : ℕ) → P i (get_or done k [])) → (cell : Cell)
      → (T (is_point cell) → P (suc i) (i ∷ [])) → P (suc i) (feeding_rule done cell)
  unfolding feeding_rule
  by_feeding done i e before cell point =
      either (P (suc i)) (is_point cell) (λ own. rw e (point own)) (kept.stays i (suc i) _ (omega arith) (all_joined i _ before _))

  -- the feeding points of every node are right
  pub each_feeding : (i : ℕ) → P (suc i) (feeding n i)
  unfolding feeding feedings
  each_feeding =
      each_entry {X = Unit {0}} (λ x. feeding_rule) n.nodes (λ x. []) (input 0) (λ i F. P i (F tt)) record {
        stays = λ m i F h p. kept.stays m i (F tt) h p;
        defaults = kept.empty;
        stepped = λ i there before.
            by_feeding _ i (length_done feeding_rule n.nodes i there) before (get_or n.nodes i (input 0)) (kept.alone i there);
      }

-- ---- both families of a node

-- what the rules make families of keeps a relation between two of them
pub record KeepsRelation (R : Family → Family → Type 0) : Type 0 where
  pub added : (F G : Family) → R F G → R (insert 0 F) (insert 0 G)
  pub joined : (F G F' G' : Family) → R F F' → R G G' → R (union F G) (union F' G')
  pub multiplied : (F G F' G' : Family) → R F F' → R G G' → R (product F G) (product F' G')

-- it holds of both families
pub record BothRelated (R : Family → Family → Type 0) (F G : Families) : Type 0 where
  pub settled : R F.settled G.settled
  pub glitch : R F.glitch G.glitch

module _ (R : Family → Family → Type 0) (keeps : KeepsRelation R) where
  spreads : (F G F' G' : Family) → R F F' → R G G' → R (spread F G) (spread F' G')
  unfolding spread
  spreads F G F' G' p q =
      keeps.added _ _ (keeps.joined _ _ _ _ p (keeps.joined _ _ _ _ q (keeps.multiplied _ _ _ _ p q)))

  both : {e f : ℕ → Families} {a b : ℕ} → ((k : ℕ) → T (member k (a ∷ b ∷ [])) → BothRelated R (e k) (f k)) → BothRelated R (e a) (f a) × BothRelated R (e b) (f b)
  both {a = a} {b = b} h = (h a (member_head a (b ∷ [])), h b (member_tail b a (b ∷ []) (member_head b [])))

  -- each row of the table keeps it
  rows_related : (kind : Kind) (e f : ℕ → Families) (ops : Operands (operand_count kind))
      → ((a : ℕ) → T (member a (listed (operand_count kind) ops)) → BothRelated R (e a) (f a))
      → R (from_operands (operand_count kind) (settled_of kind) e ops) (from_operands (operand_count kind) (settled_of kind) f ops)
      × R (from_operands (operand_count kind) (glitch_of kind) e ops) (from_operands (operand_count kind) (glitch_of kind) f ops)
  unfolding from_operands settled_of glitch_of listed
  rows_related NOT e f (a, ops) h = let p = h a (member_head a []) in (p.settled, keeps.added _ _ p.glitch)
  rows_related XOR e f (a, (b, ops)) h =
      let (p, q) = both h in
      (keeps.multiplied _ _ _ _ p.settled q.settled, spreads _ _ _ _ p.glitch q.glitch)
  rows_related AND e f (a, (b, ops)) h =
      let (p, q) = both h in
      (spreads _ _ _ _ p.settled q.settled, spreads _ _ _ _ p.glitch q.glitch)
  rows_related OR e f (a, (b, ops)) h =
      let (p, q) = both h in
      (spreads _ _ _ _ p.settled q.settled, spreads _ _ _ _ p.glitch q.glitch)
  rows_related register e f (a, ops) h = let p = h a (member_head a []) in (p.settled, p.settled)

  -- and so do the rules, from families of the operands in which it holds
  pub rules_related : (done other : List Families) (cell : Cell) → R (set_of cell ∷ []) (set_of cell ∷ [])
      → ((a : ℕ) → T (member a (operands cell)) → BothRelated R (get_or done a constant) (get_or other a constant))
      → BothRelated R (families_rule done cell) (families_rule other cell)
  unfolding families_rule family_rule operands set_of
  rules_related done other (input s) own h = record { settled = own; glitch = own }
  rules_related done other (gate kind ops) own h =
      let (p, q) = rows_related kind (λ a. get_or done a constant) (λ a. get_or other a constant) ops h in
      record { settled = p; glitch = q }

-- P F says that the family F is right. The rules keep that: an input's is right, and so is what is made of right ones.
pub record KeptByFamilies (n : Netlist) (P : Family → Type 0) : Type 0 where
  pub empty : P (0 ∷ [])
  pub alone : (i : ℕ) → i < length n.nodes → P (set_of (get_or n.nodes i (input 0)) ∷ [])
  pub added : (F : Family) → P F → P (insert 0 F)
  pub joined : (F G : Family) → P F → P G → P (union F G)
  pub multiplied : (F G : Family) → P F → P G → P (product F G)

-- both families of every node are right
pub each_family : (n : Netlist) (P : Family → Type 0) → KeptByFamilies n P → (i : ℕ) → P (families_at n i).settled × P (families_at n i).glitch
unfolding families_at families
each_family n P kept =
    each_entry {X = Unit {0}} (λ x. families_rule) n.nodes (λ x. constant) (input 0) (λ i F. P (F tt).settled × P (F tt).glitch) record {
      stays = λ m i F h p. p;
      defaults = (kept.empty, kept.empty);
      stepped = λ i there before. let both = right i there before in (both.settled, both.glitch);
    }
  where
    -- a relation that looks at the first family alone
    right : (i : ℕ) → i < length n.nodes
        → ((k : ℕ) → P (get_or (take i (families n)) k constant).settled × P (get_or (take i (families n)) k constant).glitch)
        → BothRelated (λ F G. P F) (families_rule (take i (families n)) (get_or n.nodes i (input 0))) (families_rule (take i (families n)) (get_or n.nodes i (input 0)))
    right i there before =
        rules_related (λ F G. P F) record {
          added = λ F G p. kept.added F p;
          joined = λ F G F' G' p q. kept.joined F G p q;
          multiplied = λ F G F' G' p q. kept.multiplied F G p q;
        }
        (take i (families n)) (take i (families n)) (get_or n.nodes i (input 0)) (kept.alone i there)
        (λ a t. record { settled = (before a).0; glitch = (before a).1 })
