-- The order of the pairs: it lists each pair of tested nodes exactly once, i below j, by j and then i.
-- What holds of each entry of a list and between any two of its entries is followed through the lists that
-- `pairs` is made of. Assumes nothing.
use Prim.Native.Nat.{ℕ, zero, suc, ◌≤◌, ◌<◌}
use mathlib.Core.Path.{◌≡◌, refl, sym, ap, subst}
use mathlib.Core.Logic.{◌⊎◌, inl, inr, ⊎_elim}
use mathlib.Core.Bool.{Bool, true, false, cond}
use mathlib.Core.List.{List, [], ◌∷◌, ◌++◌, map}
use mathlib.Core.Option.{none, some}
use native.Mathlib.Omega.{arith}
use lib.Dec.{T}
use lib.ListN.{length}
use Rattle.rules.specs.Records.{Netlist}
use Rattle.rules.specs.Demands.{TestedNode}
use Rattle.rule_laws.proofs.Tests.{pass, lt_or_le}
use Rattle.rules.proofs.Each.{Each, each_append}
use Rattle.pair_search.specs.Pairs.{Pair, is_tested, tested_below, row, pairs_below, pairs, at_position}

-- ---- lists in an order

module _ {A : Type 0} where
  each_map : {B : Type 0} (f : A → B) (P : B → Type 0) (xs : List A) → Each (λ x. P (f x)) xs → Each P (map f xs)
  each_map f P [] h = tt
  each_map f P (x ∷ xs) h = (h.0, each_map f P xs h.1)

  pub each_more : (P Q : A → Type 0) (xs : List A) → ((x : A) → P x → Q x) → Each P xs → Each Q xs
  each_more P Q [] f h = tt
  each_more P Q (x ∷ xs) f h = (f x h.0, each_more P Q xs f h.1)

  -- each entry is before all that follow it
  abbrev Ordered : (A → A → Type 0) → List A → Type 0
  Ordered R [] = Unit {0}
  Ordered R (x ∷ xs) = Each (R x) xs × Ordered R xs

  ordered_append : (R : A → A → Type 0) (xs ys : List A) → Ordered R xs → Ordered R ys → Each (λ x. Each (R x) ys) xs → Ordered R (xs ++ ys)
  ordered_append R [] ys p q h = q
  ordered_append R (x ∷ xs) ys p q h = (each_append (R x) xs ys p.0 h.0, ordered_append R xs ys p.1 q h.1)

  -- it is one of the entries
  abbrev Has : A → List A → Type 0
  Has x [] = ⊥
  Has x (y ∷ ys) = (y ≡ x) ⊎ Has x ys

  has_first : (x : A) (xs ys : List A) → Has x xs → Has x (xs ++ ys)
  has_first x [] ys h = absurd h
  has_first x (y ∷ xs) ys (inl e) = inl e
  has_first x (y ∷ xs) ys (inr h) = inr (has_first x xs ys h)

  has_second : (x : A) (xs ys : List A) → Has x ys → Has x (xs ++ ys)
  has_second x [] ys h = h
  has_second x (y ∷ xs) ys h = inr (has_second x xs ys h)

ordered_map : {A B : Type 0} (f : A → B) (R : A → A → Type 0) (S : B → B → Type 0) (xs : List A) → ((x y : A) → R x y → S (f x) (f y))
    → Ordered R xs → Ordered S (map f xs)
ordered_map f R S [] h p = tt
ordered_map f R S (x ∷ xs) h p = (each_map f (S (f x)) xs (each_more (R x) (λ y. S (f x) (f y)) xs (h x) p.0), ordered_map f R S xs h p.1)

has_map : {A B : Type 0} (f : A → B) (x : A) (xs : List A) → Has x xs → Has (f x) (map f xs)
has_map f x [] h = absurd h
has_map f x (y ∷ xs) (inl e) = inl (ap f e)
has_map f x (y ∷ xs) (inr h) = inr (has_map f x xs h)

-- ---- the order of pairs

-- p stands before q: by j, and then by i
abbrev pub Before : Pair → Pair → Type 0
Before p q = (p.j < q.j) ⊎ ((p.j ≡ q.j) × (p.i < q.i))

module _ (n : Netlist) where
  abbrev with_node_lem : (j i : ℕ) → Pair
  with_node_lem j i = record { i = i; j = j }

  -- tested nodes below a bound, in order
  tested_below_lem : (k : ℕ) → Each (λ i. (i < k) × T (is_tested n i)) (tested_below n k)
  unfolding tested_below
  tested_below_lem zero = tt
  tested_below_lem (suc k) =
      each_append (λ i. (i < suc k) × T (is_tested n i)) (tested_below n k) _
      (each_more _ _ (tested_below n k) (λ i h. (omega (arith, h.0), h.1)) (tested_below_lem k)) (last (is_tested n k) refl)
    where
      last : (b : Bool) → is_tested n k ≡ b → Each (λ i. (i < suc k) × T (is_tested n i)) (cond b (k ∷ []) [])
      last true e = ((omega arith, pass e), tt)
      last false e = tt

  nodes_ordered : (k : ℕ) → Ordered (λ i j. i < j) (tested_below n k)
  unfolding tested_below
  nodes_ordered zero = tt
  nodes_ordered (suc k) = ordered_append (λ i j. i < j) (tested_below n k) _ (nodes_ordered k) (single (is_tested n k)) (each_more _ _ (tested_below n k) (λ i h. last i h (is_tested n k)) (tested_below_lem k))
    where
      single : (b : Bool) → Ordered (λ i j. i < j) (cond b (k ∷ []) [])
      single true = (tt, tt)
      single false = tt

      last : (i : ℕ) → (i < k) × T (is_tested n i) → (b : Bool) → Each (λ j. i < j) (cond b (k ∷ []) [])
      last i h true = (h.0, tt)
      last i h false = tt

  -- what a row holds: tested nodes below the bound, with its own node, which is tested
  abbrev InRow : (j bound : ℕ) → Pair → Type 0
  InRow j bound p = (p.j ≡ j) × (p.i < bound) × T (is_tested n p.i) × T (is_tested n j)

  in_row : (j bound : ℕ) → Each (InRow j bound) (row n j bound)
  unfolding row
  in_row j bound = go (is_tested n j) refl
    where
      go : (b : Bool) → is_tested n j ≡ b → Each (InRow j bound) (cond b (map (with_node_lem j) (tested_below n bound)) [])
      go true e =
          each_map (with_node_lem j) (InRow j bound) (tested_below n bound)
          (each_more _ _ (tested_below n bound) (λ i h. (refl, h.0, h.1, pass e)) (tested_below_lem bound))
      go false e = tt

  row_ordered : (j bound : ℕ) → Ordered Before (row n j bound)
  unfolding row
  row_ordered j bound = go (is_tested n j)
    where
      go : (b : Bool) → Ordered Before (cond b (map (with_node_lem j) (tested_below n bound)) [])
      go true = ordered_map (with_node_lem j) (λ i k. i < k) Before (tested_below n bound) (λ i k h. inr (refl, h)) (nodes_ordered bound)
      go false = tt

  -- what all pairs hold: two tested nodes, i below j
  abbrev TwoTested : (k : ℕ) → Pair → Type 0
  TwoTested k p = (p.i < p.j) × (p.j < k) × T (is_tested n p.i) × T (is_tested n p.j)

  two_tested : (k : ℕ) → Each (TwoTested k) (pairs_below n k)
  unfolding pairs_below
  two_tested zero = tt
  two_tested (suc k) =
      each_append (TwoTested (suc k)) (pairs_below n k) (row n k k)
      (each_more _ _ (pairs_below n k) (λ p h. (h.0, omega (arith, h.1), h.2, h.3)) (two_tested k))
      (each_more _ _ (row n k k)
      (λ p h. (omega (arith, h.0, h.1), omega (arith, h.0), h.2, subst (λ (j : ℕ). T (is_tested n j)) (sym h.0) h.3)) (in_row k k))

  below_ordered : (k : ℕ) → Ordered Before (pairs_below n k)
  unfolding pairs_below
  below_ordered zero = tt
  below_ordered (suc k) =
      ordered_append Before (pairs_below n k) (row n k k) (below_ordered k) (row_ordered k k)
      (each_more _ _ (pairs_below n k) (λ p h. each_more _ _ (row n k k) (λ q l. inl (omega (arith, h.1, l.0))) (in_row k k)) (two_tested k))

  -- and every such pair is there
  node_listed : (k i : ℕ) → i < k → T (is_tested n i) → Has i (tested_below n k)
  unfolding tested_below
  node_listed zero i h t = absurd (omega arith)
  node_listed (suc k) i h t = ⊎_elim (λ l. has_first i (tested_below n k) _ (node_listed k i l t)) (λ l. has_second i (tested_below n k) _ (last (is_tested n k) refl l)) (lt_or_le i k)
    where
      last : (b : Bool) → is_tested n k ≡ b → k ≤ i → Has i (cond b (k ∷ []) [])
      last true e l = inl (omega arith)
      last false e l = let same : i ≡ k = omega arith in absurd (rw (same, e) at t)

  row_listed : (j bound i : ℕ) → i < bound → T (is_tested n i) → T (is_tested n j) → Has (with_node_lem j i) (row n j bound)
  unfolding row
  row_listed j bound i h t u = go (is_tested n j) u
    where
      go : (b : Bool) → T b → Has (with_node_lem j i) (cond b (map (with_node_lem j) (tested_below n bound)) [])
      go true e = has_map (with_node_lem j) i (tested_below n bound) (node_listed bound i h t)
      go false e = absurd e

  pair_listed : (k j i : ℕ) → i < j → j < k → T (is_tested n i) → T (is_tested n j) → Has (with_node_lem j i) (pairs_below n k)
  unfolding pairs_below
  pair_listed zero j i h l t u = absurd (omega arith)
  pair_listed (suc k) j i h l t u =
      ⊎_elim (λ m. has_first (with_node_lem j i) (pairs_below n k) (row n k k) (pair_listed k j i h m t u))
      (λ m.
      let same : k ≡ j = omega arith in
      has_second (with_node_lem j i) (pairs_below n k) (row n k k) (rw same (row_listed j j i h t u)))
      (lt_or_le j k)

-- ---- positions

at_each : (P : Pair → Type 0) (ps : List Pair) (k : ℕ) (p : Pair) → Each P ps → at_position ps k ≡ some p → P p
unfolding at_position
at_each P [] k p h e = absurd cc
at_each P (q ∷ ps) zero p h e = absurd cc
at_each P (q ∷ ps) (suc zero) p h e = let same : q ≡ p = cc in subst P same h.0
at_each P (q ∷ ps) (suc (suc k)) p h e = at_each P ps (suc k) p h.1 e

at_ordered : (ps : List Pair) (k l : ℕ) (p q : Pair) → Ordered Before ps → k < l → at_position ps k ≡ some p → at_position ps l ≡ some q → Before p q
unfolding at_position
at_ordered [] k l p q o h e f = absurd cc
at_ordered (r ∷ ps) zero l p q o h e f = absurd cc
at_ordered (r ∷ ps) (suc k) zero p q o h e f = absurd (omega arith)
at_ordered (r ∷ ps) (suc k) (suc zero) p q o h e f = absurd (omega arith)
at_ordered (r ∷ ps) (suc zero) (suc (suc l)) p q o h e f = let same : r ≡ p = cc in subst (λ (x : Pair). Before x q) same (at_each (Before r) ps (suc l) q o.0 f)
at_ordered (r ∷ ps) (suc (suc k)) (suc (suc l)) p q o h e f = at_ordered ps (suc k) (suc l) p q o.1 (omega arith) e f

pub none_first : (ps : List Pair) → at_position ps 0 ≡ none
unfolding at_position
none_first [] = refl
none_first (p ∷ ps) = refl

has_position : (p : Pair) (ps : List Pair) → Has p ps → (k : ℕ) × (at_position ps k ≡ some p)
unfolding at_position
has_position p [] h = absurd h
has_position p (q ∷ ps) (inl e) = (1, ap some e)
has_position p (q ∷ ps) (inr h) = let (k, e) = has_position p ps h in further k e
  where
    further : (k : ℕ) → at_position ps k ≡ some p → (l : ℕ) × (at_position (q ∷ ps) l ≡ some p)
    further zero e = absurd (cc (none_first ps))
    further (suc k) e = (suc (suc k), e)

-- ---- what the order lists

module _ (n : Netlist) where
  -- nodes that are there
  pub pairs_there : Each (λ p. (p.i < length n.nodes) × (p.j < length n.nodes)) (pairs n)
  unfolding pairs
  pairs_there = each_more _ _ (pairs n) (λ p h. (omega (arith, h.0, h.1), h.1)) (two_tested n (length n.nodes))

  -- at each position two tested nodes, i below j
  pub lists_tested : (k : ℕ) (p : Pair) → at_position (pairs n) k ≡ some p → TestedNode n p.i × TestedNode n p.j × (p.i < p.j)
  unfolding pairs is_tested
  lists_tested k p e =
      let (below, within, first, second) = at_each (TwoTested n (length n.nodes)) (pairs n) k p (two_tested n (length n.nodes)) e in
      (record { there = omega arith; is_tested = first }, record { there = within; is_tested = second }, below)

  -- every such pair, at some position
  pub lists_all : (i j : ℕ) → TestedNode n i → TestedNode n j → i < j → (k : ℕ) × (at_position (pairs n) k ≡ some (record { i = i; j = j }))
  unfolding pairs is_tested
  lists_all i j t u h = has_position _ (pairs n) (pair_listed n (length n.nodes) j i h u.there t.is_tested u.is_tested)

  -- by j and then i
  pub lists_in_order : (k l : ℕ) (p q : Pair) → at_position (pairs n) k ≡ some p → at_position (pairs n) l ≡ some q → k < l → Before p q
  unfolding pairs
  lists_in_order k l p q e f h = at_ordered (pairs n) k l p q (below_ordered n (length n.nodes)) h e f

  -- and so each once
  pub lists_once : (k l : ℕ) (p : Pair) → at_position (pairs n) k ≡ some p → at_position (pairs n) l ≡ some p → k ≡ l
  lists_once k l p e f =
      ⊎_elim (λ h. absurd (itself (lists_in_order k l p p e f h)))
      (λ h. ⊎_elim (λ m. absurd (itself (lists_in_order l k p p f e m))) (λ m. omega arith) (lt_or_le l k)) (lt_or_le k l)
    where
      itself : Before p p → ⊥
      itself (inl h) = omega arith
      itself (inr h) = omega (arith, h.1)
