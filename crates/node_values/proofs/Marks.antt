-- The marks on the way to the feeding points of a node. As gates hand them on, from the node down,
-- the points that feed some marked node stay those that feed the node, and the marked nodes from i on are points.
-- So in the end the marked nodes are its feeding points. Assumes nothing.
use Prim.Native.Nat.{ℕ, zero, suc, ◌+◌, ◌≤◌, ◌<◌}
use mathlib.Core.Path.{◌≡◌, refl, sym, ap, ◌∙◌}
use mathlib.Core.Logic.{◌⊎◌, inl, inr, ⊎_elim}
use mathlib.Core.Bool.{Bool, true, false}
use mathlib.Core.List.{List, [], ◌∷◌}
use native.Mathlib.Omega.{arith}
use borrow.Author.Tests.{eqb-true, eqb-false}
use lib.Dec.{T, eqb}
use lib.ListN.{length, get_or, set, replicate, length-set, length-replicate}
use lib.Seq.{get_or-set_same, get_or-set_other, ext_get_or}
use Rattle.rules.specs.Lists.{member, tabulate}
use Rattle.rules.specs.Records.{Cell, input, Netlist, WellFormed, operands}
use Rattle.rules.specs.Values.{is_point, feeding}
use Rattle.rule_laws.proofs.Tests.{pass, same_test}
use Rattle.rule_laws.proofs.Lists.{member_head, member_tail, member_cases}
use Rattle.rule_laws.proofs.Members.{All, all_single}
use Rattle.rule_laws.proofs.Packing.{tabulate_length, tabulate_at}
use Rattle.rule_laws.proofs.Bounds.{point_feeding}
use Rattle.rule_laws.proofs.Feeding.{operand_feeds, fed_operand}
use Rattle.node_values.specs.Marks.{mark_all, handed_on}

-- a node is marked
abbrev Marked : List Bool → ℕ → Type 0
Marked marks q = T (get_or marks q false)

same_or_not : (q i : ℕ) → Dec (q ≡ i)
same_or_not q i = go (eqb q i) refl
  where
    go : (b : Bool) → eqb q i ≡ b → Dec (q ≡ i)
    go true e = yes (eqb-true q i e)
    go false e = no (eqb-false q i e)

-- ---- one mark more or less

none_marked : (k q : ℕ) → Marked (replicate k false) q → ⊥
none_marked zero q t = t
none_marked (suc k) zero t = t
none_marked (suc k) (suc q) t = none_marked k q t

set_marked : (marks : List Bool) (a : ℕ) → a < length marks → Marked (set marks a true) a
set_marked marks a h = rw (get_or-set_same marks a true false h) tt

set_kept : (marks : List Bool) (a q : ℕ) → Marked marks q → Marked (set marks a true) q
set_kept [] a q t = t
set_kept (x ∷ marks) zero zero t = tt
set_kept (x ∷ marks) zero (suc q) t = t
set_kept (x ∷ marks) (suc a) zero t = t
set_kept (x ∷ marks) (suc a) (suc q) t = set_kept marks a q t

set_cases : (marks : List Bool) (a q : ℕ) → Marked (set marks a true) q → (q ≡ a) ⊎ Marked marks q
set_cases [] a q t = absurd t
set_cases (x ∷ marks) zero zero t = inl refl
set_cases (x ∷ marks) zero (suc q) t = inr t
set_cases (x ∷ marks) (suc a) zero t = inr t
set_cases (x ∷ marks) (suc a) (suc q) t = ⊎_elim (λ e. inl (ap suc e)) inr (set_cases marks a q t)

-- where the mark of node i is cleared, it has none, and no other node has one that had none
cleared_cases : (marks : List Bool) (i q : ℕ) → Marked (set marks i false) q → (q ≡ i → ⊥) × Marked marks q
cleared_cases [] i q t = absurd t
cleared_cases (x ∷ marks) zero zero t = absurd t
cleared_cases (x ∷ marks) zero (suc q) t = (λ e. omega arith, t)
cleared_cases (x ∷ marks) (suc i) zero t = (λ e. omega arith, t)
cleared_cases (x ∷ marks) (suc i) (suc q) t =
    let (other, m) = cleared_cases marks i q t in (λ e. other (omega arith), m)

-- ---- marks for some nodes

mark_length : (nodes : List ℕ) (marks : List Bool) → length (mark_all nodes marks) ≡ length marks
unfolding mark_all
mark_length [] marks = refl
mark_length (a ∷ nodes) marks = mark_length nodes (set marks a true) ∙ length-set marks a true

mark_kept : (nodes : List ℕ) (marks : List Bool) (q : ℕ) → Marked marks q → Marked (mark_all nodes marks) q
unfolding mark_all
mark_kept [] marks q t = t
mark_kept (a ∷ nodes) marks q t = mark_kept nodes (set marks a true) q (set_kept marks a q t)

mark_new : (nodes : List ℕ) (marks : List Bool) → All (λ a. a < length marks) nodes → All (Marked (mark_all nodes marks)) nodes
unfolding mark_all
mark_new [] marks h q m = absurd (unfold member in m)
mark_new (a ∷ nodes) marks h q m =
    ⊎_elim (λ e. mark_kept nodes (set marks a true) q (rw e (set_marked marks a (h a (member_head a nodes)))))
    (mark_new nodes (set marks a true) (λ b t. rw (length-set marks a true) (h b (member_tail b a nodes t))) q)
    (member_cases q a nodes m)

mark_cases : (nodes : List ℕ) (marks : List Bool) (q : ℕ) → Marked (mark_all nodes marks) q → T (member q nodes) ⊎ Marked marks q
unfolding mark_all
mark_cases [] marks q t = inr t
mark_cases (a ∷ nodes) marks q t =
    ⊎_elim (λ m. inl (member_tail q a nodes m))
    (λ u. ⊎_elim (λ e. inl (rw e (member_head a nodes))) inr (set_cases marks a q u))
    (mark_cases nodes (set marks a true) q t)

-- ---- the marks that node i hands on

-- where it is not marked or is a point, the marks stay; else its own mark goes and its operands' come
data Hands (marks : List Bool) (i : ℕ) (cell : Cell) : Type 0 where
  stays : (Marked marks i → T (is_point cell)) → handed_on marks i cell ≡ marks → Hands marks i cell
  passes : Marked marks i → (T (is_point cell) → ⊥) → handed_on marks i cell ≡ mark_all (operands cell) (set marks i false) → Hands marks i cell

hands : (marks : List Bool) (i : ℕ) (cell : Cell) → Hands marks i cell
unfolding handed_on
hands marks i cell = go (get_or marks i false) refl (is_point cell) refl
  where
    go : (marked : Bool) → get_or marks i false ≡ marked → (point : Bool) → is_point cell ≡ point → Hands marks i cell
    go false e point f = stays (λ t. absurd (rw e at t)) (rw e)
    go true e true f = stays (λ t. pass f) (rw (e, f))
    go true e false f = passes (pass e) (λ t. rw f at t) (rw (e, f))

pub handed_length : (marks : List Bool) (i : ℕ) (cell : Cell) → length (handed_on marks i cell) ≡ length marks
handed_length marks i cell = go (hands marks i cell)
  where
    go : Hands marks i cell → length (handed_on marks i cell) ≡ length marks
    go (stays h e) = ap length e
    go (passes m gate e) = ap length e ∙ mark_length (operands cell) (set marks i false) ∙ length-set marks i false

-- ---- the marks on the way to what feeds a node

module _ (n : Netlist) where
  abbrev node_at : ℕ → Cell
  node_at q = get_or n.nodes q (input 0)

  -- p feeds some marked node
  abbrev FeedsMarked : List Bool → (p : ℕ) → Type 0
  FeedsMarked marks p = (q : ℕ) × Marked marks q × T (member p (feeding n q))

  -- the marks lead to what feeds the node, with i nodes to go
  pub record Leads (node : ℕ) (marks : List Bool) (i : ℕ) : Type 0 where
    pub inside : (q : ℕ) → Marked marks q → q < length n.nodes
    pub from : (p : ℕ) → T (member p (feeding n node)) → FeedsMarked marks p
    pub to : (p : ℕ) → FeedsMarked marks p → T (member p (feeding n node))
    pub points : (q : ℕ) → i ≤ q → Marked marks q → T (is_point (node_at q))

  -- at first the node alone is marked
  pub leads_start : (k node : ℕ) → node < k → node < length n.nodes → Leads node (set (replicate k false) node true) (node + 1)
  leads_start k node h there = record {
    inside = λ q t. rw (only q t) there;
    from = λ p t. (node, set_marked (replicate k false) node (omega (arith, length-replicate k false)), t);
    to = λ p f. let (q, m, t) = f in rw (only q m) at t;
    points = λ q l t. absurd (omega (arith, only q t));
  }
    where
      only : (q : ℕ) → Marked (set (replicate k false) node true) q → q ≡ node
      only q t = ⊎_elim (λ e. e) (λ m. absurd (none_marked k q m)) (set_cases (replicate k false) node q t)

  -- node i hands its mark on
  module _ (formed : WellFormed n) (node : ℕ) (marks : List Bool) (i j : ℕ) (l : j ≤ suc i) (there : i < length n.nodes) (room : i < length marks)
      (leads : Leads node marks j) where
    kept : (Marked marks i → T (is_point (node_at i))) → Leads node marks i
    kept point = record { inside = leads.inside; from = leads.from; to = leads.to; points = λ q h t. at q h t (same_or_not q i) }
      where
        at : (q : ℕ) → i ≤ q → Marked marks q → Dec (q ≡ i) → T (is_point (node_at q))
        at q h t (yes e) = rw e (point (rw e at t))
        at q h t (no d) = leads.points q (omega arith) t

    -- of a gate: the marks without its own, and then with those of its operands
    abbrev cleared : List Bool
    cleared = set marks i false

    abbrev passed : List Bool
    passed = mark_all (operands (node_at i)) cleared

    lower : All (λ a. a < i) (operands (node_at i))
    lower = formed.lower i there

    passed_operand : All (Marked passed) (operands (node_at i))
    passed_operand = mark_new (operands (node_at i)) cleared (λ a t. rw (length-set marks i false) (omega (arith, lower a t)))

    passed_other : (q : ℕ) → (q ≡ i → ⊥) → Marked marks q → Marked passed q
    passed_other q d t = mark_kept (operands (node_at i)) cleared q (rw (get_or-set_other marks i q false false d) t)

    passed_cases : (q : ℕ) → Marked passed q → T (member q (operands (node_at i))) ⊎ ((q ≡ i → ⊥) × Marked marks q)
    passed_cases q t = ⊎_elim inl (λ u. inr (cleared_cases marks i q u)) (mark_cases (operands (node_at i)) cleared q t)

    handed : Marked marks i → (T (is_point (node_at i)) → ⊥) → Leads node passed i
    handed m gate = record {
      inside = λ q t. ⊎_elim (λ a. omega (arith, lower q a)) (λ u. leads.inside q u.1) (passed_cases q t);
      from = λ p t. let (q, u, f) = leads.from p t in through p q u f (same_or_not q i);
      to = λ p f.
          let (q, u, t) = f in
          ⊎_elim (λ a. leads.to p (i, m, operand_feeds n formed i there gate p (q, a, t))) (λ v. leads.to p (q, v.1, t)) (passed_cases q u);
      points = λ q h t. ⊎_elim (λ a. absurd (omega (arith, lower q a))) (λ u. leads.points q (omega (arith, u.0)) u.1) (passed_cases q t);
    }
      where
        through : (p q : ℕ) → Marked marks q → T (member p (feeding n q)) → Dec (q ≡ i) → FeedsMarked passed p
        through p q u t (yes e) =
            let (a, o, f) = fed_operand n formed i there gate p (rw e at t) in (a, passed_operand a o, f)
        through p q u t (no d) = (q, passed_other q d u, t)

    pub leads_next : Leads node (handed_on marks i (node_at i)) i
    leads_next = go (hands marks i (node_at i))
      where
        go : Hands marks i (node_at i) → Leads node (handed_on marks i (node_at i)) i
        go (stays point e) = rw e (kept point)
        go (passes m gate e) = rw e (handed m gate)

  -- with none to go, what is marked is what feeds the node
  pub leads_end : (k node : ℕ) (marks : List Bool) (i : ℕ) → i ≤ 0 → length marks ≡ k → Leads node marks i
      → marks ≡ tabulate (λ p. member p (feeding n node)) k
  leads_end k node marks i none e leads =
      ext_get_or false marks (tabulate test k) (e ∙ sym (tabulate_length test k))
      (λ p l. same_test (get_or marks p false) (test p) (in_feeding p) (marked p) ∙ sym (tabulate_at test k p false (omega arith)))
    where
      test : ℕ → Bool
      test p = member p (feeding n node)

      itself : (q : ℕ) → Marked marks q → feeding n q ≡ q ∷ []
      itself q t = point_feeding n q (leads.inside q t) (leads.points q (omega arith) t)

      in_feeding : (p : ℕ) → Marked marks p → T (test p)
      in_feeding p t = leads.to p (p, t, rw (itself p t) (member_head p []))

      marked : (p : ℕ) → T (test p) → Marked marks p
      marked p t = let (q, m, u) = leads.from p t in all_single (Marked marks) q m p (rw (itself q m) at u)
