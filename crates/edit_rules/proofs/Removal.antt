-- Taking out a node that no node uses leaves every other entry, renumbered: settled values, families, feeding points
-- but for their numbers, and what each node reports; and the netlist obeys the record rules. It is a case of the law of
-- renumbering (`rule_laws`: `Renumbering`): nodes behind the one that is removed are lowered by one, the others are kept.
-- Assumes nothing.
use Prim.Native.Nat.{ℕ, zero, suc, ◌+◌, ◌-◌, ◌≤◌, ◌<◌}
use mathlib.Core.Path.{◌≡◌, refl, sym, ap, ◌∙◌, subst}
use mathlib.Core.Logic.{◌↔◌, ◌⊎◌, inl, inr}
use mathlib.Core.Bool.{Bool, true, false}
use mathlib.Core.List.{List, [], ◌∷◌}
use mathlib.Core.Option.{none}
use native.Mathlib.Decide.{dec_le}
use native.Mathlib.Omega.{arith}
use lib.Dec.{T}
use lib.ListN.{length, get_or, length-map, get_or-map}
use lib.Seq.{ext_get_or}
use borrow.Author.Tests.{lt-ltb, le-ltb}
use Rattle.rules.specs.Lists.{member, without}
use Rattle.rules.specs.Records.{Cell, input, Netlist, WellFormed, operands, renamed}
use Rattle.rules.specs.Values.{Assignment, value_rule, values, feeding}
use Rattle.rules.specs.Families.{Family, Families, constant, families, families_at, layer_marks}
use Rattle.rule_laws.proofs.Members.{All}
use Rattle.rule_laws.proofs.Tables.{table_length}
use Rattle.rule_laws.proofs.Exit.{families_length}
use Rattle.rule_laws.proofs.Marks.{layer_marks_length}
use Rattle.rule_laws.proofs.Renumbering.{Renumbers, PointsFollow, values_renumbered, families_renumbered, feedings_renumbered, marks_renumbered, renumbered_formed}
use Rattle.netlists.proofs.Without.{without_before, without_behind, without_count}
use Rattle.edit_rules.specs.Edits.{lowered, without_node, uses, lowest_user}

-- ---- numbers that follow where node `removed` is

-- another node than the one that is removed
abbrev pub Other : (removed a : ℕ) → Type 0
Other removed a = a ≡ removed → ⊥

module _ (removed : ℕ) where
  pub lowered_low : (a : ℕ) → a ≤ removed → lowered removed a ≡ a
  unfolding lowered
  lowered_low a h = rw (le-ltb removed a h)

  pub lowered_high : (a : ℕ) → removed < a → lowered removed a ≡ a - 1
  unfolding lowered
  lowered_high a h = rw (lt-ltb removed a h)

  -- a number stays, or is one less
  abbrev Lowers : ℕ → Type 0
  Lowers a = ((a ≤ removed) × (lowered removed a ≡ a)) ⊎ ((removed < a) × (lowered removed a + 1 ≡ a))

  lowers : (a : ℕ) → Lowers a
  lowers a = go (dec_le a removed)
    where
      go : Dec (a ≤ removed) → Lowers a
      go (yes h) = inl (h, lowered_low a h)
      go (no h) = inr (omega arith, omega (arith, lowered_high a (omega arith)))

  -- the order is kept, so no two numbers become the same
  pub lowered_order : (a b : ℕ) → Other removed a → (a < b) ↔ (lowered removed a < lowered removed b)
  lowered_order a b o = go (lowers a) (lowers b)
    where
      go : Lowers a → Lowers b → (a < b) ↔ (lowered removed a < lowered removed b)
      go (inl (l, e)) (inl (m, f)) = (λ h. omega arith, λ h. omega arith)
      go (inl (l, e)) (inr (m, f)) = (λ h. omega arith, λ h. omega arith)
      go (inr (l, e)) (inl (m, f)) = (λ h. omega arith, λ h. omega arith)
      go (inr (l, e)) (inr (m, f)) = (λ h. omega arith, λ h. omega arith)

  pub lowered_same : (a b : ℕ) → Other removed a → Other removed b → lowered removed a ≡ lowered removed b → a ≡ b
  lowered_same a b p q e = omega (arith, decide)
    where
      decide : (a < b → ⊥) × (b < a → ⊥)
      decide = (λ h. omega (arith, (lowered_order a b p).0 h), λ h. omega (arith, (lowered_order b a q).0 h))

  pub lowered_most : (a : ℕ) → lowered removed a ≤ a
  lowered_most a = go (lowers a)
    where
      go : Lowers a → lowered removed a ≤ a
      go (inl (l, e)) = omega arith
      go (inr (l, e)) = omega arith

  -- each number is that of another node than the one that is removed
  pub raise : (a : ℕ) → (before : ℕ) × Other removed before × (lowered removed before ≡ a)
  raise a = go (dec_le removed a)
    where
      go : Dec (removed ≤ a) → (before : ℕ) × Other removed before × (lowered removed before ≡ a)
      go (yes h) = (suc a, λ e. omega arith, omega (arith, lowered_high (suc a) (omega arith)))
      go (no h) = (a, λ e. omega arith, lowered_low a (omega arith))

-- ---- a list without an entry

without_length : {A : Type 0} (i : ℕ) (xs : List A) → length (without i xs) ≡ lowered i (length xs)
without_length i xs = go (lowers i (length xs))
  where
    go : Lowers i (length xs) → length (without i xs) ≡ lowered i (length xs)
    go (inl (l, e)) = omega (arith, without_count i xs)
    go (inr (l, e)) = omega (arith, without_count i xs)

without_at : {A : Type 0} (d : A) (i : ℕ) (xs : List A) (a : ℕ) → Other i a → get_or xs a d ≡ get_or (without i xs) (lowered i a) d
without_at d i xs a o = go (lowers i a)
  where
    go : Lowers i a → get_or xs a d ≡ get_or (without i xs) (lowered i a) d
    go (inl (l, e)) = rw e (sym (without_before d i xs a (omega arith)))
    go (inr (l, e)) = let next : a ≡ suc (lowered i a) = omega arith in ap (λ k. get_or xs k d) next ∙ sym (without_behind d i xs (lowered i a) (omega arith))

-- what has every other entry where it follows is that list
is_without : {A : Type 0} (d : A) (removed : ℕ) (old new : List A) → length new ≡ lowered removed (length old)
    → ((a : ℕ) → Other removed a → get_or old a d ≡ get_or new (lowered removed a) d) → new ≡ without removed old
is_without d removed old new many each = ext_get_or d new (without removed old) (many ∙ sym (without_length removed old)) same
  where
    same : (i : ℕ) → i < length new → get_or new i d ≡ get_or (without removed old) i d
    same i h =
        let (before, other, follows) = raise removed i in
        rw (← follows) (sym (each before other) ∙ without_at d removed old before other)

-- ---- a node that is not used

-- no node of the list uses node `removed`
abbrev pub Unused : ℕ → List Cell → Type 0
Unused removed cells = length cells ≤ lowest_user removed cells

module _ (removed : ℕ) where
  unused_front : (cell : Cell) (cells : List Cell) → Unused removed (cell ∷ cells) → (uses removed cell ≡ false) × Unused removed cells
  unfolding lowest_user
  unused_front cell cells h = go (uses removed cell) refl
    where
      go : (b : Bool) → uses removed cell ≡ b → (uses removed cell ≡ false) × Unused removed cells
      go true e = absurd (omega (arith, rw e at h))
      go false e = (e, omega (arith, rw e at h))

  pub unused_at : (cells : List Cell) → Unused removed cells → (i : ℕ) → uses removed (get_or cells i (input 0)) ≡ false
  unfolding uses operands member
  unused_at [] h i = refl
  unused_at (cell ∷ cells) h zero = (unused_front cell cells h).0
  unused_at (cell ∷ cells) h (suc i) = unused_at cells (unused_front cell cells h).1 i

  -- so each operand is another node
  pub others : (cell : Cell) → uses removed cell ≡ false → All (Other removed) (operands cell)
  unfolding uses
  others cell e a t same = subst T (subst (λ (k : ℕ). member k (operands cell) ≡ false) (sym same) e) t

-- ---- a netlist without a node that no node uses

module _ (n : Netlist) (removed : ℕ) where
  pub removed_length : length (without_node n removed).nodes ≡ lowered removed (length n.nodes)
  unfolding without_node
  removed_length = length-map (without removed n.nodes) (renamed (lowered removed)) ∙ without_length removed n.nodes

  -- each other node, renumbered
  pub removed_node : (i : ℕ) → Other removed i
      → get_or (without_node n removed).nodes (lowered removed i) (input 0) ≡ renamed (lowered removed) (get_or n.nodes i (input 0))
  unfolding without_node renamed
  removed_node i o =
      get_or-map (renamed (lowered removed)) (without removed n.nodes) (lowered removed i) (input 0)
      ∙ ap (renamed (lowered removed)) (sym (without_at (input 0) removed n.nodes i o))

  -- a list of an entry a node, every other entry of which stands where its node is, lacks that of the node
  entries_removed : {A : Type 0} (d : A) (old new : List A) → length old ≡ length n.nodes → length new ≡ length (without_node n removed).nodes
      → ((a : ℕ) → Other removed a → get_or old a d ≡ get_or new (lowered removed a) d) → new ≡ without removed old
  entries_removed d old new p q = is_without d removed old new (q ∙ removed_length ∙ ap (lowered removed) (sym p))

  module _ (unused : Unused removed n.nodes) where
    pub renumbers : Renumbers (lowered removed) (Other removed) n.nodes (without_node n removed).nodes
    renumbers = record {
      there = λ a o. rw removed_length (lowered_order removed a (length n.nodes) o);
      cells = removed_node;
      uses = λ a o b t. let other = others removed _ (unused_at removed n.nodes unused a) b t in (other, lowered_order removed b a other);
      apart = lowered_same removed;
    }

    pub families_removed : families (without_node n removed) ≡ without removed (families n)
    families_removed =
        entries_removed constant (families n) _ (families_length n) (families_length (without_node n removed))
        (unfold families_at in (families_renumbered (lowered removed) (Other removed) n (without_node n removed) renumbers))

    pub values_removed : (x : Assignment) → values (without_node n removed) x ≡ without removed (values n x)
    values_removed x =
        entries_removed false (values n x) _ (many n) (many (without_node n removed))
        (values_renumbered (lowered removed) (Other removed) n (without_node n removed) renumbers x)
      where
        many : (n : Netlist) → length (values n x) ≡ length n.nodes
        many n = unfold values in (omega (arith, table_length (value_rule x) [] n.nodes))

    pub feedings_removed : (i : ℕ) → Other removed i
        → PointsFollow (lowered removed) (Other removed) (feeding n i) (feeding (without_node n removed) (lowered removed i))
    feedings_removed = feedings_renumbered (lowered removed) (Other removed) n (without_node n removed) renumbers

    -- in each layer every other node reports what it did
    pub marks_removed : (layer : Families → Family) → layer_marks layer (without_node n removed) ≡ without removed (layer_marks layer n)
    marks_removed layer =
        entries_removed none (layer_marks layer n) _ (layer_marks_length layer n) (layer_marks_length layer (without_node n removed))
        (marks_renumbered (lowered removed) (Other removed) n (without_node n removed) renumbers (unfold without_node in refl) layer)

    pub removed_well_formed : WellFormed n → WellFormed (without_node n removed)
    removed_well_formed formed =
        renumbered_formed (lowered removed) (Other removed) n (without_node n removed) renumbers (unfold without_node in refl) formed
        (omega (arith, formed.few_nodes, removed_length, lowered_most removed (length n.nodes))) (λ i h. inl (raise removed i))
