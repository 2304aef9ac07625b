-- `choose` meets its contract: the way is one test of the record's kind, by cases on the node that the record is of.
-- Assumes nothing.
use Prim.Native.Nat.{ℕ, ◌≤◌, ◌<◌}
use mathlib.Core.Path.{◌≡◌, refl, ap, ◌∙◌}
use mathlib.Core.Logic.{◌⊎◌, inl, inr}
use mathlib.Core.Bool.{cond}
use mathlib.Core.List.{List, [], ◌∷◌}
use native.Mathlib.Omega.{arith}
use borrow.Author.Tests.{ne_eqb}
use lib.Dec.{eqb}
use lib.ListN.{length}
use Rattle.netlists.specs.Netlists.{Placed}
use Rattle.netlists.proofs.Netlists.{placed_operand}
use Rattle.rules.specs.declared.Node.{Node}
use Rattle.rules.specs.Records.{NOT, XOR, AND, OR, register, listed, Cell, input, gate, kind_of, operands, most_nodes, most_sets}
use Rattle.rules.specs.Families.{Families}
use Rattle.rules.specs.Checks.{most_work}
use Rattle.rules.specs.Slices.{entry}
use Rattle.derivation_rules.specs.Derivations.{Layer, settled, spreading, rules_of, layer_below, picked, claim, Way, way, needed, first_made, chosen}
use Rattle.netlists.specs.declared.Kind.{Kind}
use Rattle.netlists.specs.declared.Kind.TheVariants.{End, Variable, And, Or}
use Rattle.netlists.specs.Kinds.{byte_of}
use Rattle.derivation_steps.specs.Meaning.{InRange}
use Rattle.derivation_steps.proofs.choose.Goals as goal

-- both operands of a record that can stand in a netlist are numbers of nodes; 0 stands for one that the kind has not
in_range : {node : Node} (work : List ℕ) {set : ℕ} → (most_work ≤ length work) × Placed most_nodes node × (set < most_sets)
    → InRange work node.first node.second set
unfolding entry
in_range work (size, p, set) = (size, rw p.is (placed_operand p (omega arith) 0), rw p.is (placed_operand p (omega arith) 1), set)

-- one of these, by the number of a kind
abbrev by_number : {A : Type 0} → (number : ℕ) (own not xor spread kept : A) → A
by_number number own not xor spread kept =
    cond (eqb number 2) own (cond (eqb number 3) not (cond (eqb number 4) xor (cond (eqb number 7) kept spread)))

module _ (Fs : List Families) (ℓ : Layer) (A : ℕ) where
  abbrev of_record : Node → Way
  of_record node =
      by_number node.kind (way 1 []) (chosen Fs ℓ (gate NOT (node.first, tt)) A)
      (chosen Fs ℓ (gate XOR (node.first, (node.second, tt))) A)
      (first_made Fs ℓ (node.first ∷ node.second ∷ []) spreading A) (way 2 (claim node.first settled A ∷ []))

  of_cell : (cell : Cell) → of_record (entry cell) ≡ chosen Fs ℓ cell A
  unfolding kind_of listed operands entry rules_of layer_below picked needed first_made chosen
  of_cell (input s) = refl
  of_cell (gate NOT (a, ops)) = refl
  of_cell (gate XOR (a, (b, ops))) = refl
  of_cell (gate AND (a, (b, ops))) = refl
  of_cell (gate OR (a, (b, ops))) = refl
  of_cell (gate register (a, ops)) = refl

  -- the way of the node of a record, by the record's kind
  from_record : (node : Node) (w : Way) → w ≡ of_record node → (cell : Cell) → node ≡ entry cell → w ≡ chosen Fs ℓ cell A
  from_record node w e cell is = e ∙ ap of_record is ∙ of_cell cell

-- AND, OR, and what is no node's, are tried by all rules
all_rules : {A : Type 0} {kind : Kind} (own not xor spread kept : A) → (kind ≡ And) ⊎ ((kind ≡ Or) ⊎ ((kind ≡ End) ⊎ (kind ≡ Variable)))
    → spread ≡ by_number (byte_of kind) own not xor spread kept
all_rules own not xor spread kept (inl e) = rw e
all_rules own not xor spread kept (inr (inl e)) = rw e
all_rules own not xor spread kept (inr (inr (inl e))) = rw e
all_rules own not xor spread kept (inr (inr (inr e))) = rw e

pub invariant_of-gate : goal.invariant_of-gate
invariant_of-gate c = record { in_range = in_range _ c.requires }

pub way_of_not-requires : goal.way_of_not-requires
way_of_not-requires c = let (size, first, _, set) = in_range _ c.requires in (size, first, set)

pub invariant_of-gate-in-Xor : goal.invariant_of-gate-in-Xor
invariant_of-gate-in-Xor c = record { in_range = in_range _ c.requires }

pub invariant_of-gate-in-And : goal.invariant_of-gate-in-And
invariant_of-gate-in-And c = record { in_range = in_range _ c.requires }

pub returns-in_default : goal.returns-in_default
returns-in_default c =
    let (_, over) = c.in_default.ensures in
    from_record _ _ _ _ _
    (rw (
      ne_eqb c.args.node.kind 2 (λ kind. omega arith),
      ne_eqb c.args.node.kind 3 (λ kind. omega arith),
      ne_eqb c.args.node.kind 4 (λ kind. omega arith),
      ne_eqb c.args.node.kind 7 (λ kind. omega arith),
    ) c.spread.ensures)

pub returns-in-Input : goal.returns-in-Input
returns-in-Input c = from_record _ _ _ _ _ (rw (← c.in-Ok.ensures, c.in-Input.is))

pub returns-in-Not : goal.returns-in-Not
returns-in-Not c = from_record _ _ _ _ _ (rw (← c.in-Ok.ensures, c.in-Not.is) c.way_of_not.ensures)

pub returns-in-Xor : goal.returns-in-Xor
returns-in-Xor c = from_record _ _ _ _ _ (rw (← c.in-Ok.ensures, c.in-Xor.is) c.xor.ensures)

pub returns-in-Register : goal.returns-in-Register
returns-in-Register c = from_record _ _ _ _ _ (rw (← c.in-Ok.ensures, c.in-Register.is))

pub returns-in-And : goal.returns-in-And
returns-in-And c =
    from_record _ _ _ _ _ (rw (← c.in-Ok.ensures) (c.spread-in-And.ensures ∙ all_rules _ _ _ _ _ c.in-And.is))
