-- A node record by its kind: its operand fields are numbers of lower nodes, and what the rules make of the families of
-- those, by cases on the node that the record is of. Assumes nothing.
use Prim.Native.Nat.{ℕ, ◌+◌, ◌*◌, ◌<◌, ◌≤◌}
use mathlib.Core.Path.{◌≡◌, refl, sym, ap, ◌∙◌, subst}
use mathlib.Core.Logic.{◌⊎◌, inl, inr}
use mathlib.Core.List.{List, [], ◌∷◌}
use native.Mathlib.Omega.{arith}
use lib.Dec.{T}
use lib.ListN.{get_or}
use Rattle.rules.specs.declared.Node.{Node}
use Rattle.rules.specs.Lists.{member, insert}
use Rattle.rules.specs.Records as Records
use Rattle.rules.specs.Records.{NOT, XOR, AND, OR, register, operand_count, listed, Rule, from_operands, Cell, input, gate, kind_of, operands, set_of, most_sets, most_body, last_kind}
use Rattle.rules.specs.Families.{Family, Families, constant, settled_of, glitch_of, family_rule, settled_rule, glitch_rule}
use Rattle.rules.specs.Slices.{entry}
use Rattle.rule_laws.proofs.Members.{all_at, entry_member}
use Rattle.rule_laws.proofs.Operands.{listed_length, from_same, known}
use Rattle.netlists.specs.declared.Kind.{Kind}
use Rattle.netlists.specs.declared.Kind.TheVariants.{End, Variable, Input, Not, Xor, And, Or, Register}
use Rattle.netlists.specs.Kinds.{byte_of}
use Rattle.netlists.specs.Netlists.{Placed}
use Rattle.netlists.proofs.Bytes.{one_kind}
use Rattle.netlists.proofs.Netlists.{padded_same, fields, fields_padded, entry_one}
use Rattle.families.specs.Parts.{family_at}
use Rattle.nodes.specs.Work.{gate_by, families_in, so_far}
use Rattle.nodes.proofs.Nodes.{so_far_at}

-- the number of a node's kind
node_most : (cell : Cell) → (2 ≤ kind_of cell) × (kind_of cell ≤ last_kind)
unfolding kind_of
node_most (input s) = (omega arith, omega arith)
node_most (gate kind ops) = (omega (arith, (known kind).above), (known kind).below)

-- ---- the fields that are operands

-- each is a lower node; where the kind has none the field is 0, which is lower too, since every kind but an input
-- has an operand
fields_lower : (i : ℕ) (cell : Cell) → 3 ≤ kind_of cell → ((a : ℕ) → T (member a (operands cell)) → a < i) → (j : ℕ) → get_or (operands cell) j 0 < i
unfolding kind_of operands
fields_lower i (input s) above lower j = absurd (omega arith)
fields_lower i (gate kind ops) above lower j = all_at (λ a. a < i) l 0 lower some j
  where
    l : List ℕ
    l = listed (operand_count kind) ops

    some : 0 < i
    some = omega (arith, lower (get_or l 0 0) (entry_member l 0 0 (omega (arith, listed_length (operand_count kind) ops, (known kind).some))))

-- a kind whose number is above an input's
pub above : {kind own : Kind} {k : ℕ} → byte_of kind ≡ k → 3 ≤ byte_of own → kind ≡ own → 3 ≤ k
above read h is = omega (arith, read, ap byte_of is)

pub above_two : {kind : Kind} {k : ℕ} → byte_of kind ≡ k → (kind ≡ Xor) ⊎ (kind ≡ And) ⊎ (kind ≡ Or) → 3 ≤ k
above_two read (inl is) = above read (omega arith) is
above_two read (inr (inl is)) = above read (omega arith) is
above_two read (inr (inr is)) = above read (omega arith) is

-- a kind that is the end's or a variable's is no node's
pub no_node : {kind : Kind} → (kind ≡ End) ⊎ (kind ≡ Variable) → 2 ≤ byte_of kind → ⊥
no_node (inl is) node = let none : 2 ≤ byte_of End = rw is at node in omega arith
no_node (inr is) node = let none : 2 ≤ byte_of Variable = rw is at node in omega arith

module _ {i : ℕ} {node : Node} (p : Placed i node) where
  pub placed_kind : (2 ≤ node.kind) × (node.kind ≤ last_kind)
  unfolding entry
  placed_kind = rw p.is (node_most p.cell)

  pub placed_set : node.set < most_sets
  unfolding entry
  placed_set = rw p.is p.small

  pub placed_operands : 3 ≤ node.kind → (j : ℕ) → get_or (fields node) j 0 < i
  unfolding entry
  placed_operands above j =
      let same : get_or (fields node) j 0 ≡ get_or (operands p.cell) j 0 =
      ap (λ (n : Node). get_or (fields n) j 0) p.is ∙ ap (λ (l : List ℕ). get_or l j 0) (fields_padded p.cell) ∙ padded_same most_body 0 (operands p.cell) j in
      rw same (fields_lower i p.cell (rw p.is at above) p.lower j)

-- ---- the rules, by the record's kind

-- the kind of a node
kind_meant : Cell → Kind
kind_meant (input s) = Input
kind_meant (gate NOT ops) = Not
kind_meant (gate XOR ops) = Xor
kind_meant (gate AND ops) = And
kind_meant (gate OR ops) = Or
kind_meant (gate register ops) = Register

meant_byte : (cell : Cell) → byte_of (kind_meant cell) ≡ kind_of cell
unfolding kind_meant kind_of
meant_byte (input s) = refl
meant_byte (gate NOT ops) = refl
meant_byte (gate XOR ops) = refl
meant_byte (gate AND ops) = refl
meant_byte (gate OR ops) = refl
meant_byte (gate register ops) = refl

-- The settled family, from the settled families of its operands, which `F` gives, and the glitch one, from these and
-- the glitch ones, `G`. No node has the first two kinds.
abbrev pub settled_by : Kind → Node → (F : ℕ → Family) → Family
settled_by End n F = []
settled_by Variable n F = []
settled_by Input n F = n.set ∷ []
settled_by Not n F = F n.first
settled_by Xor n F = gate_by Xor (F n.first) (F n.second)
settled_by And n F = gate_by And (F n.first) (F n.second)
settled_by Or n F = gate_by Or (F n.first) (F n.second)
settled_by Register n F = F n.first

abbrev pub glitch_by : Kind → Node → (F G : ℕ → Family) → Family
glitch_by End n F G = []
glitch_by Variable n F G = []
glitch_by Input n F G = n.set ∷ []
glitch_by Not n F G = insert 0 (G n.first)
glitch_by Xor n F G = gate_by And (G n.first) (G n.second)
glitch_by And n F G = gate_by And (G n.first) (G n.second)
glitch_by Or n F G = gate_by And (G n.first) (G n.second)
glitch_by Register n F G = F n.first

module _ {kind : Kind} (n : Node) (F : ℕ → Family) where
  pub settled_one : (kind ≡ Not) ⊎ (kind ≡ Register) → settled_by kind n F ≡ F n.first
  settled_one (inl is) = rw is refl
  settled_one (inr is) = rw is refl

  pub settled_two : (kind ≡ Xor) ⊎ (kind ≡ And) ⊎ (kind ≡ Or) → settled_by kind n F ≡ gate_by kind (F n.first) (F n.second)
  settled_two (inl is) = rw is refl
  settled_two (inr (inl is)) = rw is refl
  settled_two (inr (inr is)) = rw is refl

  pub glitch_two : (G : ℕ → Family) → (kind ≡ Xor) ⊎ (kind ≡ And) ⊎ (kind ≡ Or) → glitch_by kind n F G ≡ gate_by And (G n.first) (G n.second)
  glitch_two G (inl is) = rw is refl
  glitch_two G (inr (inl is)) = rw is refl
  glitch_two G (inr (inr is)) = rw is refl

abbrev pub settled_in : List ℕ → (node : ℕ) → Family
settled_in bytes a = family_at bytes (2 * a)

abbrev pub glitch_in : List ℕ → (node : ℕ) → Family
glitch_in bytes a = family_at bytes (2 * a + 1)

module _ (bytes : List ℕ) where
  -- by a column of the table, from the families in the bytes
  abbrev rule_in : ((kind : Records.Kind) → Rule Families Family (operand_count kind)) → Cell → Family
  rule_in column (input s) = s ∷ []
  rule_in column (gate kind ops) = from_operands (operand_count kind) (column kind) (families_in bytes) ops

  rule_in_lem : (column : (kind : Records.Kind) → Rule Families Family (operand_count kind)) (i : ℕ) (cell : Cell)
      → ((a : ℕ) → T (member a (operands cell)) → a < i) → family_rule column (so_far bytes i) cell ≡ rule_in column cell
  unfolding family_rule operands
  rule_in_lem column i (input s) lower = refl
  rule_in_lem column i (gate kind ops) lower =
      from_same (operand_count kind) (column kind) (λ a. get_or (so_far bytes i) a constant) (families_in bytes) ops (λ a t. so_far_at bytes i a (lower a t))

  settled_lem : (cell : Cell) → rule_in settled_of cell ≡ settled_by (kind_meant cell) (entry cell) (settled_in bytes)
  unfolding settled_of from_operands kind_meant entry operands listed set_of
  settled_lem (input s) = refl
  settled_lem (gate NOT (a, ops)) = refl
  settled_lem (gate XOR (a, (b, ops))) = refl
  settled_lem (gate AND (a, (b, ops))) = refl
  settled_lem (gate OR (a, (b, ops))) = refl
  settled_lem (gate register (a, ops)) = refl

  glitch_lem : (cell : Cell) → rule_in glitch_of cell ≡ glitch_by (kind_meant cell) (entry cell) (settled_in bytes) (glitch_in bytes)
  unfolding glitch_of from_operands kind_meant entry operands listed set_of
  glitch_lem (input s) = refl
  glitch_lem (gate NOT (a, ops)) = refl
  glitch_lem (gate XOR (a, (b, ops))) = refl
  glitch_lem (gate AND (a, (b, ops))) = refl
  glitch_lem (gate OR (a, (b, ops))) = refl
  glitch_lem (gate register (a, ops)) = refl

-- of a node that can stand at its number, whose kind is read off its record
module _ (bytes : List ℕ) {i : ℕ} {node : Node} (p : Placed i node) (kind : Kind) (read : byte_of kind ≡ node.kind) (cell : Cell) (e : node ≡ entry cell) where
  lower : (a : ℕ) → T (member a (operands cell)) → a < i
  lower = subst (λ (c : Cell). (a : ℕ) → T (member a (operands c)) → a < i) (entry_one p.cell cell (sym p.is ∙ e)) p.lower

  meant : kind_meant cell ≡ kind
  unfolding entry
  meant = one_kind (kind_meant cell) kind (meant_byte cell ∙ sym (read ∙ ap (λ (n : Node). n.kind) e))

  pub settled_is : settled_rule (so_far bytes i) cell ≡ settled_by kind node (settled_in bytes)
  settled_is = rule_in_lem bytes settled_of i cell lower ∙ settled_lem bytes cell ∙ rw (meant, e) refl

  pub glitch_is : glitch_rule (so_far bytes i) cell ≡ glitch_by kind node (settled_in bytes) (glitch_in bytes)
  glitch_is = rule_in_lem bytes glitch_of i cell lower ∙ glitch_lem bytes cell ∙ rw (meant, e) refl
