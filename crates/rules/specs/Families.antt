-- Document 01, "Rules for the two families": the families of each node, suspects, and the two halves of the answer.
-- Source document 001 calls the settled family the stable set of labels and the glitch family the transient one.
-- Assumes nothing.
use Rattle.std.specs.Prelude.{ℕ, suc, ◌/◌, Bool, false, not, cond, ◌&&◌, ◌||◌, List, [], ◌∷◌, map, eqb, ltb, length, get_or}
use Rattle.std.proofs.Math.Option.{Option, none, some}
use Rattle.std.specs.Int.Bits.{bit_xor}
use Rattle.rules.specs.Lists.{insert, union}
use Rattle.rules.specs.Tables.{table}
use Rattle.rules.specs.Records.{Class, secret, mask, Netlist, odd, variable_count}
use Rattle.rules.specs.Records.{Kind, NOT, XOR, AND, OR, register, operand_count, Rule, from_operands}
use Rattle.rules.specs.Records.{Cell, input, gate, kind_of}
use Rattle.rules.specs.Values.{same}

-- a family of sets: their numbers, each once
abbrev pub Family : Type 0
Family = List ℕ

-- all sets that are the symmetric difference of one from F and one from G
unfoldable pub product : Family → Family → Family
product [] G = []
product (A ∷ F) G = union (map (bit_xor A) G) (product F G)

-- the empty set, both families, their product
unfoldable pub spread : Family → Family → Family
spread F G = insert 0 (union F (union G (product F G)))

-- the two families of a node
pub record Families : Type 0 where
  pub settled : Family
  pub glitch : Family

-- those of a constant 0, which stands for whatever lies beyond the entries so far
abbrev pub constant : Families
constant = record { settled = 0 ∷ []; glitch = 0 ∷ [] }

-- the table's two columns
unfoldable pub settled_of : (kind : Kind) → Rule Families Family (operand_count kind)
settled_of NOT = λ F. F.settled
settled_of XOR = λ F G. product F.settled G.settled
settled_of AND = λ F G. spread F.settled G.settled
settled_of OR = λ F G. spread F.settled G.settled
settled_of register = λ F. F.settled

unfoldable pub glitch_of : (kind : Kind) → Rule Families Family (operand_count kind)
glitch_of NOT = λ F. insert 0 F.glitch
glitch_of XOR = λ F G. spread F.glitch G.glitch
glitch_of AND = λ F G. spread F.glitch G.glitch
glitch_of OR = λ F G. spread F.glitch G.glitch
glitch_of register = λ F. F.settled

-- a family by such a column: an input's is its own set only
unfoldable pub family_rule : ((kind : Kind) → Rule Families Family (operand_count kind)) → List Families → Cell → Family
family_rule column done (input s) = s ∷ []
family_rule column done (gate kind ops) = from_operands (operand_count kind) (column kind) (λ a. get_or done a constant) ops

abbrev pub settled_rule : List Families → Cell → Family
settled_rule = family_rule settled_of

abbrev pub glitch_rule : List Families → Cell → Family
glitch_rule = family_rule glitch_of

unfoldable pub families_rule : List Families → Cell → Families
families_rule done cell = record { settled = settled_rule done cell; glitch = glitch_rule done cell }

-- the families of all nodes, and of node i
unfoldable pub families : Netlist → List Families
families n = table families_rule [] n.nodes

unfoldable pub families_at : Netlist → ℕ → Families
families_at n i = get_or (families n) i constant

-- ---- suspects

-- whether a set holds a variable of the class
unfoldable pub holds : Class → List Class → (set : ℕ) → Bool
holds class [] s = false
holds class (c ∷ variables) s = odd s && same class c || holds class variables (s / 2)

-- A set is suspect if it holds at least one secret and no mask. (It may correlate with a secret, and no mask hides it.)
unfoldable pub suspect : List Class → (set : ℕ) → Bool
suspect variables s = holds secret variables s && not (holds mask variables s)

-- gates and registers are tested, input nodes (kind 2) are not
unfoldable pub tested : Cell → Bool
tested cell = not (eqb (kind_of cell) 2)

-- The order of report (change request A2): the set with fewer variables comes first, and of two with
-- as many the lower-numbered.
unfoldable pub earlier : (A B : ℕ) → Bool
earlier A B = ltb (variable_count A) (variable_count B) || eqb (variable_count A) (variable_count B) && ltb A B

-- of two suspect sets the one to report: that which comes first
unfoldable pub better : ℕ → Option ℕ → Option ℕ
better A none = some A
better A (some B) = some (cond (earlier B A) B A)

-- the suspect set that a family reports, if it holds one
unfoldable pub reported : List Class → Family → Option ℕ
reported variables [] = none
reported variables (A ∷ F) = let rest = reported variables F in cond (suspect variables A) (better A rest) rest

-- ---- the answer

-- what one half of the answer says: clear, or a suspect node and its set
pub data Finding : Type 0 where
  clear : Finding
  suspect_at : (node set : ℕ) → Finding

-- what a node reports: nothing where it is not tested
unfoldable pub mark : List Class → Cell → Family → Option ℕ
mark variables cell F = cond (tested cell) (reported variables F) none

unfoldable pub marks : List Class → List Cell → List Family → List (Option ℕ)
marks variables [] Fs = []
marks variables (c ∷ cells) [] = []
marks variables (c ∷ cells) (F ∷ Fs) = mark variables c F ∷ marks variables cells Fs

-- the lowest node that reports a set, where the nodes count from i
unfoldable pub lowest : ℕ → List (Option ℕ) → Finding
lowest i [] = clear
lowest i (none ∷ rest) = lowest (suc i) rest
lowest i (some A ∷ rest) = suspect_at i A

-- what all nodes report over one of the two families
unfoldable pub layer_marks : (Families → Family) → Netlist → List (Option ℕ)
layer_marks layer n = marks n.variables n.nodes (map layer (families n))

-- one half of the answer
unfoldable pub half : (Families → Family) → Netlist → Finding
half layer n = lowest 0 (layer_marks layer n)

-- the answer: both halves, and the counts of variables and nodes
pub record Findings : Type 0 where
  pub variables : ℕ
  pub nodes : ℕ
  pub settled : Finding
  pub glitch : Finding

unfoldable pub findings : Netlist → Findings
findings n = record {
  variables = length n.variables;
  nodes = length n.nodes;
  settled = half (λ F. F.settled) n;
  glitch = half (λ F. F.glitch) n;
}
