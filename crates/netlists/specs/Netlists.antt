-- Netlists by value. Cited by this crate's contracts and its callers'. Assumes nothing.
use Rattle.std.specs.Prelude.{ℕ, ◌*◌, ◌-◌, ◌≤◌, ◌<◌, ◌≡◌, List, [], ◌++◌, map, T, length, replicate}
use Rattle.rules.specs.declared.Node.{Node}
use Rattle.rules.specs.Lists.{member}
use Rattle.rules.specs.Records as R
use Rattle.rules.specs.Records.{empty, most_variables, most_nodes, class_byte}
use Rattle.rules.specs.Slices.{node_of, entry}
use Rattle.rules.specs.Checks.{Outcome, answered, refused}
use Rattle.netlists.specs.declared.Netlist.{Netlist}

-- a list of k entries that begins with xs and goes on with `rest`
unfoldable pub padded {ℓ} : {A : Type ℓ} → (k : ℕ) (rest : A) → List A → List A
padded k rest xs = xs ++ replicate (k - length xs) rest

-- no node's record
abbrev pub blank : Node
blank = node_of 0 [] 0

-- a netlist by value: beyond the counts all is 0
unfoldable pub flat_of : R.Netlist → Netlist
flat_of n = record {
  variables = length n.variables;
  count = length n.nodes;
  classes = padded most_variables 0 (map class_byte n.variables);
  nodes = padded most_nodes blank (map entry n.nodes);
}

-- a netlist by value is that of a netlist that obeys the record rules
pub record Formed (value : Netlist) : Type 0 where
  pub netlist : R.Netlist
  pub is : value ≡ flat_of netlist
  pub obeys : R.WellFormed netlist

-- and so many work bytes have room for its nodes
pub record Ready (value : Netlist) (work : ℕ) : Type 0 where
  pub formed : Formed value
  pub room : 256 * value.count ≤ work

-- a netlist by value, whatever it is of, has no more variables and nodes than there may be, and so many
-- work bytes have room for its nodes
pub record Sized (value : Netlist) (work : ℕ) : Type 0 where
  pub variables : value.variables ≤ most_variables
  pub nodes : value.count ≤ most_nodes
  pub room : 256 * value.count ≤ work

-- a node record that can stand at number i: that of a node whose operands are lower and whose set is
-- one of the variables there may be
pub record Placed (i : ℕ) (n : Node) : Type 0 where
  pub cell : R.Cell
  pub is : n ≡ entry cell
  pub lower : (a : ℕ) → T (member a (R.operands cell)) → a < i
  pub small : R.set_of cell < R.most_sets

-- the netlist that is kept of an outcome: the empty one on a refusal
unfoldable pub kept : Outcome R.Netlist → R.Netlist
kept (answered n) = n
kept (refused k p) = empty
