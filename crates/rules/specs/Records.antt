-- Document 01, "Netlist records": variables, nodes, and what the bytes of one record say.
-- Which records are refused is in `Checks`. Assumes nothing.
use Rattle.std.specs.Prelude.{ℕ, zero, suc, ◌+◌, ◌*◌, ◌/◌, ◌%◌, ◌^◌, ◌≤◌, ◌<◌, Bool, List, [], ◌∷◌, ◌++◌, map, T, eqb, length, get_or}
use Rattle.rules.specs.Lists.{digit, member, greatest, count}

-- the class of a variable
pub data Class : Type 0 where
  secret mask public : Class

-- ---- kinds and operands

-- the kinds of node that have operands: the gates, and the register
pub data Kind : Type 0 where
  NOT XOR AND OR register : Kind

-- the kinds from 3 on, as the table has them;
abbrev pub kinds : List Kind
kinds = NOT ∷ XOR ∷ AND ∷ OR ∷ register ∷ []

-- the number of each, and how many operands it has
abbrev pub row_of : Kind → ℕ × ℕ
row_of NOT = (3, 1)
row_of XOR = (4, 2)
row_of AND = (5, 2)
row_of OR = (6, 2)
row_of register = (7, 1)

abbrev pub kind_number : Kind → ℕ
kind_number kind = (row_of kind).0

abbrev pub operand_count : Kind → ℕ
operand_count kind = (row_of kind).1

-- so many operands, one beside the other
abbrev pub Operands : ℕ → Type 0
Operands zero = Unit {0}
Operands (suc k) = ℕ × Operands k

-- they as a list; the first k of a list, which goes on with 0; and each renamed
unfoldable pub listed : (k : ℕ) → Operands k → List ℕ
listed zero ops = []
listed (suc k) (a, ops) = a ∷ listed k ops

unfoldable pub first_of : (k : ℕ) → List ℕ → Operands k
first_of zero l = tt
first_of (suc k) [] = (0, first_of k [])
first_of (suc k) (a ∷ l) = (a, first_of k l)

unfoldable pub renamed_all : (ℕ → ℕ) → (k : ℕ) → Operands k → Operands k
renamed_all f zero ops = tt
renamed_all f (suc k) (a, ops) = (f a, renamed_all f k ops)

-- a rule that makes a B of so many A, and what it makes of the operands' entries
abbrev pub Rule : Type 0 → Type 0 → ℕ → Type 0
Rule A B zero = B
Rule A B (suc k) = A → Rule A B k

unfoldable pub from_operands : {A B : Type 0} (k : ℕ) → Rule A B k → (entry_of : ℕ → A) → Operands k → B
from_operands zero rule entry_of ops = rule
from_operands (suc k) rule entry_of (a, ops) = from_operands k (rule (entry_of a)) entry_of ops

-- A node. An input has its set of variables; the others have a kind and its operands, numbers of lower nodes.
pub data Cell : Type 0 where
  input : (set : ℕ) → Cell
  gate : (kind : Kind) → Operands (operand_count kind) → Cell

-- a node's kind
unfoldable pub kind_of : Cell → ℕ
kind_of (input s) = 2
kind_of (gate kind ops) = kind_number kind

-- the operands of a node
unfoldable pub operands : Cell → List ℕ
operands (input s) = []
operands (gate kind ops) = listed (operand_count kind) ops

-- an input's set, and the empty set for every other kind
unfoldable pub set_of : Cell → ℕ
set_of (input s) = s
set_of (gate kind ops) = 0

-- a node whose operands have other numbers
unfoldable pub renamed : (ℕ → ℕ) → Cell → Cell
renamed f (input s) = input s
renamed f (gate kind ops) = gate kind (renamed_all f (operand_count kind) ops)

-- ---- records and netlists

-- what one record says
pub data Record : Type 0 where
  end : Record
  variable : Class → Record
  node : Cell → Record

-- A netlist: its variables and its nodes, each numbered from 0 in file order.
pub record Netlist : Type 0 where
  pub variables : List Class
  pub nodes : List Cell

-- the netlist of no records; a variable goes behind those before it, and so does a node
abbrev pub empty : Netlist
empty = record { variables = []; nodes = [] }

abbrev pub with_variable : Netlist → Class → Netlist
with_variable n c = record { variables = n.variables ++ (c ∷ []); nodes = n.nodes }

abbrev pub with_node : Netlist → Cell → Netlist
with_node n c = record { variables = n.variables; nodes = n.nodes ++ (c ∷ []) }

-- the limits: at most 10 variables and 200 nodes
abbrev pub most_variables : ℕ
most_variables = 10

abbrev pub most_nodes : ℕ
most_nodes = 200

-- how many sets so many variables have
abbrev pub most_sets : ℕ
most_sets = 2 ^ most_variables

-- the highest kind, the most bytes that a record's body and a record have, and the most that a whole file has
abbrev pub last_kind : ℕ
last_kind = 2 + length kinds

abbrev pub most_body : ℕ
most_body = greatest (2 ∷ map operand_count kinds)

abbrev pub most_record : ℕ
most_record = 1 + most_body

abbrev pub most_bytes : ℕ
most_bytes = 2 * most_variables + most_record * most_nodes + 1

-- class: 0 secret, 1 mask, 2 public
unfoldable pub class_of : ℕ → Class
class_of b = get_or (secret ∷ mask ∷ public ∷ []) b public

-- The record of kind k whose body the bytes begin with; a kind above the last says nothing, and is refused.
unfoldable pub said : (k : ℕ) (body : List ℕ) → Record
said k body =
    get_or
    (end
    ∷ variable (class_of (get_or body 0 0))
    ∷ node (input (get_or body 0 0 + 256 * get_or body 1 0))
    ∷ map (λ kind. node (gate kind (first_of (operand_count kind) body))) kinds)
    k
    end

-- the body of a node's record: an input's set in 2 bytes, low first; else its operands
unfoldable pub body : Cell → List ℕ
body (input s) = s % 256 ∷ s / 256 ∷ []
body (gate kind ops) = listed (operand_count kind) ops

unfoldable pub class_byte : Class → ℕ
class_byte secret = 0
class_byte mask = 1
class_byte public = 2

-- a record is one byte of kind, then a body whose length the kind fixes
unfoldable pub record_bytes : Record → List ℕ
record_bytes end = 0 ∷ []
record_bytes (variable c) = 1 ∷ class_byte c ∷ []
record_bytes (node cell) = kind_of cell ∷ body cell

unfoldable pub size : Record → ℕ
size r = length (record_bytes r)

-- a netlist written out: the records of its variables, those of its nodes, and the end
unfoldable pub variables_out : List Class → List ℕ
variables_out [] = []
variables_out (c ∷ variables) = record_bytes (variable c) ++ variables_out variables

unfoldable pub nodes_out : List Cell → List ℕ
nodes_out [] = []
nodes_out (cell ∷ nodes) = record_bytes (node cell) ++ nodes_out nodes

unfoldable pub written_out : Netlist → List ℕ
written_out n = variables_out n.variables ++ nodes_out n.nodes ++ record_bytes end

-- a netlist obeys the record rules
pub record WellFormed (n : Netlist) : Type 0 where
  pub few_variables : length n.variables ≤ most_variables
  pub few_nodes : length n.nodes ≤ most_nodes
  -- each operand is a lower node
  pub lower : (i : ℕ) → i < length n.nodes → (a : ℕ) → T (member a (operands (get_or n.nodes i (input 0)))) → a < i
  -- each input's set has declared variables only
  pub declared : (i : ℕ) → i < length n.nodes → set_of (get_or n.nodes i (input 0)) < 2 ^ length n.variables

-- A set's number is the sum of 2 to the power v over its variables v. So its lowest bit tells whether it holds variable
-- 0, and half of it is the set of the other variables, each counted one lower.
abbrev pub odd : ℕ → Bool
odd n = eqb (n % 2) 1

-- which of k variables the set with this number holds, from variable 0 on
unfoldable pub bits : (k number : ℕ) → List Bool
bits zero s = []
bits (suc k) s = odd s ∷ bits k (s / 2)

-- the number of variables of a set: how many of the ten it holds, of whatever class they are
unfoldable pub variable_count : (set : ℕ) → ℕ
variable_count s = count (λ b. b) (bits most_variables s)

-- the number of the set that holds the variables marked so
unfoldable pub number : List Bool → ℕ
number [] = 0
number (b ∷ bs) = digit b + 2 * number bs
