-- Document 01, "Where each check is made": the refusals, with number and place, in the order of its table,
-- and with them what a whole file says. Assumes nothing.
use Rattle.std.specs.Prelude.{ℕ, zero, suc, ◌+◌, ◌*◌, ◌^◌, Bool, true, false, ◌&&◌, ◌||◌, List, [], ◌∷◌, leb, ltb, length, get_or, drop}
use Rattle.rules.specs.Records.{Record, end, variable, node, Netlist, empty, with_variable, with_node}
use Rattle.rules.specs.Records.{most_variables, most_nodes, last_kind, said, size, operands, set_of}

-- something asked of the checker has an answer, or is refused with number and place
pub data Outcome {ℓ} (A : Type ℓ) : Type ℓ where
  answered : A → Outcome A
  refused : (number place : ℕ) → Outcome A

-- what an answer leads to; a refusal stays
unfoldable pub and_then {ℓ κ} : {A : Type ℓ} {B : Type κ} → Outcome A → (A → Outcome B) → Outcome B
and_then (answered a) f = f a
and_then (refused k p) f = refused k p

-- a row of the table: number, condition, place
pub data Check : Type 0 where
  check : (number : ℕ) (condition : Bool) (place : ℕ) → Check

-- the first row whose condition holds refuses; where none does, the answer stands
unfoldable pub judged {ℓ} : {A : Type ℓ} → List Check → A → Outcome A
judged [] a = answered a
judged (check k true p ∷ checks) a = refused k p
judged (check k false p ∷ checks) a = judged checks a

-- ---- one record

abbrev pub is_variable : Record → Bool
is_variable end = false
is_variable (variable c) = true
is_variable (node n) = false

abbrev pub is_end : Record → Bool
is_end end = true
is_end (variable c) = false
is_end (node n) = false

-- no room for the record: it is the eleventh variable or the 201st node
unfoldable pub over_limit : (variables nodes : ℕ) → Record → Bool
over_limit v n end = false
over_limit v n (variable c) = leb most_variables v
over_limit v n (node c) = leb most_nodes n

-- a number has a bit of a variable that is not declared: with v variables the numbers of their sets
-- are those below 2 to the power v
unfoldable pub undeclared : (variables number : ℕ) → Bool
undeclared v s = leb (2 ^ v) s

unfoldable pub undeclared_set : (variables : ℕ) → Record → Bool
undeclared_set v end = false
undeclared_set v (variable c) = false
undeclared_set v (node cell) = undeclared v (set_of cell)

-- some operand is not below the node's own number
unfoldable pub not_below : (own : ℕ) → List ℕ → Bool
not_below own [] = false
not_below own (a ∷ rest) = leb own a || not_below own rest

unfoldable pub bad_operand : (nodes : ℕ) → Record → Bool
bad_operand n end = false
bad_operand n (variable c) = false
bad_operand n (node cell) = not_below n (operands cell)

-- The record of kind k with this body whose kind byte stands at `here`, in a file of `total` bytes, after `v`
-- variables and `n` nodes. Row 8 stands first: where the bytes have run out there is no kind byte to judge.
unfoldable pub judged_record : (total v n here k : ℕ) (body : List ℕ) → Outcome Record
judged_record total v n here k body =
    let r = said k body in
    judged
    (check 8 (leb total here) total
    ∷ check 1 (ltb last_kind k) here
    ∷ check 2 (is_variable r && ltb 0 n) here
    ∷ check 3 (over_limit v n r) here
    ∷ check 4 (ltb total (here + size r)) here
    ∷ check 5 (is_variable r && ltb 2 (get_or body 0 0)) here
    ∷ check 6 (undeclared_set v r) here
    ∷ check 7 (bad_operand n r) here
    ∷ check 9 (is_end r && ltb (here + 1) total) (here + 1)
    ∷ [])
    r

-- what one record of a file says, after so many variables and nodes: its body is in the bytes behind its kind byte
abbrev pub judged_at : List ℕ → (v n here : ℕ) → Outcome Record
judged_at bytes v n here = judged_record (length bytes) v n here (get_or bytes here 0) (drop (here + 1) bytes)

-- and after the variables and nodes of a netlist
unfoldable pub record_at : List ℕ → Netlist → (here : ℕ) → Outcome Record
record_at bytes n here = judged_at bytes (length n.variables) (length n.nodes) here

-- ---- a whole file

-- how far a file has been read: to the offset of its next record, or to its outcome
pub data Progress : Type 0 where
  reading : Netlist → (here : ℕ) → Progress
  finished : Outcome Netlist → Progress

-- the end record ends the file
unfoldable pub taken : Netlist → (here : ℕ) → Outcome Record → Progress
taken n here (refused k p) = finished (refused k p)
taken n here (answered end) = finished (answered n)
taken n here (answered (variable c)) = reading (with_variable n c) (here + size (variable c))
taken n here (answered (node c)) = reading (with_node n c) (here + size (node c))

unfoldable pub step : List ℕ → Progress → Progress
step bytes (reading n here) = taken n here (record_at bytes n here)
step bytes (finished outcome) = finished outcome

-- after a number of records, taken in file order behind the variables and nodes of a netlist
unfoldable pub after : Netlist → List ℕ → (records : ℕ) → Progress
after n bytes zero = reading n 0
after n bytes (suc records) = step bytes (after n bytes records)

-- no file has more records than the variables and nodes there may be, and the end
abbrev pub most_records : ℕ
most_records = most_variables + most_nodes + 1

-- the outcome; a file whose reading has not ended has no end record, which does not happen after `most_records` of them
unfoldable pub outcome_of : List ℕ → Progress → Outcome Netlist
outcome_of bytes (reading n here) = refused 8 (length bytes)
outcome_of bytes (finished outcome) = outcome

-- what a whole file says behind the variables and nodes of a netlist: the netlist with its own, or the refusal
unfoldable pub read_from : Netlist → List ℕ → Outcome Netlist
read_from n bytes = outcome_of bytes (after n bytes most_records)

unfoldable pub read : List ℕ → Outcome Netlist
read bytes = read_from empty bytes

-- ---- slices and queries, after reading

-- the lent slices, of so many entries and so many work bytes, hold the nodes of a netlist
unfoldable pub slices_fit : (entries work : ℕ) → Netlist → Outcome Netlist
slices_fit entries work n =
    judged
    (check 10 (ltb entries (length n.nodes)) (length n.nodes)
    ∷ check 11 (ltb work (256 * length n.nodes)) (256 * length n.nodes)
    ∷ [])
    n

-- so many work bytes hold the families of every netlist
abbrev pub most_work : ℕ
most_work = 256 * most_nodes

-- the netlist that is checked, or the refusal
unfoldable pub admitted : List ℕ → (entries work : ℕ) → Outcome Netlist
admitted bytes entries work = and_then (read bytes) (slices_fit entries work)

-- what a query asks of node i, and after that of an assignment or a set
unfoldable pub node_check : (node : ℕ) → Netlist → Check
node_check i n = check 12 (leb (length n.nodes) i) i

unfoldable pub number_check : (number : ℕ) → Netlist → Check
number_check s n = check 13 (undeclared (length n.variables) s) s

-- the netlist of a query of a node, or the refusal
unfoldable pub queried : List ℕ → (node : ℕ) → Outcome Netlist
queried bytes i = and_then (read bytes) (λ n. judged (node_check i n ∷ []) n)

-- and of a query of a node with an assignment or a set
unfoldable pub queried_with : List ℕ → (node number : ℕ) → Outcome Netlist
queried_with bytes i s = and_then (read bytes) (λ n. judged (node_check i n ∷ number_check s n ∷ []) n)
