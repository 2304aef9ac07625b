-- A netlist in words: a record to a line, a record's word and its numbers parted by one blank, and a line feed
-- behind each line. Assumes nothing.
use Rattle.std.specs.Prelude.{ℕ, zero, suc, ◌+◌, ◌*◌, ◌/◌, ◌^◌, cond, List, [], ◌∷◌, ◌++◌, map}
use Rattle.rules.specs.Records.{Class, secret, mask, public, Cell, Record, end, variable}
use Rattle.rules.specs.Records.{node, Netlist, operands, set_of, odd, most_variables, most_nodes}
use Rattle.rules.specs.Listing.{word, decimal, line, kind_name}

-- the word of a variable
unfoldable pub class_name : Class → List ℕ
class_name secret = word "secret"
class_name mask = word "mask"
class_name public = word "public"

-- the variables below k of the set with this number, ascending
unfoldable pub variables_below : (k set : ℕ) → List ℕ
variables_below zero s = []
variables_below (suc k) s = variables_below k s ++ cond (odd (s / 2 ^ k)) (k ∷ []) []

-- the numbers behind the name of a node: its operands, or the variables of an input's set
unfoldable pub numbers_of : Cell → List ℕ
numbers_of cell = operands cell ++ variables_below most_variables (set_of cell)

-- a record in words, and its line
unfoldable pub record_words : Record → List (List ℕ)
record_words end = word "end" ∷ []
record_words (variable c) = class_name c ∷ []
record_words (node cell) = kind_name cell ∷ map decimal (numbers_of cell)

unfoldable pub record_line : Record → List ℕ
record_line r = line (record_words r)

unfoldable pub record_lines : List Record → List ℕ
record_lines [] = []
record_lines (r ∷ records) = record_line r ++ record_lines records

-- a netlist in words: the lines of its variables, those of its nodes, and the end
unfoldable pub worded_out : Netlist → List ℕ
worded_out n = record_lines (map variable n.variables) ++ record_lines (map node n.nodes) ++ record_line end

-- numbers, a blank before each: what stands behind a record's word in its line (`line_fields` of `proofs/Worded`)
unfoldable pub fields : List ℕ → List ℕ
fields [] = []
fields (x ∷ numbers) = 32 ∷ (decimal x ++ fields numbers)

-- the most bytes of a variable's line, `secret` or `public`; of a node's numbers and of its line,
-- `in 0 1 2 3 4 5 6 7 8 9`; and of a netlist in words
abbrev pub most_variable_line : ℕ
most_variable_line = 7

abbrev pub most_numbers : ℕ
most_numbers = 2 * most_variables

abbrev pub most_node_line : ℕ
most_node_line = 23

abbrev pub most_words : ℕ
most_words = most_variable_line * most_variables + most_node_line * most_nodes + 4
