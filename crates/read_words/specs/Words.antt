-- Blocks in words: what a text says, a record to a line. Only the form of each line is judged here; whether the records
-- obey the rules is in `Checks` of the rules. Assumes nothing.
use Rattle.std.specs.Prelude.{ℕ, suc, ◌+◌, ◌/◌, ◌^◌, cond, List, [], ◌∷◌, ◌++◌, map, eqb, ltb, length, get_or, set}
use Rattle.rules.specs.Records.{secret, mask, public, Kind, kinds, operand_count, first_of, input, gate}
use Rattle.rules.specs.Records.{Record, end, variable, node, odd, record_bytes}
use Rattle.rules.specs.Checks.{not_below}
use Rattle.rules.specs.Listing as Listing
use Rattle.rules.specs.Listing.{word}
use Rattle.scanner.specs.Words.{words, same, lines_of}
use Rattle.scanner.specs.Numbers.{number_in, cut}
use Rattle.read_words.specs.declared.Fault.{Fault}

-- ---- the record of a line

-- what a line says: nothing, a record, or something else than what is expected
pub data Said : Type 0 where
  nothing : Said
  says : Record → Said
  wrong : Fault → Said

-- what is expected where a record has so many numbers, and there are more or fewer
unfoldable pub number_fault : (count : ℕ) → Fault
number_fault count = get_or (Fault.NoNumber ∷ Fault.OneNumber ∷ []) count Fault.TwoNumbers

-- so many numbers stand behind the record's word, and then this is said
unfoldable pub with_numbers : (count : ℕ) (numbers : List (List ℕ)) → Said → Said
with_numbers count numbers said = cond (eqb (length numbers) count) said (wrong (number_fault count))

unfoldable pub alone : Record → (numbers : List (List ℕ)) → Said
alone r numbers = with_numbers 0 numbers (says r)

-- an operand is a number below 256
abbrev pub operand_in : List ℕ → ℕ
operand_in number = cut 256 (number_in number)

-- a gate or a register has as many as its kind
unfoldable pub with_operands : Kind → (numbers : List (List ℕ)) → Said
with_operands kind numbers =
    let count = operand_count kind in
    let ops = map operand_in numbers in
    with_numbers count numbers (cond (not_below 256 ops) (wrong Fault.Operand) (says (node (gate kind (first_of count ops)))))

-- an input: the numbers of its variables, below 16, each once; those before them make the set so far
unfoldable pub with_variables : (set : ℕ) (numbers : List (List ℕ)) → Said
with_variables s [] = says (node (input s))
with_variables s (number ∷ numbers) =
    let v = cut 16 (number_in number) in
    cond (ltb v 16) (cond (odd (s / 2 ^ v)) (wrong Fault.Twice) (with_variables (s + 2 ^ v) numbers)) (wrong Fault.Variable)

-- a record's word, and how what stands behind it is read
pub data Form : Type 0 where
  form : (name : List ℕ) → (List (List ℕ) → Said) → Form

unfoldable pub forms : List Form
forms =
    form (word "end") (alone end)
    ∷ form (word "secret") (alone (variable secret))
    ∷ form (word "mask") (alone (variable mask))
    ∷ form (word "public") (alone (variable public))
    ∷ form (word "in") (with_variables 0)
    ∷ map (λ kind. form (Listing.name_of kind) (with_operands kind)) kinds

unfoldable pub read_by : List Form → (name : List ℕ) (numbers : List (List ℕ)) → Said
read_by [] name numbers = wrong Fault.Record
read_by (form own reads ∷ rest) name numbers = cond (same name own) (reads numbers) (read_by rest name numbers)

-- the record of a line's words
unfoldable pub record_in : (line : List (List ℕ)) → Said
record_in [] = nothing
record_in (name ∷ numbers) = read_by forms name numbers

-- ---- the block of a text

-- What a text says: the bytes of its records, and at the offset of each kind byte the line of its record, in a list
-- that held something before; or in which line something else was expected, and what the lines before it say.
pub data BlockSaid : Type 0 where
  block : (bytes lines : List ℕ) → BlockSaid
  wrong_in : Fault → (line : ℕ) (bytes lines : List ℕ) → BlockSaid

-- the same behind `bytes` and `lines` so far, with the next line's number; lines are numbered from 1
unfoldable pub block_behind : (bytes lines : List ℕ) (number : ℕ) (rest : List (List ℕ)) → BlockSaid
block_behind bytes lines k [] = block bytes lines
block_behind bytes lines k (line ∷ rest) =
    elim (record_in (words line)) [
      | nothing ↦ block_behind bytes lines (suc k) rest
      | says r ↦ block_behind (bytes ++ record_bytes r) (set lines (length bytes) k) (suc k) rest
      | wrong fault ↦ wrong_in fault k bytes lines
    ]

unfoldable pub block_in : (text lines : List ℕ) → BlockSaid
block_in text lines = block_behind [] lines 1 (lines_of text)
