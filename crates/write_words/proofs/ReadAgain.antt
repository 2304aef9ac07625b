-- A netlist that obeys the record rules, written in words, is read again: its text says the bytes that the netlist
-- is written out as. The lines of the text are those of the records, the words of each line are the record's,
-- and these say the record. Assumes nothing.
use Prim.Native.Nat.{ℕ, zero, suc, ◌+◌, ◌*◌, ◌/◌, ◌%◌, ◌^◌, ◌≤◌, ◌<◌}
use mathlib.Core.Path.{◌≡◌, refl, sym, ap, ◌∙◌}
use mathlib.Core.Bool.{Bool, true, false, cond}
use mathlib.Core.List.{List, [], ◌∷◌, ◌++◌, map, map-append, append-nil, append_assoc}
use native.Mathlib.Nat.{mod-one, mod-lt, mod-eq_of_lt, div-eq_of_lt, suc-add, zero-add, lt_of_lt_of_le}
use native.Mathlib.Omega.{arith}
use lib.ListN.{length, get_or, set, length-map}
use lib.Pow.{pow_pos, pow_mono, mod-pow-add}
use borrow.Author.Tests.{lt-leb, lt-ltb, eqb-true, eqb-false}
use Rattle.rules.specs.Records.{Class, secret, mask, public, Kind, NOT, XOR, AND, OR, register, operand_count, Operands, listed, Cell, input, gate, Record, end, variable, node, Netlist, WellFormed, operands, set_of, odd, record_bytes, variables_out, nodes_out, written_out, most_variables, most_sets}
use Rattle.rules.specs.Checks.{not_below}
use Rattle.rules.specs.Listing.{word, decimal, name_of, kind_name}
use Rattle.rules.proofs.Each.{Each, each_append}
use Rattle.rule_laws.proofs.Lists.{member_head, member_tail}
use Rattle.rule_laws.proofs.Members.{All}
use Rattle.rule_laws.proofs.Operands.{listed_length, first_listed}
use Rattle.scanner.specs.Words.{closed, lines_behind, lines_of, same}
use Rattle.read_words.specs.Words.{says, with_numbers, alone, operand_in, with_operands, with_variables, forms, read_by, record_in, block, block_behind, block_in}
use Rattle.read_words.proofs.Records.{so_many_operands}
use Rattle.write_words.specs.Worded.{class_name, variables_below, numbers_of, record_words, record_line, record_lines, worded_out}
use Rattle.write_words.proofs.Worded.{lines_append}
use Rattle.write_words.proofs.Reading.{cut_decimal, Field, plainly, known, decimal_field, bare, line_bare, bare_lineless, line_read, words_read}

-- ---- the words of a record

-- they are words of a line
record_fields : (r : Record) → Each Field (record_words r)
unfolding word name_of kind_name class_name record_words plainly
record_fields end = (known (word "end") tt, tt)
record_fields (variable c) = (class c, tt)
  where
    class : (c : Class) → Field (class_name c)
    class secret = known (word "secret") tt
    class mask = known (word "mask") tt
    class public = known (word "public") tt
record_fields (node cell) = (kind cell, numbers (numbers_of cell))
  where
    kind : (cell : Cell) → Field (kind_name cell)
    kind (input s) = known (word "in") tt
    kind (gate NOT ops) = known (word "not") tt
    kind (gate XOR ops) = known (word "xor") tt
    kind (gate AND ops) = known (word "and") tt
    kind (gate OR ops) = known (word "or") tt
    kind (gate register ops) = known (word "reg") tt

    numbers : (xs : List ℕ) → Each Field (map decimal xs)
    numbers [] = tt
    numbers (x ∷ xs) = (decimal_field x, numbers xs)

-- ---- what they say

-- a record whose operands and variables are as small as those of a netlist that obeys the rules
unfoldable pub Small : Record → Type 0
Small end = Unit {0}
Small (variable c) = Unit {0}
Small (node cell) = (set_of cell < most_sets) × All (λ a. a < 256) (operands cell)

-- operands: each is below 256
operands_below : (l : List ℕ) → All (λ a. a < 256) l → (map operand_in (map decimal l) ≡ l) × (not_below 256 l ≡ false)
unfolding not_below
operands_below [] h = (refl, refl)
operands_below (a ∷ l) h =
    let own = h a (member_head a l) in
    let (others, below) = operands_below l (λ b t. h b (member_tail b a l t)) in
    (rw (cut_decimal 256 a own (omega arith), others), rw (lt-leb 256 a own, below))

-- the variables of an input
one_bit_more : (k s : ℕ) → s % 2 ^ suc k ≡ (s / 2 ^ k % 2) * 2 ^ k + s % 2 ^ k
one_bit_more k s = rw (suc-add, zero-add) at (mod-pow-add s 1 k)

next_set : (k s : ℕ) → s / 2 ^ k % 2 ≡ 1 → s % 2 ^ k + 2 ^ k ≡ s % 2 ^ suc k
next_set k s e = rw (one_bit_more k s, e) (omega arith)

same_set : (k s : ℕ) → s / 2 ^ k % 2 ≡ 0 → s % 2 ^ k ≡ s % 2 ^ suc k
same_set k s e = rw (one_bit_more k s, e) (omega arith)

next_variable : (k s : ℕ) (rest : List (List ℕ)) → k < 16 → (b : Bool) → odd (s / 2 ^ k) ≡ b
    → with_variables (s % 2 ^ k) (map decimal (cond b (k ∷ []) []) ++ rest) ≡ with_variables (s % 2 ^ suc k) rest
unfolding with_variables
next_variable k s rest h true e =
    rw (cut_decimal 16 k h (omega arith), lt-ltb k 16 h, div-eq_of_lt (mod-lt s (pow_pos k)), next_set k s (eqb-true (s / 2 ^ k % 2) 1 e))
next_variable k s rest h false e = rw (same_set k s (omega (arith, eqb-false (s / 2 ^ k % 2) 1 e)))

variables_read : (k s : ℕ) (rest : List (List ℕ)) → k ≤ 16
    → with_variables 0 (map decimal (variables_below k s) ++ rest) ≡ with_variables (s % 2 ^ k) rest
unfolding variables_below
variables_read zero s rest h = rw (mod-one s)
variables_read (suc k) s rest h = rw (map-append, append_assoc, variables_read k s _ (omega arith)) (next_variable k s rest h (odd (s / 2 ^ k)) refl)

-- what stands behind a name is read
operands_read : (kind : Kind) (ops : Operands (operand_count kind)) → All (λ a. a < 256) (listed (operand_count kind) ops)
    → with_operands kind (map decimal (listed (operand_count kind) ops)) ≡ says (node (gate kind ops))
operands_read kind ops h =
    let own = listed (operand_count kind) ops in
    let (same_numbers, below) = operands_below own h in
    let first = rw append-nil at (first_listed (operand_count kind) ops []) in
    rw (so_many_operands kind (map decimal own) (length-map own decimal ∙ listed_length (operand_count kind) ops), same_numbers, below, first)

input_read : (s : ℕ) → s < most_sets → with_variables 0 (map decimal (variables_below most_variables s)) ≡ says (node (input s))
unfolding with_variables
input_read s h =
    ap (with_variables 0) (sym (append-nil (map decimal (variables_below most_variables s)))) ∙ variables_read most_variables s [] (omega arith) ∙ ap (λ (set : ℕ). says (node (input set))) (mod-eq_of_lt h)

-- by the name of its kind
kind_read : (kind : Kind) (numbers : List (List ℕ)) → read_by forms (name_of kind) numbers ≡ with_operands kind numbers
unfolding read_by forms same word name_of
kind_read NOT numbers = refl
kind_read XOR numbers = refl
kind_read AND numbers = refl
kind_read OR numbers = refl
kind_read register numbers = refl

-- the words of a record say the record
pub record_read : (r : Record) → Small r → record_in (record_words r) ≡ says r
unfolding record_in read_by forms same with_numbers alone word class_name kind_name operands set_of variables_below numbers_of record_words Small
record_read end h = refl
record_read (variable secret) h = refl
record_read (variable mask) h = refl
record_read (variable public) h = refl
record_read (node (input s)) h = input_read s h.0
record_read (node (gate kind ops)) h =
    rw (append-nil, kind_read kind (map decimal (listed (operand_count kind) ops))) (operands_read kind ops h.1)

-- ---- the block

-- the bytes of records
unfoldable bytes_of : List Record → List ℕ
bytes_of [] = []
bytes_of (r ∷ records) = record_bytes r ++ bytes_of records

-- the lines of records say their bytes, behind those before them
records_read : (records : List Record) → Each Small records → (bytes lines : List ℕ) (k : ℕ)
    → (after : List ℕ) × (block_behind bytes lines k (lines_behind [] (record_lines records)) ≡ block (bytes ++ bytes_of records) after)
unfolding closed lines_behind block_behind record_line record_lines bytes_of
records_read [] h bytes lines k = (lines, rw append-nil)
records_read (r ∷ records) h bytes lines k =
    let (after, e) = records_read records h.1 (bytes ++ record_bytes r) (set lines (length bytes) k) (suc k) in (
      after,
      rw (
        line_bare (record_words r) (record_lines records),
        line_read [] (bare (record_words r)) (record_lines records) (bare_lineless _ (record_fields r)),
        block_behind,
        words_read (record_words r) (record_fields r),
        record_read r h.0,
        ← append_assoc bytes (record_bytes r) (bytes_of records),
      ) e,
    )

-- the records of a netlist
abbrev records_of : Netlist → List Record
records_of n = map variable n.variables ++ (map node n.nodes ++ (end ∷ []))

worded_records : (n : Netlist) → worded_out n ≡ record_lines (records_of n)
unfolding record_lines worded_out
worded_records n = rw (lines_append, lines_append, append-nil) (append_assoc (record_lines (map variable n.variables)) _ _)

written_records : (n : Netlist) → written_out n ≡ bytes_of (records_of n)
unfolding written_out variables_out nodes_out bytes_of
written_records n = rw (variables n.variables, nodes n.nodes, append-nil) (append_assoc (variables_out n.variables) _ _)
  where
    nodes : (cells : List Cell) → bytes_of (map node cells ++ (end ∷ [])) ≡ nodes_out cells ++ bytes_of (end ∷ [])
    nodes [] = refl
    nodes (cell ∷ cells) = rw (nodes cells, append_assoc)

    variables : (classes : List Class) (rest : List Record) → bytes_of (map variable classes ++ rest) ≡ variables_out classes ++ bytes_of rest
    variables [] rest = refl
    variables (c ∷ classes) rest = rw (variables classes rest, append_assoc)

-- they are small
records_small : (n : Netlist) → WellFormed n → Each Small (records_of n)
unfolding Small
records_small n w =
    each_append Small (map variable n.variables) (map node n.nodes ++ (end ∷ [])) (classes n.variables)
    (each_append Small (map node n.nodes) (end ∷ []) (cells n.nodes small) (tt, tt))
  where
    classes : (vs : List Class) → Each Small (map variable vs)
    classes [] = tt
    classes (c ∷ vs) = (tt, classes vs)

    cells : (ns : List Cell) → ((i : ℕ) → i < length ns → Small (node (get_or ns i (input 0)))) → Each Small (map node ns)
    cells [] h = tt
    cells (cell ∷ ns) h = (h 0 (omega arith), cells ns (λ i l. h (suc i) (omega arith)))

    small : (i : ℕ) → i < length n.nodes → Small (node (get_or n.nodes i (input 0)))
    small i l = (
      lt_of_lt_of_le (w.declared i l) (pow_mono w.few_variables),
      λ a t. let lower = w.lower i l a t in omega (arith, w.few_nodes),
    )

-- what is written in words, read again, is the block
pub words_again : (n : Netlist) → WellFormed n → (lines : List ℕ)
    → (after : List ℕ) × (block_in (worded_out n) lines ≡ block (written_out n) after)
unfolding block_in lines_of
words_again n w lines = rw (worded_records n, written_records n) (records_read (records_of n) (records_small n w) [] lines 1)
