-- Texts and what they say, computed: block A, every kind of record, and each way in which something else is expected.
-- Assumes nothing.
use mathlib.Core.Path.{◌≡◌, refl}
use mathlib.Core.List.{[], ◌∷◌}
use lib.ListN.{length, replicate}
use Rattle.rules.specs.Records.{listed, first_of, class_byte, kind_of, body, record_bytes}
use Rattle.rules.specs.Checks.{not_below}
use Rattle.rules.specs.Listing.{word, name_of}
use Rattle.scanner.specs.Words.{closed, lines_behind, lines_of, words_behind, words, same}
use Rattle.scanner.specs.Numbers.{are_digits, value_behind, number_behind, number_in, cut}
use Rattle.read_words.specs.declared.Fault.TheVariants as Fault
use Rattle.read_words.specs.Words.{number_fault, with_numbers, alone, with_operands, with_variables, forms, read_by, record_in, block, wrong_in, block_behind, block_in}

-- block A has the bytes that document 01 gives it; with a comment before it and a line of no words in it,
-- its records are in lines 2 to 4 and 6 to 11
block_a : block_in (word "# block A\nsecret\nmask\nmask\n\nin 0 1  # node 0\nin 1\nin 2\nxor 0 2\nxor 3 1\nend\n") (replicate 24 0)
    ≡ block (1 ∷ 0 ∷ 1 ∷ 1 ∷ 1 ∷ 1 ∷ 2 ∷ 3 ∷ 0 ∷ 2 ∷ 2 ∷ 0 ∷ 2 ∷ 4 ∷ 0 ∷ 4 ∷ 0 ∷ 2 ∷ 4 ∷ 3 ∷ 1 ∷ 0 ∷ [])
    (2 ∷ 0 ∷ 3 ∷ 0 ∷ 4 ∷ 0 ∷ 6 ∷ 0 ∷ 0 ∷ 7 ∷ 0 ∷ 0 ∷ 8 ∷ 0 ∷ 0 ∷ 9 ∷ 0 ∷ 0 ∷ 10 ∷ 0 ∷ 0 ∷ 11 ∷ 0 ∷ 0 ∷ [])
unfolding block_in block_behind lines_of lines_behind closed words words_behind record_in read_by forms word same alone number_fault with_numbers with_operands with_variables cut number_in number_behind are_digits value_behind record_bytes class_byte kind_of body listed first_of not_below name_of
block_a = refl

-- every other kind of record, with tabs, carriage returns, leading zeros and a last line that lacks its line feed;
-- and a text that says nothing
other_kinds : (block_in (word "public\r\n\tin 15 8#9\r\nnot 255\nand 7 007\n  or 1\t2\nreg 10") []
    ≡ block (1 ∷ 2 ∷ 2 ∷ 0 ∷ 129 ∷ 3 ∷ 255 ∷ 5 ∷ 7 ∷ 7 ∷ 6 ∷ 1 ∷ 2 ∷ 7 ∷ 10 ∷ []) [])
    × (block_in (word "  \n# in 0\n") [] ≡ block [] [])
    × (length (lines_of (word "end\n\nend")) ≡ 3)
    × (length (lines_of (word "end\n\n")) ≡ 2)
unfolding block_in block_behind lines_of lines_behind closed words words_behind record_in read_by forms word same alone number_fault with_numbers with_operands with_variables cut number_in number_behind are_digits value_behind record_bytes class_byte kind_of body listed first_of not_below name_of
other_kinds = (refl, refl, refl, refl)

-- what was expected instead, in which line, and what the lines before it say
faults : (block_in (word "secret\nnand 0 1\n") [] ≡ wrong_in Fault.Record 2 (1 ∷ 0 ∷ []) [])
    × (block_in (word "secret\n\nmask 1") [] ≡ wrong_in Fault.NoNumber 3 (1 ∷ 0 ∷ []) [])
    × (block_in (word "not") [] ≡ wrong_in Fault.OneNumber 1 [] [])
    × (block_in (word "reg 1 2") [] ≡ wrong_in Fault.OneNumber 1 [] [])
    × (block_in (word "or 1") [] ≡ wrong_in Fault.TwoNumbers 1 [] [])
    × (block_in (word "and 1 2 3") [] ≡ wrong_in Fault.TwoNumbers 1 [] [])
    × (block_in (word "xor 256 0") [] ≡ wrong_in Fault.Operand 1 [] [])
    × (block_in (word "xor 0 1x") [] ≡ wrong_in Fault.Operand 1 [] [])
    × (block_in (word "in 16") [] ≡ wrong_in Fault.Variable 1 [] [])
    × (block_in (word "in 1 01") [] ≡ wrong_in Fault.Twice 1 [] [])
unfolding block_in block_behind lines_of lines_behind closed words words_behind record_in read_by forms word same alone number_fault with_numbers with_operands with_variables cut number_in number_behind are_digits value_behind record_bytes class_byte kind_of body listed first_of not_below name_of
faults = (refl, refl, refl, refl, refl, refl, refl, refl, refl, refl)
