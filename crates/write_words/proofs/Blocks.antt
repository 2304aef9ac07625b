-- Blocks in words, which antt computes: document 01's block A, and a block with a variable of each class and a
-- node of each kind. Assumes nothing.
use mathlib.Core.Path.{◌≡◌, refl}
use mathlib.Core.List.{[], ◌∷◌}
use Rattle.rules.specs.Records.{secret, mask, public, NOT, XOR, AND, OR, register, listed, input, gate, Netlist, class_byte, kind_of, operands, set_of, body, record_bytes, variables_out, nodes_out, written_out}
use Rattle.rules.specs.Listing.{word, digits, decimal, line, name_of, kind_name}
use Rattle.rules.specs.Blocks.{P9}
use Rattle.write_words.specs.Worded.{class_name, variables_below, numbers_of, record_words, record_line, record_lines, worded_out}

-- block A: its bytes are those of the document, and its words those of `blocks/a.txt`
abbrev block_A : Netlist
block_A = record {
  variables = secret ∷ mask ∷ mask ∷ [];
  nodes = input 3 ∷ input 2 ∷ input 4 ∷ gate XOR (0, (2, tt)) ∷ gate XOR (3, (1, tt)) ∷ [];
}

pub block_A_worded : (written_out block_A ≡ P9.bytes)
    × (worded_out block_A ≡ word "secret\nmask\nmask\nin 0 1\nin 1\nin 2\nxor 0 2\nxor 3 1\nend\n")
unfolding listed class_byte kind_of operands set_of body record_bytes variables_out nodes_out written_out word digits decimal line name_of kind_name class_name variables_below numbers_of record_words record_line record_lines worded_out
block_A_worded = (refl, refl)

-- a line of each kind; the empty set has no variables, and the set of all ten variables is the longest line
pub each_kind : worded_out (record {
  variables = secret ∷ mask ∷ public ∷ [];
  nodes = input 1023 ∷ input 0 ∷ gate NOT (1, tt) ∷ gate XOR (2, (0, tt)) ∷ gate AND (3, (1, tt)) ∷ gate OR (4, (0, tt)) ∷ gate register (199, tt) ∷ [];
}) ≡ word "secret\nmask\npublic\nin 0 1 2 3 4 5 6 7 8 9\nin\nnot 1\nxor 2 0\nand 3 1\nor 4 0\nreg 199\nend\n"
unfolding listed operands set_of word digits decimal line name_of kind_name class_name variables_below numbers_of record_words record_line record_lines worded_out
each_kind = refl
