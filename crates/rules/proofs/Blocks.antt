-- The table P1 to P14, and blocks that show the mistakes which document 01 does not forgive: the reply to each,
-- which antt computes from the rules. Assumes nothing.
use Prim.Native.Nat.{ℕ}
use mathlib.Core.Path.{◌≡◌, refl}
use mathlib.Core.List.{List, [], ◌∷◌, map}
use Rattle.rules.specs.Lists.{member, insert, union, count}
use Rattle.rules.specs.Tables.{table}
use Rattle.rules.specs.Records.{most_nodes, class_of, said, size, record_bytes, kind_of, body, class_byte, listed, first_of, from_operands, operands, set_of, bits, variable_count}
use Rattle.rules.specs.Values.{same}
use Rattle.rules.specs.Families.{product, spread, settled_of, glitch_of, family_rule, families_rule, families, holds, suspect, tested, earlier, better, reported, mark, marks, layer_marks, lowest, half, findings, Findings, clear, suspect_at}
use Rattle.rules.specs.Checks.{and_then, judged, over_limit, undeclared, undeclared_set, not_below, bad_operand, judged_record, record_at, taken, step, after, outcome_of, read_from, read, slices_fit, most_work, admitted, Outcome}
use Rattle.rules.specs.Slices.{reply}
use Rattle.rules.proofs.Each.{Each}
use Rattle.rules.specs.Blocks.{Block, answers, blocks, P1, P2, P3, P4, P5, P6, P7, P8, P9, P10, P11, P12, P13, P13_NOT, P14, P14_without}

-- the reply to a block in slices that hold every netlist; to unfold it is to compute it
unfoldable pub reply_to : List ℕ → Outcome Findings
unfolding member insert union count table class_of said size record_bytes kind_of body class_byte listed first_of from_operands operands set_of bits variable_count same product spread
    settled_of glitch_of family_rule families_rule families holds suspect tested earlier better reported mark marks layer_marks lowest half findings and_then judged over_limit
    undeclared undeclared_set not_below bad_operand judged_record record_at taken step after outcome_of read_from read slices_fit admitted reply
reply_to bytes = reply bytes most_nodes most_work

-- the reply to a block is the expected one
abbrev pub Right : Block → Type 0
Right b = reply_to b.bytes ≡ b.expected

infixr 5 ◌and◌
abbrev pub ◌and◌ : {A B : Type 0} → A → B → A × B
a and b = (a, b)

pub right : (b : Block) → Right b → Right b
right b r = r

-- the table
pub replies : Each Right blocks
unfolding reply_to
replies =
    right P1 refl
    and right P2 refl
    and right P3 refl
    and right P4 refl
    and right P5 refl
    and right P6 refl
    and right P7 refl
    and right P8 refl
    and right P9 refl
    and right P10 refl
    and right P11 refl
    and right P12 refl
    and right P13 refl
    and right P13_NOT refl
    and right P14 refl
    and right P14_without refl
    and tt

-- ---- mistakes

-- variables secret, mask, mask; inputs 3, 2 and 4; 3 AND(0,2); 4 AND(1,2); 5 XOR(3,4), in whose
-- product each set arises twice
abbrev pub arises_twice : Block
arises_twice = record {
  bytes =
      0x01 ∷ 0x00 ∷ 0x01 ∷ 0x01 ∷ 0x01 ∷ 0x01
      ∷ 0x02 ∷ 0x03 ∷ 0x00 ∷ 0x02 ∷ 0x02 ∷ 0x00 ∷ 0x02 ∷ 0x04 ∷ 0x00
      ∷ 0x05 ∷ 0x00 ∷ 0x02 ∷ 0x05 ∷ 0x01 ∷ 0x02 ∷ 0x04 ∷ 0x03 ∷ 0x04
      ∷ 0x00 ∷ [];
  expected = answers (suspect_at 5 1) (suspect_at 5 1) 3 6;
}

-- variables secret, public; input 3; NOT of it
abbrev pub public_beside_secret : Block
public_beside_secret = record {
  bytes = 0x01 ∷ 0x00 ∷ 0x01 ∷ 0x02 ∷ 0x02 ∷ 0x03 ∷ 0x00 ∷ 0x03 ∷ 0x00 ∷ 0x00 ∷ [];
  expected = answers (suspect_at 1 3) (suspect_at 1 3) 2 2;
}

-- variable public; input 1; NOT of it: a set of publics alone is not suspect
abbrev pub publics_alone : Block
publics_alone = record { bytes = 0x01 ∷ 0x02 ∷ 0x02 ∷ 0x01 ∷ 0x00 ∷ 0x03 ∷ 0x00 ∷ 0x00 ∷ []; expected = answers clear clear 1 2 }

-- variables secret, mask; inputs 2 and 1; AND of them: the second operand's own set is suspect
abbrev pub second_operand : Block
second_operand = record {
  bytes =
      0x01 ∷ 0x00 ∷ 0x01 ∷ 0x01
      ∷ 0x02 ∷ 0x02 ∷ 0x00 ∷ 0x02 ∷ 0x01 ∷ 0x00
      ∷ 0x05 ∷ 0x00 ∷ 0x01
      ∷ 0x00 ∷ [];
  expected = answers (suspect_at 2 1) (suspect_at 2 1) 2 3;
}

-- the same inputs; OR of them
abbrev pub or_gate : Block
or_gate = record {
  bytes =
      0x01 ∷ 0x00 ∷ 0x01 ∷ 0x01
      ∷ 0x02 ∷ 0x02 ∷ 0x00 ∷ 0x02 ∷ 0x01 ∷ 0x00
      ∷ 0x06 ∷ 0x00 ∷ 0x01
      ∷ 0x00 ∷ [];
  expected = answers (suspect_at 2 1) (suspect_at 2 1) 2 3;
}

-- variable secret; input 1; register of it
abbrev pub bare_register : Block
bare_register = record { bytes = 0x01 ∷ 0x00 ∷ 0x02 ∷ 0x01 ∷ 0x00 ∷ 0x07 ∷ 0x00 ∷ 0x00 ∷ []; expected = answers (suspect_at 1 1) (suspect_at 1 1) 1 2 }

-- variables secret, public; inputs 1 and 2; AND of them: sets 1 and 3 are suspect
abbrev pub two_suspects : Block
two_suspects = record {
  bytes =
      0x01 ∷ 0x00 ∷ 0x01 ∷ 0x02
      ∷ 0x02 ∷ 0x01 ∷ 0x00 ∷ 0x02 ∷ 0x02 ∷ 0x00
      ∷ 0x05 ∷ 0x00 ∷ 0x01
      ∷ 0x00 ∷ [];
  expected = answers (suspect_at 2 1) (suspect_at 2 1) 2 3;
}

-- Two of the mistakes show in the table: a register that passed on its operand's glitch family would report a suspect
-- in P10, and the settled XOR rule between registers none in P9. The others show here, and so do a family that forgets
-- a set and a wrong choice of the reported one.
pub mistakes : Each Right (arises_twice ∷ public_beside_secret ∷ publics_alone ∷ second_operand ∷ or_gate ∷ bare_register ∷ two_suspects ∷ [])
unfolding reply_to
mistakes =
    right arises_twice refl
    and right public_beside_secret refl
    and right publics_alone refl
    and right second_operand refl
    and right or_gate refl
    and right bare_register refl
    and right two_suspects refl
    and tt

-- ---- the reported set

-- change request A2's own example: variables secret, public, secret; inputs 3 and 4; AND of them:
-- sets 3, 4 and 7 are suspect
abbrev pub fewest_variables_lem : Block
fewest_variables_lem = record {
  bytes =
      0x01 ∷ 0x00 ∷ 0x01 ∷ 0x02 ∷ 0x01 ∷ 0x00
      ∷ 0x02 ∷ 0x03 ∷ 0x00 ∷ 0x02 ∷ 0x04 ∷ 0x00
      ∷ 0x05 ∷ 0x00 ∷ 0x01
      ∷ 0x00 ∷ [];
  expected = answers (suspect_at 2 4) (suspect_at 2 4) 3 3;
}

-- the same variables; inputs 6 and 3; AND of them: sets 3, 5 and 6 are suspect, of two variables each
abbrev pub tie : Block
tie = record {
  bytes =
      0x01 ∷ 0x00 ∷ 0x01 ∷ 0x02 ∷ 0x01 ∷ 0x00
      ∷ 0x02 ∷ 0x06 ∷ 0x00 ∷ 0x02 ∷ 0x03 ∷ 0x00
      ∷ 0x05 ∷ 0x00 ∷ 0x01
      ∷ 0x00 ∷ [];
  expected = answers (suspect_at 2 3) (suspect_at 2 3) 3 3;
}

-- variables secret, four publics, secret; inputs 31, of five variables, and 32, of one; AND of them
abbrev pub one_below_five : Block
one_below_five = record {
  bytes =
      0x01 ∷ 0x00 ∷ 0x01 ∷ 0x02 ∷ 0x01 ∷ 0x02 ∷ 0x01 ∷ 0x02 ∷ 0x01 ∷ 0x02 ∷ 0x01 ∷ 0x00
      ∷ 0x02 ∷ 0x1f ∷ 0x00 ∷ 0x02 ∷ 0x20 ∷ 0x00
      ∷ 0x05 ∷ 0x00 ∷ 0x01
      ∷ 0x00 ∷ [];
  expected = answers (suspect_at 2 32) (suspect_at 2 32) 6 3;
}

-- Fewest variables first, and ties to the lower number.
pub reported_sets : Each Right (fewest_variables_lem ∷ tie ∷ one_below_five ∷ [])
unfolding reply_to
reported_sets = right fewest_variables_lem refl and right tie refl and right one_below_five refl and tt

-- every variable of a set counts, masks too: the inputs of P14, with secrets a and b and three masks
pub variables_of_inputs : map variable_count (5 ∷ 4 ∷ 10 ∷ 8 ∷ 16 ∷ []) ≡ 2 ∷ 1 ∷ 2 ∷ 1 ∷ 1 ∷ []
unfolding reply_to
variables_of_inputs = refl
