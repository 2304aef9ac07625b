-- Document 01, "Blocks and edges": the blocks P1 to P14, with the reply to each. Assumes nothing.
use Rattle.std.specs.Prelude.{ℕ, List, [], ◌∷◌}
use Rattle.rules.specs.Families.{Finding, clear, suspect_at, Findings}
use Rattle.rules.specs.Checks.{Outcome, answered, refused}

-- a block and the reply to it, in slices that hold every netlist
pub record Block : Type 0 where
  pub bytes : List ℕ
  pub expected : Outcome Findings

-- the answer's fields in the order of the document's sentences: both halves, and the counts of variables and nodes
abbrev pub answers : (settled glitch : Finding) (variables nodes : ℕ) → Outcome Findings
answers s g v n = answered (record { variables = v; nodes = n; settled = s; glitch = g })

-- no bytes
abbrev pub P1 : Block
P1 = record { bytes = []; expected = refused 8 0 }

abbrev pub P2 : Block
P2 = record { bytes = 0x00 ∷ []; expected = answers clear clear 0 0 }

abbrev pub P3 : Block
P3 = record { bytes = 0x00 ∷ 0x00 ∷ []; expected = refused 9 1 }

abbrev pub P4 : Block
P4 = record { bytes = 0x08 ∷ []; expected = refused 1 0 }

abbrev pub P5 : Block
P5 = record { bytes = 0x02 ∷ 0x01 ∷ 0x00 ∷ 0x00 ∷ []; expected = refused 6 0 }

-- constant 0
abbrev pub P6 : Block
P6 = record { bytes = 0x02 ∷ 0x00 ∷ 0x00 ∷ 0x00 ∷ []; expected = answers clear clear 0 1 }

abbrev pub P7 : Block
P7 = record { bytes = 0x01 ∷ 0x03 ∷ 0x00 ∷ []; expected = refused 5 0 }

abbrev pub P8 : Block
P8 = record { bytes = 0x01 ∷ 0x00 ∷ 0x02 ∷ 0x01 ∷ 0x00 ∷ 0x03 ∷ 0x01 ∷ 0x00 ∷ []; expected = refused 7 5 }

-- block A
abbrev pub P9 : Block
P9 = record {
  bytes =
      0x01 ∷ 0x00 ∷ 0x01 ∷ 0x01 ∷ 0x01 ∷ 0x01
      ∷ 0x02 ∷ 0x03 ∷ 0x00 ∷ 0x02 ∷ 0x02 ∷ 0x00 ∷ 0x02 ∷ 0x04 ∷ 0x00
      ∷ 0x04 ∷ 0x00 ∷ 0x02 ∷ 0x04 ∷ 0x03 ∷ 0x01
      ∷ 0x00 ∷ [];
  expected = answers clear (suspect_at 4 1) 3 5;
}

-- block B: as A, but node 4 a register of 3 and node 5 the XOR of 4 and 1
abbrev pub P10 : Block
P10 = record {
  bytes =
      0x01 ∷ 0x00 ∷ 0x01 ∷ 0x01 ∷ 0x01 ∷ 0x01
      ∷ 0x02 ∷ 0x03 ∷ 0x00 ∷ 0x02 ∷ 0x02 ∷ 0x00 ∷ 0x02 ∷ 0x04 ∷ 0x00
      ∷ 0x04 ∷ 0x00 ∷ 0x02 ∷ 0x07 ∷ 0x03 ∷ 0x04 ∷ 0x04 ∷ 0x01
      ∷ 0x00 ∷ [];
  expected = answers clear clear 3 6;
}

-- variables secret, mask; inputs 3 and 2; AND of them
abbrev pub P11 : Block
P11 = record {
  bytes =
      0x01 ∷ 0x00 ∷ 0x01 ∷ 0x01
      ∷ 0x02 ∷ 0x03 ∷ 0x00 ∷ 0x02 ∷ 0x02 ∷ 0x00
      ∷ 0x05 ∷ 0x00 ∷ 0x01
      ∷ 0x00 ∷ [];
  expected = answers (suspect_at 2 1) (suspect_at 2 1) 2 3;
}

-- the same inputs; node 2 NOT 1; 3 AND of 1 and 2; 4 XOR of 0 and 3
abbrev pub P12 : Block
P12 = record {
  bytes =
      0x01 ∷ 0x00 ∷ 0x01 ∷ 0x01
      ∷ 0x02 ∷ 0x03 ∷ 0x00 ∷ 0x02 ∷ 0x02 ∷ 0x00
      ∷ 0x03 ∷ 0x01 ∷ 0x05 ∷ 0x01 ∷ 0x02 ∷ 0x04 ∷ 0x00 ∷ 0x03
      ∷ 0x00 ∷ [];
  expected = answers (suspect_at 4 1) (suspect_at 4 1) 2 5;
}

-- one secret, input 1
abbrev pub P13 : Block
P13 = record { bytes = 0x01 ∷ 0x00 ∷ 0x02 ∷ 0x01 ∷ 0x00 ∷ 0x00 ∷ []; expected = answers clear clear 1 1 }

-- with NOT of it
abbrev pub P13_NOT : Block
P13_NOT = record {
  bytes = 0x01 ∷ 0x00 ∷ 0x02 ∷ 0x01 ∷ 0x00 ∷ 0x03 ∷ 0x00 ∷ 0x00 ∷ [];
  expected = answers (suspect_at 1 1) (suspect_at 1 1) 1 2;
}

-- variables a, b secret, then three masks; inputs 5, 4, 10, 8, 16; 5 AND(0,3), 6 XOR(5,4), 7 register 6, 8 AND(1,2),
-- 9 XOR(8,4), 10 register 9, 11 AND(0,2), 12 XOR(11,7), 13 AND(1,3), 14 XOR(13,10)
abbrev pub P14 : Block
P14 = record {
  bytes =
      0x01 ∷ 0x00 ∷ 0x01 ∷ 0x00 ∷ 0x01 ∷ 0x01 ∷ 0x01 ∷ 0x01 ∷ 0x01 ∷ 0x01
      ∷ 0x02 ∷ 0x05 ∷ 0x00 ∷ 0x02 ∷ 0x04 ∷ 0x00 ∷ 0x02 ∷ 0x0a ∷ 0x00 ∷ 0x02 ∷ 0x08 ∷ 0x00 ∷ 0x02 ∷ 0x10 ∷ 0x00
      ∷ 0x05 ∷ 0x00 ∷ 0x03 ∷ 0x04 ∷ 0x05 ∷ 0x04 ∷ 0x07 ∷ 0x06 ∷ 0x05 ∷ 0x01 ∷ 0x02 ∷ 0x04 ∷ 0x08 ∷ 0x04 ∷ 0x07 ∷ 0x09
      ∷ 0x05 ∷ 0x00 ∷ 0x02 ∷ 0x04 ∷ 0x0b ∷ 0x07 ∷ 0x05 ∷ 0x01 ∷ 0x03 ∷ 0x04 ∷ 0x0d ∷ 0x0a
      ∷ 0x00 ∷ [];
  expected = answers clear clear 5 15;
}

-- without the two registers, nodes renumbered
abbrev pub P14_without : Block
P14_without = record {
  bytes =
      0x01 ∷ 0x00 ∷ 0x01 ∷ 0x00 ∷ 0x01 ∷ 0x01 ∷ 0x01 ∷ 0x01 ∷ 0x01 ∷ 0x01
      ∷ 0x02 ∷ 0x05 ∷ 0x00 ∷ 0x02 ∷ 0x04 ∷ 0x00 ∷ 0x02 ∷ 0x0a ∷ 0x00 ∷ 0x02 ∷ 0x08 ∷ 0x00 ∷ 0x02 ∷ 0x10 ∷ 0x00
      ∷ 0x05 ∷ 0x00 ∷ 0x03 ∷ 0x04 ∷ 0x05 ∷ 0x04 ∷ 0x05 ∷ 0x01 ∷ 0x02 ∷ 0x04 ∷ 0x07 ∷ 0x04
      ∷ 0x05 ∷ 0x00 ∷ 0x02 ∷ 0x04 ∷ 0x09 ∷ 0x06 ∷ 0x05 ∷ 0x01 ∷ 0x03 ∷ 0x04 ∷ 0x0b ∷ 0x08
      ∷ 0x00 ∷ [];
  expected = answers clear (suspect_at 10 2) 5 13;
}

-- the table
abbrev pub blocks : List Block
blocks = P1 ∷ P2 ∷ P3 ∷ P4 ∷ P5 ∷ P6 ∷ P7 ∷ P8 ∷ P9 ∷ P10 ∷ P11 ∷ P12 ∷ P13 ∷ P13_NOT ∷ P14 ∷ P14_without ∷ []
