-- Counts of mask settings that antt computes: a block whose counts differ, so that the statement of demand 3 is not
-- empty, one whose counts differ only where a public is 1, and one that the families refuse though its settled value
-- gives nothing away; and what feeds a gate of each kind. Assumes nothing.
use Prim.Native.Nat.{ℕ}
use mathlib.Core.Path.{◌≡◌, refl, sym, ◌∙◌}
use mathlib.Core.Bool.{Bool, true, false, not, xor, ◌&&◌, beq}
use mathlib.Core.List.{List, [], ◌∷◌}
use native.Mathlib.Omega.{arith}
use lib.ListN.{get_or}
use Rattle.rules.specs.Lists.{digit, member, insert, union, count}
use Rattle.rules.specs.Tables.{table}
use Rattle.rules.specs.Records.{secret, mask, public, NOT, XOR, AND, OR, register, listed, from_operands, input, gate, kind_of, operands, Netlist}
use Rattle.rules.specs.Values.{exclusive_or, value_of, value_rule, values, is_point, joined, feeding_rule, feedings, feeding, same, how_many, settings, next, others, make, Pattern, matches, giving, CountsAgree}
use Rattle.rules.specs.Families.{tested}
use Rattle.rules.specs.Checks.{answered, read}
use Rattle.rules.specs.Demands.{OneProbe}
use Rattle.rules.specs.Blocks.{P9, P10, P12, P14_without}
use Rattle.rules.proofs.Blocks.{reply_to}

-- ---- counts that differ

-- P14 without its registers: the netlist that its bytes are
abbrev pub p14_without : Netlist
p14_without = record {
  variables = secret ∷ secret ∷ mask ∷ mask ∷ mask ∷ [];
  nodes =
      input 5
      ∷ input 4
      ∷ input 10
      ∷ input 8
      ∷ input 16
      ∷ gate AND (0, (3, tt))
      ∷ gate XOR (5, (4, tt))
      ∷ gate AND (1, (2, tt))
      ∷ gate XOR (7, (4, tt))
      ∷ gate AND (0, (2, tt))
      ∷ gate XOR (9, (6, tt))
      ∷ gate AND (1, (3, tt))
      ∷ gate XOR (11, (8, tt))
      ∷ [];
}

pub p14_without_read : read P14_without.bytes ≡ answered p14_without
unfolding reply_to
p14_without_read = refl

-- no point has the value 1
abbrev pub all_zero : Pattern
all_zero i = false

-- its three masks have 8 settings, each of which gives the pattern on no points
pub p14_settings : giving p14_without [] all_zero [] [] ≡ 8
unfolding count settings same how_many matches giving
p14_settings = refl

-- On the feeding points of node 10, beside a = b = 0 one mask setting gives the pattern of zeros,
-- and beside a = 0, b = 1 none does.
pub counts_differ : (giving p14_without (feeding p14_without 10) all_zero [] (false ∷ false ∷ []) ≡ 1)
    × (giving p14_without (feeding p14_without 10) all_zero [] (false ∷ true ∷ []) ≡ 0)
unfolding member insert union count table xor exclusive_or value_of from_operands value_rule values is_point kind_of operands listed joined feeding_rule feedings feeding same how_many settings next others make matches giving
counts_differ = (refl, refl)

-- so the counts do not agree there
pub p14_leaks : ¬ CountsAgree p14_without (feeding p14_without 10)
unfolding CountsAgree
p14_leaks agree =
    let (one, none) = counts_differ in
    let same_count = agree [] (false ∷ false ∷ []) (false ∷ true ∷ []) all_zero in
    omega arith

-- and what demand 3 says of one probe is false of its bytes
pub p14_probe : ¬ OneProbe P14_without.bytes
unfolding tested kind_of OneProbe
p14_probe probe = p14_leaks (probe p14_without p14_without_read 10 (record { there = omega arith; is_tested = tt }))

-- ---- counts that differ only where a public is 1

-- variables secret, mask, public; inputs 3, 2 and 4; 3 AND(1,2), 4 register 3, 5 XOR(0,4): the register holds
-- the mask only where the public is 1
abbrev pub gated : List ℕ
gated =
    0x01 ∷ 0x00 ∷ 0x01 ∷ 0x01 ∷ 0x01 ∷ 0x02
    ∷ 0x02 ∷ 0x03 ∷ 0x00 ∷ 0x02 ∷ 0x02 ∷ 0x00 ∷ 0x02 ∷ 0x04 ∷ 0x00
    ∷ 0x05 ∷ 0x01 ∷ 0x02 ∷ 0x07 ∷ 0x03 ∷ 0x04 ∷ 0x00 ∷ 0x04
    ∷ 0x00 ∷ []

abbrev pub gated_netlist : Netlist
gated_netlist = record { variables = secret ∷ mask ∷ public ∷ []; nodes = input 3 ∷ input 2 ∷ input 4 ∷ gate AND (1, (2, tt)) ∷ gate register (3, tt) ∷ gate XOR (0, (4, tt)) ∷ [] }

pub gated_read : read gated ≡ answered gated_netlist
unfolding reply_to
gated_read = refl

-- Node 5 is fed by input 0 and the register. Where the public is 0, the counts there are the
-- same whatever the secret is.
pub gated_shut : (z : Pattern) (s : List Bool) → giving gated_netlist (feeding gated_netlist 5) z (false ∷ []) s ≡ digit (not (z 4))
unfolding member insert union count table xor exclusive_or value_of from_operands value_rule values is_point kind_of operands listed joined feeding_rule feedings feeding same how_many settings next others make matches giving
gated_shut z s = go (next s) (z 0) (z 4)
  where
    go : (b c d : Bool)
        → count (λ (m : List Bool). beq (get_or (values gated_netlist (b ∷ next m ∷ false ∷ [])) 0 false) c
        && (beq (get_or (values gated_netlist (b ∷ next m ∷ false ∷ [])) 4 false) d && true)) (settings 1)
        ≡ digit (not d)
    go true true true = refl
    go true true false = refl
    go true false true = refl
    go true false false = refl
    go false true true = refl
    go false true false = refl
    go false false true = refl
    go false false false = refl

-- Where it is 1, beside secret 0 one mask setting gives the pattern of zeros, and beside secret 1 none does.
pub gated_open : (giving gated_netlist (feeding gated_netlist 5) all_zero (true ∷ []) (false ∷ []) ≡ 1)
    × (giving gated_netlist (feeding gated_netlist 5) all_zero (true ∷ []) (true ∷ []) ≡ 0)
unfolding member insert union count table xor exclusive_or value_of from_operands value_rule values is_point kind_of operands listed joined feeding_rule feedings feeding same how_many settings next others make matches giving
gated_open = (refl, refl)

-- so the counts do not agree, and one probe learns of the secret
pub gated_leaks : ¬ CountsAgree gated_netlist (feeding gated_netlist 5)
unfolding CountsAgree
gated_leaks agree =
    let (one, none) = gated_open in
    let same_count = agree (true ∷ []) (false ∷ []) (true ∷ []) all_zero in
    omega arith

pub gated_probe : ¬ OneProbe gated
unfolding tested kind_of OneProbe
gated_probe probe = gated_leaks (probe gated_netlist gated_read 5 (record { there = omega arith; is_tested = tt }))

-- ---- a refused block whose settled value gives nothing away

-- P12: the netlist that its bytes are. Both halves of its answer report node 4.
abbrev pub p12 : Netlist
p12 = record { variables = secret ∷ mask ∷ []; nodes = input 3 ∷ input 2 ∷ gate NOT (1, tt) ∷ gate AND (1, (2, tt)) ∷ gate XOR (0, (3, tt)) ∷ [] }

pub p12_read : read P12.bytes ≡ answered p12
unfolding reply_to
p12_read = refl

-- each value of node 4 is given by one of the two mask settings, whatever the secret is
p12_once : (z : Pattern) (p s : List Bool) → giving p12 (4 ∷ []) z p s ≡ 1
unfolding count table xor exclusive_or value_of from_operands value_rule values same how_many settings next others make matches giving
p12_once z p s = go (next s) (z 4)
  where
    go : (b c : Bool) → count (λ (m : List Bool). beq (get_or (values p12 (b ∷ next m ∷ [])) 4 false) c && true) (settings 1) ≡ 1
    go true true = refl
    go true false = refl
    go false true = refl
    go false false = refl

pub p12_settled_clean : CountsAgree p12 (4 ∷ [])
unfolding CountsAgree
p12_settled_clean p s t z = p12_once z p s ∙ sym (p12_once z p t)

-- ---- feeding points

-- P9 and P10, blocks A and B: the netlists that their bytes are
abbrev pub p9 : Netlist
p9 = record { variables = secret ∷ mask ∷ mask ∷ []; nodes = input 3 ∷ input 2 ∷ input 4 ∷ gate XOR (0, (2, tt)) ∷ gate XOR (3, (1, tt)) ∷ [] }

pub p9_read : read P9.bytes ≡ answered p9
unfolding reply_to
p9_read = refl

abbrev pub p10 : Netlist
p10 = record {
  variables = secret ∷ mask ∷ mask ∷ [];
  nodes = input 3 ∷ input 2 ∷ input 4 ∷ gate XOR (0, (2, tt)) ∷ gate register (3, tt) ∷ gate XOR (4, (1, tt)) ∷ [];
}

pub p10_read : read P10.bytes ≡ answered p10
unfolding reply_to
p10_read = refl

-- in block B the XOR behind the register is fed by the register and by input 1, and the register by itself only
pub p10_feeding : (feeding p10 5 ≡ 4 ∷ 1 ∷ []) × (feeding p10 4 ≡ 4 ∷ [])
unfolding member insert union table is_point kind_of operands listed joined feeding_rule feedings feeding
p10_feeding = (refl, refl)

-- a gate of each kind over the inputs 0 and 1, and a register: each gate is fed through all its operands
abbrev pub gates : Netlist
gates = record { variables = []; nodes = input 0 ∷ input 0 ∷ gate NOT (1, tt) ∷ gate XOR (0, (1, tt)) ∷ gate AND (0, (1, tt)) ∷ gate OR (0, (1, tt)) ∷ gate register (5, tt) ∷ [] }

pub gates_feeding : feedings gates
    ≡ (0 ∷ []) ∷ (1 ∷ []) ∷ (1 ∷ []) ∷ (0 ∷ 1 ∷ []) ∷ (0 ∷ 1 ∷ []) ∷ (0 ∷ 1 ∷ []) ∷ (6 ∷ []) ∷ []
unfolding member insert union table is_point kind_of operands listed joined feeding_rule feedings
gates_feeding = refl
