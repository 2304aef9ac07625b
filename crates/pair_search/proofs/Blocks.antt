-- Blocks under a limit, with the reply to each, which antt computes from the definitions; and one whose counts differ
-- at two probes, so that what is said of two probes is not empty. Assumes nothing.
use Prim.Native.Nat.{ℕ}
use mathlib.Core.Path.{◌≡◌, refl}
use mathlib.Core.Bool.{false, true, xor}
use mathlib.Core.List.{List, [], ◌∷◌}
use native.Mathlib.Omega.{arith}
use Rattle.rules.specs.Lists.{member, insert, union, count}
use Rattle.rules.specs.Tables.{table}
use Rattle.rules.specs.Records.{secret, mask, register, from_operands, input, gate, kind_of, Netlist, most_nodes}
use Rattle.rules.specs.Values.{exclusive_or, value_of, value_rule, values, is_point, feeding_rule, feedings, feeding, same, how_many, settings, next, others, make, matches, giving, CountsAgree}
use Rattle.rules.specs.Families.{tested, families_at, clear, suspect_at, Finding}
use Rattle.rules.specs.Checks.{Outcome, answered, refused, read, most_work}
use Rattle.rules.specs.Blocks.{P1, P2, P9, P10, P13, P13_NOT}
use Rattle.rules.proofs.Each.{Each}
use Rattle.rules.proofs.Blocks.{reply_to, ◌and◌}
use Rattle.rules.proofs.BlockCounts.{all_zero}
use Rattle.pair_search.specs.Pairs.{is_tested, tested_below, row, pairs_below, pairs, pair_family, pair_report, PairFinding, single, no_pair, pair_at, spent, onward, search_from, unless_single, searched, PairFindings, pair_findings, pairs_reply, TwoProbes}

-- the reply to a block in slices that hold every netlist; to unfold it is to compute it
unfoldable pub pairs_reply_to : List ℕ → (limit : ℕ) → Outcome PairFindings
unfolding reply_to is_tested tested_below row pairs_below pairs families_at pair_family pair_report onward search_from unless_single searched pair_findings
    pairs_reply
pairs_reply_to bytes limit = pairs_reply bytes most_nodes most_work limit

-- a block, a limit, and the reply
pub record Case : Type 0 where
  pub bytes : List ℕ
  pub limit : ℕ
  pub expected : Outcome PairFindings

-- both halves, the counts of variables and nodes, what is found and how many pairs were looked at
abbrev pub finds : (settled glitch : Finding) (variables nodes : ℕ) → PairFinding → (looked : ℕ) → Outcome PairFindings
finds s g v n f k = answered (record {
  answer = record { variables = v; nodes = n; settled = s; glitch = g };
  searched = record { found = f; looked = k };
})

abbrev pub Right : Case → Type 0
Right c = pairs_reply_to c.bytes c.limit ≡ c.expected

-- variables secret, mask; inputs 3 and 2; a register of each: they hold the two shares of the secret
abbrev pub shares : List ℕ
shares = 0x01 ∷ 0x00 ∷ 0x01 ∷ 0x01 ∷ 0x02 ∷ 0x03 ∷ 0x00 ∷ 0x02 ∷ 0x02 ∷ 0x00 ∷ 0x07 ∷ 0x00 ∷ 0x07 ∷ 0x01 ∷ 0x00 ∷ []

-- variables secret, mask, mask; inputs 3 and 4; a register of each
abbrev pub two_masks : List ℕ
two_masks =
    0x01 ∷ 0x00 ∷ 0x01 ∷ 0x01 ∷ 0x01 ∷ 0x01 ∷ 0x02 ∷ 0x03 ∷ 0x00 ∷ 0x02 ∷ 0x04 ∷ 0x00 ∷ 0x07 ∷ 0x00 ∷ 0x07 ∷ 0x01 ∷ 0x00 ∷ []

-- variables secret, secret, mask, mask; inputs 5, 10, 8 and 4; registers 4 to 7 of them: 5 and 6 hold the shares of the
-- second secret, 4 and 7 those of the first
abbrev pub two_secrets : List ℕ
two_secrets =
    0x01 ∷ 0x00 ∷ 0x01 ∷ 0x00 ∷ 0x01 ∷ 0x01 ∷ 0x01 ∷ 0x01
    ∷ 0x02 ∷ 0x05 ∷ 0x00 ∷ 0x02 ∷ 0x0a ∷ 0x00 ∷ 0x02 ∷ 0x08 ∷ 0x00 ∷ 0x02 ∷ 0x04 ∷ 0x00
    ∷ 0x07 ∷ 0x00 ∷ 0x07 ∷ 0x01 ∷ 0x07 ∷ 0x02 ∷ 0x07 ∷ 0x03
    ∷ 0x00 ∷ []

-- variables secret, public, secret, mask, mask; inputs 11, 20, 8 and 16; 4 AND(0,1), 5 AND(2,3):
-- their product holds sets 3, 4 and 7
abbrev pub three_sets : List ℕ
three_sets =
    0x01 ∷ 0x00 ∷ 0x01 ∷ 0x02 ∷ 0x01 ∷ 0x00 ∷ 0x01 ∷ 0x01 ∷ 0x01 ∷ 0x01
    ∷ 0x02 ∷ 0x0b ∷ 0x00 ∷ 0x02 ∷ 0x14 ∷ 0x00 ∷ 0x02 ∷ 0x08 ∷ 0x00 ∷ 0x02 ∷ 0x10 ∷ 0x00
    ∷ 0x05 ∷ 0x00 ∷ 0x01 ∷ 0x05 ∷ 0x02 ∷ 0x03
    ∷ 0x00 ∷ []

-- Under each limit that matters: where there is a pair, below its position and at it; where there is none,
-- below the number of pairs and at it; no pair to look at; a single suspect, for settled and glitching signals and,
-- in block A, for glitching ones alone; a refusal. Block B, which one probe does not break, falls to two.
-- Of a pair's suspect sets the one with fewest variables is reported.
abbrev pub cases : List Case
cases =
    record { bytes = shares; limit = 0; expected = finds clear clear 2 4 spent 0 }
    ∷ record { bytes = shares; limit = 1; expected = finds clear clear 2 4 (pair_at 2 3 1) 1 }
    ∷ record { bytes = shares; limit = 2; expected = finds clear clear 2 4 (pair_at 2 3 1) 1 }
    ∷ record { bytes = two_secrets; limit = 2; expected = finds clear clear 4 8 spent 2 }
    ∷ record { bytes = two_secrets; limit = 3; expected = finds clear clear 4 8 (pair_at 5 6 2) 3 }
    ∷ record { bytes = P10.bytes; limit = 3; expected = finds clear clear 3 6 (pair_at 3 5 1) 2 }
    ∷ record { bytes = three_sets; limit = 1; expected = finds clear clear 5 6 (pair_at 4 5 4) 1 }
    ∷ record { bytes = two_masks; limit = 0; expected = finds clear clear 3 4 spent 0 }
    ∷ record { bytes = two_masks; limit = 1; expected = finds clear clear 3 4 no_pair 1 }
    ∷ record { bytes = P2.bytes; limit = 0; expected = finds clear clear 0 0 no_pair 0 }
    ∷ record { bytes = P13.bytes; limit = 5; expected = finds clear clear 1 1 no_pair 0 }
    ∷ record { bytes = P13_NOT.bytes; limit = 5; expected = finds (suspect_at 1 1) (suspect_at 1 1) 1 2 (single 1 1) 0 }
    ∷ record { bytes = P9.bytes; limit = 5; expected = finds clear (suspect_at 4 1) 3 5 (single 4 1) 0 }
    ∷ record { bytes = P1.bytes; limit = 5; expected = refused 8 0 }
    ∷ []

pub replies : Each Right cases
unfolding pairs_reply_to
replies = refl and refl and refl and refl and refl and refl and refl and refl and refl and refl and refl and refl and refl and refl and tt

-- ---- counts that differ

-- the netlist that the bytes of the two shares are
abbrev pub two_shares : Netlist
two_shares = record { variables = secret ∷ mask ∷ []; nodes = input 3 ∷ input 2 ∷ gate register (0, tt) ∷ gate register (1, tt) ∷ [] }

pub shares_read : read shares ≡ answered two_shares
unfolding reply_to
shares_read = refl

-- On the points that feed both registers, beside secret 0 one mask setting gives the pattern of zeros,
-- and beside secret 1 none does.
pub counts_differ : (giving two_shares (union (feeding two_shares 2) (feeding two_shares 3)) all_zero [] (false ∷ []) ≡ 1)
    × (giving two_shares (union (feeding two_shares 2) (feeding two_shares 3)) all_zero [] (true ∷ []) ≡ 0)
unfolding member insert union count table xor kind_of exclusive_or value_of from_operands value_rule values is_point feeding_rule feedings feeding same how_many settings next others make matches giving
counts_differ = (refl, refl)

-- so what is said of two probes is false of its bytes
pub shares_probes : ¬ TwoProbes shares
unfolding kind_of tested TwoProbes CountsAgree
shares_probes probes =
    let (one, none) = counts_differ in
    let registers = probes two_shares shares_read 2 3 (record { there = omega arith; is_tested = tt }) (record { there = omega arith; is_tested = tt }) in
    let same_count = registers [] (false ∷ []) (true ∷ []) all_zero in
    omega arith
