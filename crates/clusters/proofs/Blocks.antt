-- Clusters whose counts differ, which antt computes, so that what is said of many probes is not empty: one round a gate
-- that is clear for settled signals and not for glitches, and one beyond a gate, in a block where every gate is clear.
-- And a gate that is clear, with no mark, in a block whose answer reports another. Assumes nothing.
use Prim.Native.Nat.{ℕ, ◌*◌}
use mathlib.Core.Path.{◌≡◌, refl}
use mathlib.Core.Bool.{Bool, false, true, not, xor}
use mathlib.Core.List.{List, [], ◌∷◌}
use native.Mathlib.Omega.{arith}
use lib.Dec.{T}
use lib.ListN.{replicate}
use Rattle.rules.specs.declared.NodeRecord.{NodeRecord}
use Rattle.rules.specs.Lists.{member, insert, union, count, tabulate}
use Rattle.rules.specs.Tables.{table}
use Rattle.rules.specs.Records.{secret, listed, from_operands, input, kind_of, operands, Netlist, most_nodes}
use Rattle.rules.specs.Values.{exclusive_or, value_of, value_rule, values, is_point, joined, feeding_rule, feedings, feeding, same, how_many, settings, next, others, make, Pattern, matches, giving, CountsAgree}
use Rattle.rules.specs.Families.{families_at, suspect, tested}
use Rattle.rules.specs.Families as Families
use Rattle.rules.specs.Checks.{answered, read, most_work}
use Rattle.rules.specs.Slices.{entry, mark_number, node_record, node_records, filled, nodes_after, reply}
use Rattle.rules.specs.Demands.{GlitchClear}
use Rattle.rules.specs.Blocks.{P9, P10, P13}
use Rattle.rule_laws.proofs.Members.{all_front, all_single}
use Rattle.rules.proofs.Blocks.{reply_to}
use Rattle.rules.proofs.BlockCounts.{all_zero, p9, p9_read, p10, p10_read}
use Rattle.rules.proofs.BlockOutputs.{fields}
use Rattle.clusters.specs.Clusters.{feeding_of, Round, ClearGate, ProbesRound, ManyProbes, ManyProbesEverywhere, WiresRound, ManyWires, ManyWiresEverywhere, record_of, Unmarked, RoundUnmarked}

-- to unfold this is to compute feeding points, values and counts
counted : Netlist → (points : List ℕ) → Pattern → (publics secrets : List Bool) → ℕ
unfolding member insert union count table xor exclusive_or kind_of listed operands from_operands value_of value_rule values is_point joined feeding_rule feedings feeding same how_many settings next others make matches giving
counted = giving

-- ---- gates that are clear, and one that is not

-- Gate 4 of block A is clear for settled signals, but not for glitches: its glitch family holds the secret alone.
pub a_settled_clear : (A : ℕ) → T (member A (families_at p9 4).settled) → T (not (suspect p9.variables A))
unfolding reply_to families_at
a_settled_clear = all_single (λ A. T (not (suspect p9.variables A))) 5 tt

pub a_not_clear : ¬ ClearGate p9 4
unfolding reply_to families_at ClearGate
a_not_clear clear = clear 1 tt

-- Block B is clear for glitches, and so is its gate 5.
pub b_clear : GlitchClear (reply P10.bytes most_nodes most_work)
unfolding reply_to GlitchClear
b_clear = refl

pub b_gate_clear : ClearGate p10 5
unfolding reply_to families_at ClearGate
b_gate_clear = all_front Clean 0 (7 ∷ 2 ∷ 5 ∷ []) tt (all_front Clean 7 (2 ∷ 5 ∷ []) tt (all_front Clean 2 (5 ∷ []) tt (all_single Clean 5 tt)))
  where
    Clean : ℕ → Type 0
    Clean A = T (not (suspect p10.variables A))

-- ---- a cluster beyond a gate, and clusters round a gate

-- gate 5 of block B and the inputs 1 and 0, of which input 0 does not feed gate 5
abbrev pub cluster_b : List ℕ
cluster_b = 5 ∷ 1 ∷ 0 ∷ []

pub b_not_round : ¬ Round p10 5 cluster_b
unfolding counted Round
b_not_round round = round 0 tt 0 tt

module _ (n : Netlist) (gate : ℕ) where
  abbrev Feeds : ℕ → Type 0
  Feeds p = T (member p (feeding n gate))

  abbrev Within : ℕ → Type 0
  Within i = (p : ℕ) → T (member p (feeding n i)) → Feeds p

-- gate 5 itself, register 4 and input 1 lie round it
pub b_round : Round p10 5 (5 ∷ 4 ∷ 1 ∷ [])
unfolding counted Round
b_round =
    all_front (Within p10 5) 5 (4 ∷ 1 ∷ []) (λ p t. t)
    (all_front (Within p10 5) 4 (1 ∷ []) (all_single (Feeds p10 5) 4 tt) (all_single (Within p10 5) 1 (all_single (Feeds p10 5) 1 tt)))

-- gate 3 of block A and the inputs 2 and 1: all that feeds them feeds gate 4, and no other of them has the point 1
abbrev pub cluster_a : List ℕ
cluster_a = 3 ∷ 2 ∷ 1 ∷ []

pub a_round : Round p9 4 cluster_a
unfolding counted Round
a_round =
    all_front (Within p9 4) 3 (2 ∷ 1 ∷ []) (all_front (Feeds p9 4) 0 (2 ∷ []) tt (all_single (Feeds p9 4) 2 tt))
    (all_front (Within p9 4) 2 (1 ∷ []) (all_single (Feeds p9 4) 2 tt) (all_single (Within p9 4) 1 (all_single (Feeds p9 4) 1 tt)))

-- ---- counts that differ

-- what feeds the two clusters
pub cluster_feeding : (feeding_of p9 cluster_a ≡ 0 ∷ 2 ∷ 1 ∷ []) × (feeding_of p10 cluster_b ≡ 4 ∷ 1 ∷ 0 ∷ [])
unfolding counted feeding_of
cluster_feeding = (refl, refl)

-- beside secret 0 one mask setting gives the pattern of zeros on these points, and beside secret 1 none does
abbrev pub Differ : Netlist → (points : List ℕ) → Type 0
Differ n points = (giving n points all_zero [] (false ∷ []) ≡ 1) × (giving n points all_zero [] (true ∷ []) ≡ 0)

-- so it is of both clusters, over what feeds them and over their own wires
pub a_points : Differ p9 (feeding_of p9 cluster_a)
unfolding counted feeding_of
a_points = (refl, refl)

pub a_wires : Differ p9 cluster_a
unfolding counted
a_wires = (refl, refl)

pub b_points : Differ p10 (feeding_of p10 cluster_b)
unfolding counted feeding_of
b_points = (refl, refl)

pub b_wires : Differ p10 cluster_b
unfolding counted
b_wires = (refl, refl)

-- such counts do not agree
disagree : (n : Netlist) (points : List ℕ) → Differ n points → ¬ CountsAgree n points
unfolding CountsAgree
disagree n points (one, none) agree = let same_count = agree [] (false ∷ []) (true ∷ []) all_zero in omega arith

-- Round gate 4 of block A, which is not clear, neither statement holds, so what is said of every
-- gate is false of its bytes.
pub a_probes_round : ¬ ProbesRound p9 4
unfolding ProbesRound
a_probes_round round = disagree p9 (feeding_of p9 cluster_a) a_points (round cluster_a a_round)

pub a_wires_round : ¬ WiresRound p9 4
unfolding WiresRound
a_wires_round round = disagree p9 cluster_a a_wires (round cluster_a a_round)

pub a_probes_everywhere : ¬ ManyProbesEverywhere P9.bytes
unfolding kind_of tested ManyProbesEverywhere
a_probes_everywhere everywhere = a_probes_round (everywhere p9 p9_read 4 (record { there = omega arith; is_tested = tt }))

pub a_wires_everywhere : ¬ ManyWiresEverywhere P9.bytes
unfolding kind_of tested ManyWiresEverywhere
a_wires_everywhere everywhere = a_wires_round (everywhere p9 p9_read 4 (record { there = omega arith; is_tested = tt }))

-- So a gate that is clear for settled signals is not enough: with that in its place the statement would
-- be false of the bytes of block A.
pub a_settled_not_enough : ¬ ((n : Netlist) → read P9.bytes ≡ answered n → (gate : ℕ)
    → ((A : ℕ) → T (member A (families_at n gate).settled) → T (not (suspect n.variables A))) → ProbesRound n gate)
a_settled_not_enough settled = a_probes_round (settled p9 p9_read 4 a_settled_clear)

-- Of clusters that need not lie round the gate neither statement would hold: they would be false
-- of the bytes of block B.
pub b_probes_beyond : ¬ ((n : Netlist) → read P10.bytes ≡ answered n → (gate : ℕ) → ClearGate n gate
    → (cluster : List ℕ) → CountsAgree n (feeding_of n cluster))
b_probes_beyond anywhere = disagree p10 (feeding_of p10 cluster_b) b_points (anywhere p10 p10_read 5 b_gate_clear cluster_b)

pub b_wires_beyond : ¬ ((n : Netlist) → read P10.bytes ≡ answered n → (gate : ℕ) → ClearGate n gate → (cluster : List ℕ) → CountsAgree n cluster)
b_wires_beyond anywhere = disagree p10 cluster_b b_wires (anywhere p10 p10_read 5 b_gate_clear cluster_b)

-- ---- a clear gate of a block whose answer reports another

-- The answer for block A reports gate 4, and its gate 3 is clear.
pub a_answer : reply P9.bytes most_nodes most_work
    ≡ answered (record { variables = 3; nodes = 5; settled = Families.clear; glitch = Families.suspect_at 4 1 })
unfolding reply_to
a_answer = refl

pub a_gate_clear : ClearGate p9 3
unfolding reply_to families_at ClearGate
a_gate_clear = all_front Clean 0 (3 ∷ 4 ∷ 7 ∷ []) tt (all_front Clean 3 (4 ∷ 7 ∷ []) tt (all_front Clean 4 (7 ∷ []) tt (all_single Clean 7 tt)))
  where
    Clean : ℕ → Type 0
    Clean A = T (not (suspect p9.variables A))

-- What is said of many probes is said round that gate too, of what feeds them and of the wires themselves.
pub a_probes_clear : ManyProbes P9.bytes → ProbesRound p9 3
unfolding ManyProbes
a_probes_clear many = many p9 p9_read 3 a_gate_clear

pub a_wires_clear : ManyWires P9.bytes → WiresRound p9 3
unfolding ManyWires
a_wires_clear many = many p9 p9_read 3 a_gate_clear

-- the gate itself and the inputs 2 and 0 lie round it
abbrev pub card_a : List ℕ
card_a = 3 ∷ 2 ∷ 0 ∷ []

pub a_card_round : Round p9 3 card_a
unfolding counted Round
a_card_round =
    all_front (Within p9 3) 3 (2 ∷ 0 ∷ []) (λ p t. t)
    (all_front (Within p9 3) 2 (0 ∷ []) (all_single (Feeds p9 3) 2 tt) (all_single (Within p9 3) 0 (all_single (Feeds p9 3) 0 tt)))

-- ---- by their marks

-- the node records that a check of so many nodes leaves
abbrev pub records_left : List ℕ → (nodes : ℕ) → List NodeRecord
records_left bytes nodes = nodes_after bytes (replicate nodes (fields 9 9 9 9 9 9)) (256 * nodes)

-- Gate 3 of block A has no glitch mark, so what is said of such gates says it of this one; gate 4,
-- which is not clear, has one.
pub a_unmarked : Unmarked 5 (records_left P9.bytes 5) 3
unfolding reply_to entry mark_number node_record node_records tabulate filled nodes_after
a_unmarked = record { there = omega arith; is_tested = omega arith; no_mark = refl }

pub a_round_unmarked : RoundUnmarked P9.bytes (records_left P9.bytes 5) → ClearGate p9 3 × ProbesRound p9 3 × WiresRound p9 3
unfolding RoundUnmarked
a_round_unmarked round = round p9 p9_read 3 a_unmarked

pub a_marked : ¬ Unmarked 5 (records_left P9.bytes 5) 4
unfolding reply_to entry mark_number node_record node_records tabulate filled nodes_after
a_marked unmarked = let no : ◌≡◌ {A = ℕ} 1 0 = unmarked.no_mark in omega (arith, no)

-- P13 is a bare secret. As an input it has no mark, though it is not clear: a mark tells nothing of inputs.
abbrev p13 : Netlist
p13 = record { variables = secret ∷ []; nodes = input 1 ∷ [] }

pub bare_input : (read P13.bytes ≡ answered p13) × ((record_of (records_left P13.bytes 1) 0).glitch ≡ 0) × ¬ Unmarked 1 (records_left P13.bytes 1) 0 × ¬ ClearGate p13 0
unfolding reply_to entry mark_number node_record node_records tabulate filled nodes_after families_at ClearGate
bare_input = (refl, refl, λ unmarked. omega (arith, unmarked.is_tested), λ clear. clear 1 tt)
