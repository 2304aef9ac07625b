-- Derivations, replies and slices that antt computes from the definitions: of blocks A and B, and of small netlists
-- that show in which order rules and sets are tried. So a definition that says something else is refused here.
-- Assumes nothing.
use Prim.Native.Nat.{ℕ}
use mathlib.Core.Path.{◌≡◌, refl}
use mathlib.Core.List.{List, [], ◌∷◌, ◌++◌}
use lib.ListN.{replicate}
use Rattle.rules.specs.Records.{NOT, XOR, AND, OR, listed, mask, input, gate, Netlist}
use Rattle.rules.specs.Families.{families, families_at}
use Rattle.rules.specs.Checks.{Outcome, answered, refused, node_check, number_check, queried_with}
use Rattle.rules.specs.Slices.{filled}
use Rattle.rules.specs.Blocks.{P9}
use Rattle.rules.proofs.Blocks.{reply_to}
use Rattle.rules.proofs.BlockCounts.{p9, p10}
use Rattle.derivation_rules.specs.Derivations.{Layer, settled, glitch, layer_number, family_in, Step, step, step_bytes, steps_out, claim, way, lowest_set, rules_of, layer_below, picked, product_of, needed, first_made, chosen, explained, derivation_rule, derivation, layer_of, in_family, fitting, derived, set_check, steps_check, explainable, derivable, steps_reply, steps_after}

-- to unfold these is to compute them
derivation_of : Netlist → (i : ℕ) → Layer → (set : ℕ) → List Step
unfolding reply_to families_at family_in lowest_set listed rules_of layer_below picked product_of needed first_made chosen explained derivation_rule derivation
derivation_of = derivation

reply_of : List ℕ → (node layer set bytes : ℕ) → Outcome ℕ
unfolding derivation_of node_check number_check queried_with layer_of in_family fitting derived set_check steps_check explainable derivable steps_reply
reply_of = steps_reply

afterwards : List ℕ → (node layer set : ℕ) → (before : List ℕ) → List ℕ
unfolding reply_of filled layer_number step_bytes steps_out steps_after
afterwards = steps_after

-- ---- block A

-- The secret alone, as a glitch, by rule 6: the steps of the first operand's set, and behind
-- them those of the second's.
pub a_derivation : derivation p9 4 glitch 1 ≡ step 4 glitch 6 1 ∷ step 3 glitch 4 3 ∷ step 0 glitch 1 3 ∷ step 1 glitch 1 2 ∷ []
unfolding derivation_of
a_derivation = refl

-- four steps, for which 20 bytes are enough
pub a_reply : steps_reply P9.bytes 4 1 1 20 ≡ answered 4
unfolding reply_of
a_reply = refl

-- they are written, and what stands behind them stays
pub a_after : (x y : ℕ) → steps_after P9.bytes 4 1 1 (replicate 20 255 ++ (x ∷ y ∷ []))
    ≡ 4 ∷ 1 ∷ 6 ∷ 1 ∷ 0 ∷ 3 ∷ 1 ∷ 4 ∷ 3 ∷ 0 ∷ 0 ∷ 1 ∷ 1 ∷ 3 ∷ 0 ∷ 1 ∷ 1 ∷ 1 ∷ 2 ∷ 0 ∷ x ∷ y ∷ []
unfolding afterwards
a_after x y = refl

-- refusal 15: 19 bytes have room for three steps only
pub a_too_short : steps_reply P9.bytes 4 1 1 19 ≡ refused 15 3
unfolding reply_of
a_too_short = refl

-- refusal 16: the secret alone is not in the settled family
pub a_not_in_family : steps_reply P9.bytes 4 0 1 20 ≡ refused 16 1
unfolding reply_of
a_not_in_family = refl

-- nor is any set in a family above layer 1, not even one that both families have
pub a_no_layer : (steps_reply P9.bytes 4 0 5 25 ≡ answered 5) × (steps_reply P9.bytes 4 1 5 25 ≡ answered 5)
    × (steps_reply P9.bytes 4 2 5 25 ≡ refused 16 5)
unfolding reply_of
a_no_layer = (refl, refl, refl)

-- on a refusal the slice stays as it was
pub a_kept : (before : List ℕ) → steps_after P9.bytes 4 0 1 before ≡ before
unfolding afterwards
a_kept before = refl

-- the refusals of reading come first, then 12, 13, 16 and 15
pub a_order : (steps_reply [] 5 1 8 20 ≡ refused 8 0)
    × (steps_reply P9.bytes 5 1 8 20 ≡ refused 12 5)
    × (steps_reply P9.bytes 4 1 8 20 ≡ refused 13 8)
    × (steps_reply P9.bytes 4 0 1 0 ≡ refused 16 1)
unfolding reply_of
a_order = (refl, refl, refl, refl)

-- ---- block B

-- A register's set in the glitch layer goes by rule 2 to its operand in the settled layer.
pub b_settled : derivation p10 4 glitch 7 ≡ step 4 glitch 2 7 ∷ step 3 settled 6 7 ∷ step 0 settled 1 3 ∷ step 2 settled 1 4 ∷ []
unfolding derivation_of
b_settled = refl

-- A gate behind the register: the steps of the other operand are in the glitch layer again.
pub b_derivation : derivation p10 5 glitch 5 ≡ step 5 glitch 6 5 ∷ derivation p10 4 glitch 7 ++ (step 1 glitch 1 2 ∷ [])
unfolding derivation_of
b_derivation = refl

-- ---- the order of the rules

-- an input without a variable and one with a mask, XOR of every two of them, AND, and NOT of each
abbrev pub small : Netlist
small = record { variables = mask ∷ []; nodes = input 0 ∷ input 1 ∷ gate XOR (0, (0, tt)) ∷ gate XOR (0, (1, tt)) ∷ gate XOR (1, (0, tt)) ∷ gate XOR (1, (1, tt)) ∷ gate AND (0, (1, tt)) ∷ gate NOT (0, tt) ∷ gate NOT (1, tt) ∷ [] }

-- A settled XOR goes by rule 6, even where the set is empty, or the first or the second operand alone has it.
pub settled_xors : (derivation small 2 settled 0 ≡ step 2 settled 6 0 ∷ step 0 settled 1 0 ∷ step 0 settled 1 0 ∷ [])
    × (derivation small 4 settled 1 ≡ step 4 settled 6 1 ∷ step 1 settled 1 1 ∷ step 0 settled 1 0 ∷ [])
    × (derivation small 3 settled 1 ≡ step 3 settled 6 1 ∷ step 0 settled 1 0 ∷ step 1 settled 1 1 ∷ [])
unfolding derivation_of
settled_xors = (refl, refl, refl)

-- In the glitch layer it goes there by the rules 3, 4 and 5; and by 4 where both operands have the set.
pub glitch_xors : (derivation small 2 glitch 0 ≡ step 2 glitch 3 0 ∷ [])
    × (derivation small 4 glitch 1 ≡ step 4 glitch 4 1 ∷ step 1 glitch 1 1 ∷ [])
    × (derivation small 3 glitch 1 ≡ step 3 glitch 5 1 ∷ step 1 glitch 1 1 ∷ [])
    × (derivation small 5 glitch 1 ≡ step 5 glitch 4 1 ∷ step 1 glitch 1 1 ∷ [])
unfolding derivation_of
glitch_xors = (refl, refl, refl, refl)

-- AND has the empty set by rule 3, though its first operand has it too. In the glitch layer NOT has it by rule 2
-- if its operand has it, else by rule 3.
pub empty_sets : (derivation small 6 settled 0 ≡ step 6 settled 3 0 ∷ [])
    × (derivation small 7 glitch 0 ≡ step 7 glitch 2 0 ∷ step 0 glitch 1 0 ∷ [])
    × (derivation small 8 glitch 0 ≡ step 8 glitch 3 0 ∷ [])
unfolding derivation_of
empty_sets = (refl, refl, refl)

-- ---- the lowest set

-- three masks; two gates with the families 0, 4, 3, 7 and 0, 2, 5, 7; and XOR of them
abbrev pub two_ways : Netlist
two_ways = record { variables = mask ∷ mask ∷ mask ∷ []; nodes = input 4 ∷ input 3 ∷ input 2 ∷ input 5 ∷ gate AND (0, (1, tt)) ∷ gate OR (2, (3, tt)) ∷ gate XOR (4, (5, tt)) ∷ [] }

-- Set 1 is the difference of 3 and 2, and of 4 and 5. Rule 6 takes the lower-numbered 3, though 4 stands first in
-- the family and has fewer variables.
pub lowest_taken : (chosen (families two_ways) glitch (gate XOR (4, (5, tt))) 1 ≡ way 6 (claim 4 glitch 3 ∷ claim 5 glitch 2 ∷ []))
    × (derivation two_ways 6 glitch 1 ≡ step 6 glitch 6 1 ∷ step 4 glitch 5 3 ∷ step 1 glitch 1 3 ∷ step 5 glitch 4 2 ∷ step 2 glitch 1 2 ∷ [])
    × (derivation two_ways 6 settled 1 ≡ step 6 settled 6 1 ∷ step 4 settled 5 3 ∷ step 1 settled 1 3 ∷ step 5 settled 4 2 ∷ step 2 settled 1 2 ∷ [])
unfolding derivation_of
lowest_taken = (refl, refl, refl)

-- ---- bytes

-- node, layer, rule, and the set with its low byte first
pub set_bytes : step_bytes (step 199 settled 5 773) ≡ 199 ∷ 0 ∷ 5 ∷ 5 ∷ 3 ∷ []
unfolding layer_number step_bytes
set_bytes = refl

-- a slice takes a step for each 5 whole bytes, and no more than 512
pub room : (fitting 4 ≡ 0) × (fitting 2559 ≡ 511) × (fitting 2565 ≡ 512)
unfolding fitting
room = (refl, refl, refl)
