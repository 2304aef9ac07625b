-- Edits of two blocks with what each comes to, which antt computes from the definitions: every refusal, and two that
-- meet in their order; one whose counts differ after it, so that what is said of one probe after an edit is not empty;
-- a node that is used, whose removal would change another's value; and marks after an edit, with a block that is not
-- as a check leaves it for one mark. Assumes nothing.
use Prim.Native.Nat.{ℕ}
use mathlib.Core.Path.{◌≡◌, refl, ap}
use mathlib.Core.Bool.{false, true, xor}
use mathlib.Core.List.{List, [], ◌∷◌}
use native.Mathlib.Omega.{arith}
use lib.ListN.{get_or, replicate}
use Rattle.rules.specs.declared.NodeRecord.{NodeRecord}
use Rattle.rules.specs.Lists.{member, insert, union, count, without, tabulate}
use Rattle.rules.specs.Tables.{table}
use Rattle.rules.specs.Records.{secret, mask, NOT, XOR, AND, OR, register, listed, first_of, renamed_all, from_operands, Cell, input, gate, Netlist, said, size, record_bytes, body, operands, renamed, set_of, written_out, variables_out, nodes_out, kind_of, class_byte, most_nodes}
use Rattle.rules.specs.Values.{exclusive_or, value_of, value_rule, values, is_point, joined, feeding_rule, feedings, feeding, same, how_many, settings, next, others, make, matches, giving, CountsAgree}
use Rattle.rules.specs.Families.{tested, clear, suspect_at, Finding, Findings}
use Rattle.rules.specs.Checks.{Outcome, answered, refused, and_then, judged, over_limit, undeclared, undeclared_set, not_below, bad_operand, read, slices_fit, node_check, most_work}
use Rattle.rules.specs.Slices.{entry, mark_number, node_record, node_records, filled, nodes_after}
use Rattle.rules.specs.Demands.{OneProbe}
use Rattle.rules.proofs.Each.{Each}
use Rattle.rules.proofs.Blocks.{reply_to, ◌and◌}
use Rattle.rules.proofs.BlockCounts.{all_zero, p9}
use Rattle.rules.proofs.BlockOutputs.{fields}
use Rattle.edit_rules.specs.Edits.{Edit, add, remove, judged_node, lowered, without_node, uses, lowest_user, removed_if_unused, fits, edited, otherwise, netlist_after, reply_after, records_after, OpenBlock, AsChecked}

-- block A before its last gate
abbrev pub before_a : Netlist
before_a = record { variables = secret ∷ mask ∷ mask ∷ []; nodes = input 3 ∷ input 2 ∷ input 4 ∷ gate XOR (0, (2, tt)) ∷ [] }

-- a gate of each kind and a register; node 4 is used by none, node 3 by nodes 5 and 6, by the second twice
abbrev pub gates : Netlist
gates = record {
  variables = secret ∷ mask ∷ [];
  nodes = input 3 ∷ input 2 ∷ gate NOT (0, tt) ∷ gate XOR (0, (1, tt)) ∷ gate AND (2, (1, tt)) ∷ gate OR (3, (2, tt)) ∷ gate AND (3, (3, tt)) ∷ gate register (5, tt) ∷ gate NOT (7, tt) ∷ [];
}

-- ---- what an edit comes to

-- to unfold it is to compute it
unfoldable pub edited_to : Netlist → Edit → (entries work : ℕ) → Outcome Netlist
unfolding member said size record_bytes body listed first_of renamed_all renamed operands set_of and_then judged over_limit undeclared undeclared_set not_below bad_operand slices_fit node_check
    judged_node lowered without without_node uses lowest_user removed_if_unused fits edited
edited_to n e entries work = edited n e entries work

pub record Case : Type 0 where
  pub netlist : Netlist
  pub edit : Edit
  pub entries : ℕ
  pub work : ℕ
  pub expected : Outcome Netlist

abbrev pub Right : Case → Type 0
Right c = edited_to c.netlist c.edit c.entries c.work ≡ c.expected

-- an edit of a netlist in slices that hold every netlist, and in others
abbrev roomy : Netlist → Edit → Outcome Netlist → Case
roomy n e expected = record { netlist = n; edit = e; entries = most_nodes; work = most_work; expected = expected }

abbrev short : Netlist → Edit → (entries work : ℕ) → Outcome Netlist → Case
short n e entries work expected = record { netlist = n; edit = e; entries = entries; work = work; expected = expected }

-- a netlist with the variables of block A, or of the gates
abbrev masked : List Cell → Netlist
masked cells = record { variables = secret ∷ mask ∷ mask ∷ []; nodes = cells }

abbrev shared : List Cell → Netlist
shared cells = record { variables = secret ∷ mask ∷ []; nodes = cells }

-- so many copies of one input
abbrev inputs : ℕ → Netlist
inputs count = shared (replicate count (input 3))

-- Additions: each refusal of a record, in their order, and then those of the slices; each place is the number that the
-- node would have. No record offers a variable, so refusal 3 is that of the 201st node.
abbrev pub additions : List Case
additions =
    roomy before_a (add (4 ∷ 3 ∷ 1 ∷ [])) (answered p9)
    ∷ roomy p9 (add (2 ∷ 7 ∷ 0 ∷ [])) (answered (masked (input 3 ∷ input 2 ∷ input 4 ∷ gate XOR (0, (2, tt)) ∷ gate XOR (3, (1, tt)) ∷ input 7 ∷ [])))
    ∷ roomy p9 (add []) (refused 8 5)
    ∷ roomy p9 (add (0 ∷ [])) (refused 1 5)
    ∷ roomy p9 (add (1 ∷ 0 ∷ [])) (refused 1 5)
    ∷ roomy p9 (add (1 ∷ 9 ∷ 0 ∷ 0 ∷ [])) (refused 1 5)
    ∷ roomy p9 (add (8 ∷ 0 ∷ 0 ∷ 0 ∷ 0 ∷ [])) (refused 1 5)
    ∷ roomy (inputs 199) (add (2 ∷ 3 ∷ 0 ∷ [])) (answered (inputs 200))
    ∷ roomy (inputs 200) (add (2 ∷ 3 ∷ 0 ∷ [])) (refused 3 200)
    ∷ roomy (inputs 200) (add (4 ∷ 0 ∷ [])) (refused 3 200)
    ∷ roomy (inputs 200) (add (1 ∷ 0 ∷ [])) (refused 1 200)
    ∷ roomy p9 (add (4 ∷ 9 ∷ [])) (refused 4 5)
    ∷ roomy p9 (add (2 ∷ 8 ∷ 0 ∷ 0 ∷ [])) (refused 6 5)
    ∷ roomy p9 (add (3 ∷ 5 ∷ 0 ∷ [])) (refused 7 5)
    ∷ short p9 (add (7 ∷ 4 ∷ 0 ∷ [])) 0 0 (refused 9 5)
    ∷ short p9 (add (7 ∷ 4 ∷ [])) 5 0 (refused 10 6)
    ∷ short p9 (add (7 ∷ 4 ∷ [])) 6 1535 (refused 11 1536)
    ∷ short before_a (add (4 ∷ 3 ∷ 1 ∷ [])) 5 1280 (answered p9)
    ∷ []

-- Removals: 12, then the slices for the nodes that the block has, then 14. Of the gates, node 4 is used by none;
-- operands above it are lowered, and those below it are not.
abbrev pub removals : List Case
removals =
    roomy p9 (remove 4) (answered before_a)
    ∷ roomy p9 (remove 3) (refused 14 4)
    ∷ roomy p9 (remove 0) (refused 14 3)
    ∷ roomy gates (remove 3) (refused 14 5)
    ∷ roomy gates (remove 4)
    (answered (shared (input 3 ∷ input 2 ∷ gate NOT (0, tt) ∷ gate XOR (0, (1, tt)) ∷ gate OR (3, (2, tt)) ∷ gate AND (3, (3, tt)) ∷ gate register (4, tt) ∷ gate NOT (6, tt) ∷ [])))
    ∷ roomy (shared (input 1 ∷ input 2 ∷ gate NOT (1, tt) ∷ [])) (remove 0) (answered (shared (input 2 ∷ gate NOT (0, tt) ∷ [])))
    ∷ roomy (shared (input 1 ∷ [])) (remove 0) (answered (shared []))
    ∷ short p9 (remove 5) 0 0 (refused 12 5)
    ∷ short p9 (remove 3) 4 0 (refused 10 5)
    ∷ short p9 (remove 3) 5 1279 (refused 11 1280)
    ∷ short p9 (remove 4) 5 1280 (answered before_a)
    ∷ []

pub additions_right : Each Right additions
unfolding edited_to
additions_right =
    refl and refl and refl and refl and refl and refl and refl and refl and refl
    and refl and refl and refl and refl and refl and refl and refl and refl and refl and tt

pub removals_right : Each Right removals
unfolding edited_to
removals_right = refl and refl and refl and refl and refl and refl and refl and refl and refl and refl and refl and tt

-- ---- the answer after an edit

-- the last gate of block A makes its glitch half name node 4, and without it both halves are clear
abbrev found : (nodes : ℕ) (settled glitch : Finding) → Outcome Findings
found nodes settled glitch = answered (record { variables = 3; nodes = nodes; settled = settled; glitch = glitch })

pub answers : (reply_after before_a (add (4 ∷ 3 ∷ 1 ∷ [])) most_nodes most_work ≡ found 5 clear (suspect_at 4 1))
    × (reply_after p9 (remove 4) most_nodes most_work ≡ found 4 clear clear)
unfolding reply_to edited_to reply_after
answers = (refl, refl)

-- ---- counts that differ after an edit

pub a_read : read (written_out p9) ≡ answered p9
unfolding reply_to variables_out nodes_out written_out record_bytes body kind_of class_byte
a_read = refl

-- On the feeding points of node 4, beside secret 0 one mask setting gives the pattern of zeros,
-- and beside secret 1 none does.
pub counts_differ : (giving p9 (feeding p9 4) all_zero [] (false ∷ []) ≡ 1) × (giving p9 (feeding p9 4) all_zero [] (true ∷ []) ≡ 0)
unfolding member insert union count table xor exclusive_or value_of from_operands value_rule values is_point kind_of operands listed joined feeding_rule feedings feeding same how_many settings next others make matches giving
counts_differ = (refl, refl)

-- so what is said of one probe is false of the block after that addition
pub added_probe : ¬ OneProbe (written_out (netlist_after before_a (add (4 ∷ 3 ∷ 1 ∷ [])) most_nodes most_work))
unfolding edited_to otherwise netlist_after tested kind_of OneProbe CountsAgree
added_probe probe =
    let (one, none) = counts_differ in
    let same_count = probe p9 a_read 4 (record { there = omega arith; is_tested = tt }) [] (false ∷ []) (true ∷ []) all_zero in
    omega arith

-- ---- a node that is used

-- Without node 0, which its NOT uses, the NOT would be that of node 1: its value would be another.
pub used_changes : (values (shared (input 1 ∷ input 2 ∷ gate NOT (0, tt) ∷ [])) (true ∷ false ∷ []) ≡ true ∷ false ∷ false ∷ [])
    × (values (without_node (shared (input 1 ∷ input 2 ∷ gate NOT (0, tt) ∷ [])) 0) (true ∷ false ∷ []) ≡ false ∷ true ∷ [])
unfolding table xor exclusive_or value_of from_operands value_rule values lowered renamed_all renamed without without_node
used_changes = (refl, refl)

-- ---- marks after an edit

-- input 0 is the bare secret and has no mark; NOT 0 is marked in both layers and XOR 0 1 for glitches alone;
-- NOT 1, which none uses, in neither
abbrev two_marked : Netlist
two_marked = shared (input 1 ∷ input 3 ∷ gate NOT (1, tt) ∷ gate NOT (0, tt) ∷ gate XOR (0, (1, tt)) ∷ [])

-- Without NOT 1 the marks of the two nodes behind it move down with them, and the freed last entry keeps what it held;
-- the last gate of block A is marked where it is added, and nothing else is written.
pub marks_after : (records_after two_marked (remove 2) (node_records two_marked) 1280
    ≡ fields 2 0 0 1 0 0 ∷ fields 2 0 0 3 0 0 ∷ fields 3 0 0 0 1 1 ∷ fields 4 0 1 0 0 1 ∷ fields 4 0 1 0 0 1 ∷ [])
    × (records_after before_a (add (4 ∷ 3 ∷ 1 ∷ [])) (replicate 5 (fields 9 9 9 9 9 9)) 1280
    ≡ fields 2 0 0 3 0 0 ∷ fields 2 0 0 2 0 0 ∷ fields 2 0 0 4 0 0 ∷ fields 4 0 2 0 0 0 ∷ fields 4 3 1 0 0 1 ∷ [])
unfolding reply_to edited_to entry mark_number node_record node_records tabulate filled records_after
marks_after = (refl, refl)

-- Block A with its node records, but for the mark of its last gate, which is not there: it is not as a check leaves it.
abbrev unmarked_a : OpenBlock
unmarked_a = record {
  netlist = p9;
  nodes = fields 2 0 0 3 0 0 ∷ fields 2 0 0 2 0 0 ∷ fields 2 0 0 4 0 0 ∷ fields 4 0 2 0 0 0 ∷ fields 4 3 1 0 0 0 ∷ [];
  work = replicate 1280 0;
}

one_is_not_none : ¬ (◌≡◌ {A = ℕ} 1 0)
one_is_not_none e = omega arith

pub unmarked : ¬ AsChecked unmarked_a
unfolding reply_to variables_out nodes_out written_out entry mark_number node_record node_records tabulate filled nodes_after
unmarked checked = one_is_not_none (ap (λ (ns : List NodeRecord). (get_or ns 4 (fields 0 0 0 0 0 0)).glitch) checked.records)
