-- The listing, the lent slices and the queries on blocks, which antt computes from the rules: document 01's text for
-- block A, what clear is told by, a node of each kind, the bytes of a node's families, and each refusal of a query.
-- Assumes nothing.
use Prim.Native.Nat.{ℕ, ◌+◌, ◌-◌}
use mathlib.Core.Path.{◌≡◌, refl, ap}
use mathlib.Core.Bool.{true, false, xor}
use mathlib.Core.List.{List, [], ◌∷◌}
use native.Mathlib.Omega.{arith}
use lib.ListN.{get_or, replicate}
use Rattle.rules.specs.declared.NodeRecord.{NodeRecord}
use Rattle.rules.specs.Lists.{tabulate}
use Rattle.rules.specs.Records.{most_nodes, listed, from_operands, kind_of, operands, bits}
use Rattle.rules.specs.Values.{exclusive_or, value_of, value_rule, values, is_point, joined, feeding_rule, feedings, feeding}
use Rattle.rules.specs.Families.{families_at, lowest, Finding, clear, suspect_at, Findings}
use Rattle.rules.specs.Checks.{answered, refused, node_check, number_check, queried, queried_with}
use Rattle.rules.specs.Slices.{node_of, entry, mark_number, mark_of, node_record, node_records, packed, family_bytes, node_bytes, filled, nodes_after, reply, lowest_marked, FromMarks}
use Rattle.rules.specs.Listing.{word, digits, decimal, line, name_of, kind_name, node_lines, half_line, netlist_text, text_of, listing}
use Rattle.rules.specs.Queries.{Given, given, value_query, feeding_query, membership_query}
use Rattle.rules.specs.Demands.{GlitchClear, EndsClear}
use Rattle.rules.specs.Blocks.{P3, P9, P10}
use Rattle.rules.proofs.Blocks.{reply_to}
use Rattle.rules.proofs.BlockCounts.{p9}

-- A node of each kind: variables secret, mask, public; inputs 3 and 4; 2 NOT 1; 3 XOR(2,0); 4 AND(3,1);
-- 5 OR(4,0); 6 register 5.
abbrev each_kind : List ℕ
each_kind =
    0x01 ∷ 0x00 ∷ 0x01 ∷ 0x01 ∷ 0x01 ∷ 0x02
    ∷ 0x02 ∷ 0x03 ∷ 0x00 ∷ 0x02 ∷ 0x04 ∷ 0x00
    ∷ 0x03 ∷ 0x01 ∷ 0x04 ∷ 0x02 ∷ 0x00 ∷ 0x05 ∷ 0x03 ∷ 0x01 ∷ 0x06 ∷ 0x04 ∷ 0x00 ∷ 0x07 ∷ 0x05
    ∷ 0x00 ∷ []

-- ---- the listing

-- document 01's listing of block A, the line of a refusal, and a line of each kind
pub texts : (listing P9.bytes ≡ word "vars 3 nodes 5\n0 in 1 1\n1 in 1 1\n2 in 1 1\n3 xor 1 4\n4 xor 1 8\nsettled clear\nglitch 4 1\n")
    × (listing P3.bytes ≡ word "refused 9 1\n")
    × (listing each_kind
    ≡ word "vars 3 nodes 7\n0 in 1 1\n1 in 1 1\n2 not 1 2\n3 xor 1 4\n4 and 4 4\n5 or 4 4\n6 reg 4 4\nsettled clear\nglitch clear\n")
unfolding reply_to word digits decimal line name_of kind_name node_lines half_line netlist_text text_of listing
texts = (refl, refl, refl)

-- ---- clear for glitching signals

-- the node that a half names, 0 where it is clear
abbrev suspect_node : Finding → ℕ
suspect_node clear = 0
suspect_node (suspect_at i A) = i

-- block B is answered clear; block A is not, though its settled half is
pub answered_clear : GlitchClear (reply_to P10.bytes) × ¬ GlitchClear (reply_to P9.bytes)
unfolding reply_to GlitchClear
answered_clear = (refl, λ c. let no : ◌≡◌ {A = ℕ} 4 0 = ap suspect_node c in omega (arith, no))

-- and the last line of block B's listing is `glitch clear`
pub ends_clear : EndsClear P10.bytes
unfolding reply_to word digits decimal line name_of kind_name node_lines half_line netlist_text text_of listing
ends_clear = record {
  before = word "vars 3 nodes 6\n0 in 1 1\n1 in 1 1\n2 in 1 1\n3 xor 1 4\n4 reg 1 1\n5 xor 1 4\nsettled clear";
  ends = refl;
}

-- ---- the node records

-- a node record by its fields: kind, operands and set, settled and glitch mark
abbrev pub fields : (kind first second set settled glitch : ℕ) → NodeRecord
fields k a b s m g = record { node = node_of k (a ∷ b ∷ []) s; settled = m; glitch = g }

abbrev stays : NodeRecord
stays = fields 9 9 9 9 9 9

-- the entries of a netlist of seven nodes, none of which reports a set, in a slice of nine, whose last two stay;
-- and on a refusal all stay
pub records : (nodes_after each_kind (replicate 9 stays) 1792
    ≡ fields 2 0 0 3 0 0 ∷ fields 2 0 0 4 0 0 ∷ fields 3 1 0 0 0 0 ∷ fields 4 2 0 0 0 0 ∷ fields 5 3 1 0 0 0 ∷ fields 6 4 0 0 0 0 ∷ fields 7 5 0 0 0 0
    ∷ replicate 2 stays)
    × (nodes_after each_kind (replicate 9 stays) 1791 ≡ replicate 9 stays)
unfolding reply_to entry mark_number node_record node_records tabulate filled nodes_after
records = (refl, refl)

-- slices that are too short for its seven nodes: the entries are checked first, also where the
-- work bytes are too few as well
pub too_short : (reply each_kind 6 1791 ≡ refused 10 7) × (reply each_kind 6 1792 ≡ refused 10 7) × (reply each_kind 7 1791 ≡ refused 11 1792)
unfolding reply_to
too_short = (refl, refl, refl)

-- Several suspects in each layer: a secret and a mask; input 0 is the bare secret and has no mark, input 1 both;
-- 2 XOR(0,1), the mask, is marked for glitches alone; 3 NOT 0 and 4 register 3 are marked in both layers; 5 XOR(2,1),
-- the secret again, is too; 6 XOR(1,1), nothing, in neither, though its settled family is that of the empty set;
-- 7 is a register of 2, of which no mark is left, since nothing passes it but the settled mask.
abbrev pub marked : List ℕ
marked =
    0x01 ∷ 0x00 ∷ 0x01 ∷ 0x01
    ∷ 0x02 ∷ 0x01 ∷ 0x00 ∷ 0x02 ∷ 0x03 ∷ 0x00
    ∷ 0x04 ∷ 0x00 ∷ 0x01 ∷ 0x03 ∷ 0x00 ∷ 0x07 ∷ 0x03 ∷ 0x04 ∷ 0x02 ∷ 0x01 ∷ 0x04 ∷ 0x01 ∷ 0x01 ∷ 0x07 ∷ 0x02
    ∷ 0x00 ∷ []

abbrev marked_after : List NodeRecord
marked_after =
    fields 2 0 0 1 0 0 ∷ fields 2 0 0 3 0 0 ∷ fields 4 0 1 0 0 1 ∷ fields 3 0 0 0 1 1 ∷ fields 7 3 0 0 1 1 ∷ fields 4 2 1 0 1 1
    ∷ fields 4 1 1 0 0 0 ∷ fields 7 2 0 0 0 0 ∷ []

pub marked_records : nodes_after marked (replicate 8 stays) 2048 ≡ marked_after
unfolding reply_to entry mark_number node_record node_records tabulate filled nodes_after
marked_records = refl

-- The settled half is node 3 and the glitch half node 2, each the lowest marked one of its layer with its mark; of
-- those records `FromMarks` is false with the halves exchanged, with the highest marked node, and with the bare input.
abbrev halves : (settled glitch : Finding) → Findings
halves s g = record { variables = 2; nodes = 8; settled = s; glitch = g }

pub marked_answer : (reply_to marked ≡ answered (halves (suspect_at 3 1) (suspect_at 2 1))) × FromMarks (halves (suspect_at 3 1) (suspect_at 2 1)) marked_after
unfolding reply_to mark_of lowest_marked
marked_answer = (refl, record { settled = refl; glitch = refl })

pub marked_otherwise : ¬ FromMarks (halves (suspect_at 2 1) (suspect_at 3 1)) marked_after × ¬ FromMarks (halves (suspect_at 5 1) (suspect_at 2 1)) marked_after
    × ¬ FromMarks (halves (suspect_at 0 1) (suspect_at 0 1)) marked_after
unfolding lowest mark_of lowest_marked
marked_otherwise = (
  λ m. let no : ◌≡◌ {A = ℕ} 2 3 = ap suspect_node m.settled in omega (arith, no),
  λ m. let no : ◌≡◌ {A = ℕ} 5 3 = ap suspect_node m.settled in omega (arith, no),
  λ m. let no : ◌≡◌ {A = ℕ} 0 3 = ap suspect_node m.settled in omega (arith, no),
)

-- ---- the work bytes

-- Node 3 of block A holds set 7 alone for settled signals, which is bit 7 of its byte 0, and sets 0, 3, 4 and 7 for
-- glitching ones, which are bits of its byte 128.
pub bytes_of_A : (get_or (node_bytes (families_at p9 3)) 0 0 ≡ 128) × (get_or (node_bytes (families_at p9 3)) 128 0 ≡ 1 + 8 + 16 + 128)
unfolding reply_to families_at tabulate packed family_bytes node_bytes
bytes_of_A = (refl, refl)

-- ---- queries

-- a query that is answered, and one that is refused
abbrev gave : {A : Type 0} → A → Given A
gave a = record { outcome = answered tt; gives = a }

abbrev refusing : {A : Type 0} → ℕ → ℕ → A → Given A
refusing k p a = record { outcome = refused k p; gives = a }

-- Node 4 of block A is the exclusive-or of the secret and the second mask. Node 5 is not there, which is checked first,
-- and assignment 8 has the bit of a fourth variable.
pub values_of_A : (value_query P9.bytes 4 1 ≡ gave true) × (value_query P9.bytes 4 5 ≡ gave false)
    × (value_query P9.bytes 5 8 ≡ refusing 12 5 false) × (value_query P9.bytes 4 8 ≡ refusing 13 8 false)
    × (value_query P3.bytes 0 0 ≡ refusing 9 1 false)
unfolding reply_to bits xor exclusive_or value_of from_operands value_rule values node_check number_check queried_with given value_query
values_of_A = (refl, refl, refl, refl, refl)

-- the values of a node of each kind, where the secret and the public are 1, where the public alone is,
-- and where the secret alone is
pub values_of_each_kind : (tabulate (λ i. (value_query each_kind i 5).gives) 7 ≡ true ∷ true ∷ false ∷ true ∷ true ∷ true ∷ true ∷ [])
    × (tabulate (λ i. (value_query each_kind i 4).gives) 7 ≡ false ∷ true ∷ false ∷ false ∷ false ∷ false ∷ false ∷ [])
    × (tabulate (λ i. (value_query each_kind i 1).gives) 7 ≡ true ∷ false ∷ true ∷ false ∷ false ∷ true ∷ true ∷ [])
unfolding reply_to bits xor exclusive_or value_of from_operands value_rule values node_check number_check queried_with given value_query tabulate
values_of_each_kind = (refl, refl, refl)

-- node 5 of block B is fed by input 1 and register 4
pub points_of_B : (feeding_query P10.bytes 5 ≡ gave (false ∷ true ∷ false ∷ false ∷ true ∷ replicate (most_nodes - 5) false))
    × (feeding_query P10.bytes 6 ≡ refusing 12 6 (replicate most_nodes false))
unfolding reply_to tabulate is_point kind_of operands listed joined feeding_rule feedings feeding node_check queried given feeding_query
points_of_B = (refl, refl)

-- set 3 is in the glitch family of node 3 of block A, and not in its settled family
pub sets_of_A : (membership_query P9.bytes 3 3 ≡ gave (record { settled = false; glitch = true }))
    × (membership_query P9.bytes 3 7 ≡ gave (record { settled = true; glitch = true }))
    × (membership_query P9.bytes 3 8 ≡ refusing 13 8 (record { settled = false; glitch = false }))
unfolding reply_to families_at node_check number_check queried_with given membership_query
sets_of_A = (refl, refl, refl)
