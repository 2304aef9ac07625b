-- A run of edits of block A, each call in slices of its own lengths, which antt computes from the definitions:
-- the block is opened in one part of two arrays, removals are refused in shorter ones, and the run goes on in
-- longer ones until it is block B; and blocks that are not as a check leaves them, for want of an entry and
-- of the families. Assumes nothing.
use Prim.Native.Nat.{ℕ}
use mathlib.Core.Path.{◌≡◌, refl, ap}
use mathlib.Core.List.{List, [], ◌∷◌, ◌++◌}
use native.Mathlib.Omega.{arith}
use lib.ListN.{length, get_or, replicate}
use Rattle.rules.specs.Lists.{tabulate}
use Rattle.rules.specs.Records.{secret, mask, XOR, register, input, gate, Netlist, empty, written_out, variables_out, nodes_out}
use Rattle.rules.specs.Checks.{Outcome, answered, refused}
use Rattle.rules.specs.Slices.{entry, mark_number, node_record, node_records, packed, family_bytes, node_bytes, work_bytes, filled, nodes_after, work_after}
use Rattle.rules.specs.Blocks.{P9}
use Rattle.rules.proofs.Blocks.{reply_to}
use Rattle.rules.proofs.BlockCounts.{p9, p10}
use Rattle.rules.proofs.BlockOutputs.{fields}
use Rattle.edit_rules.specs.Edits.{Edit, add, remove, edited, otherwise, netlist_after, records_after, bytes_after, OpenBlock, Lent, lent_of, given_back, after_opening, Call, after_call, after_calls, AsChecked}
use Rattle.edit_rules.proofs.Blocks.{before_a, edited_to}

-- ---- a run in slices of many lengths

-- two arrays of seven entries and of bytes for as many nodes, which hold what a caller left there
abbrev arrays : OpenBlock
arrays = record { netlist = empty; nodes = replicate 7 (fields 9 9 9 9 9 9); work = replicate 1792 7 }

abbrev lent : (entries bytes : ℕ) → Lent
lent entries bytes = record { entries = entries; bytes = bytes }

abbrev call : Edit → (entries bytes : ℕ) → Call
call e entries bytes = record { edit = e; lent = lent entries bytes }

-- Block A is mended. Its last gate is not removed in slices too short for the five nodes that it has,
-- by an entry or by a byte; then it is, and a register is taken in its place. The gate of the register does not fit
-- the same slices, and fits longer ones.
abbrev mending : List Call
mending =
    call (remove 4) 4 1280
    ∷ call (remove 4) 5 1279
    ∷ call (remove 4) 5 1280
    ∷ call (add (7 ∷ 3 ∷ [])) 5 1280
    ∷ call (add (4 ∷ 4 ∷ 1 ∷ [])) 5 1280
    ∷ call (add (4 ∷ 4 ∷ 1 ∷ [])) 100 1536
    ∷ []

-- what each call of a run comes to
unfoldable pub outcomes : OpenBlock → List Call → List (Outcome Netlist)
outcomes b [] = []
outcomes b (c ∷ calls) =
    edited b.netlist c.edit (length (lent_of b c.lent).nodes) (length (lent_of b c.lent).work) ∷ outcomes (after_call b c) calls

pub mending_outcomes : outcomes (after_opening arrays P9.bytes (lent 5 1500)) mending
    ≡ refused 10 5
    ∷ refused 11 1280
    ∷ answered before_a
    ∷ answered (record { variables = secret ∷ mask ∷ mask ∷ []; nodes = input 3 ∷ input 2 ∷ input 4 ∷ gate XOR (0, (2, tt)) ∷ gate register (3, tt) ∷ [] })
    ∷ refused 10 6
    ∷ answered p10
    ∷ []
unfolding reply_to edited_to otherwise netlist_after records_after bytes_after node_records tabulate family_bytes node_bytes work_bytes filled nodes_after work_after
    lent_of given_back after_opening after_call outcomes
mending_outcomes = refl

-- a family whose sets are all below 8, as its bytes
abbrev family : (first : ℕ) → List ℕ
family first = first ∷ replicate 127 0

-- Block B is left in both arrays, and behind it stands what the caller left there.
abbrev mended : OpenBlock
mended = record {
  netlist = p10;
  nodes = fields 2 0 0 3 0 0 ∷ fields 2 0 0 2 0 0 ∷ fields 2 0 0 4 0 0 ∷ fields 4 0 2 0 0 0 ∷ fields 7 3 0 0 0 0 ∷ fields 4 4 1 0 0 0 ∷ fields 9 9 9 9 9 9 ∷ [];
  work = family 8 ++ family 8 ++ family 4 ++ family 4 ++ family 16 ++ family 16 ++ family 128 ++ family 153 ++ family 128 ++ family 128 ++ family 32 ++ family 165
      ++ replicate 256 7;
}

pub mending_leaves : after_calls (after_opening arrays P9.bytes (lent 5 1500)) mending ≡ mended
unfolding reply_to edited_to otherwise netlist_after records_after bytes_after entry mark_number node_record node_records tabulate packed family_bytes node_bytes work_bytes filled
    nodes_after work_after lent_of given_back after_opening after_call after_calls
mending_leaves = refl

-- ---- blocks that are not as a check leaves them

-- Block A in as many of its entries as the first call of that run was lent: were those behind it lost,
-- nothing of the block could be checked.
abbrev cut_off : OpenBlock
cut_off = record {
  netlist = p9;
  nodes = fields 2 0 0 3 0 0 ∷ fields 2 0 0 2 0 0 ∷ fields 2 0 0 4 0 0 ∷ fields 4 0 2 0 0 0 ∷ [];
  work = replicate 1280 0;
}

abbrev is_answered : {A : Type 0} → Outcome A → ℕ
is_answered (answered a) = 1
is_answered (refused k p) = 0

pub cut_off_not : ¬ AsChecked cut_off
unfolding reply_to variables_out nodes_out written_out
cut_off_not checked = let no : ◌≡◌ {A = ℕ} 0 1 = ap is_answered checked.answers in omega (arith, no)

-- Block A with its node records, and with no set in any family.
abbrev no_families : OpenBlock
no_families = record {
  netlist = p9;
  nodes = fields 2 0 0 3 0 0 ∷ fields 2 0 0 2 0 0 ∷ fields 2 0 0 4 0 0 ∷ fields 4 0 2 0 0 0 ∷ fields 4 3 1 0 0 1 ∷ [];
  work = replicate 1280 0;
}

pub no_families_not : ¬ AsChecked no_families
unfolding reply_to variables_out nodes_out written_out tabulate packed family_bytes node_bytes work_bytes filled work_after
no_families_not checked = let no : ◌≡◌ {A = ℕ} 8 0 = ap (λ (bytes : List ℕ). get_or bytes 0 0) checked.families in omega (arith, no)
