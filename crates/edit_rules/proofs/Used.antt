-- The search for the lowest node that uses a node, in file order: none of the first j does, so that it is found
-- among the others. Assumes nothing.
use Prim.Native.Nat.{ℕ, zero, suc, ◌+◌, ◌≤◌, ◌<◌}
use mathlib.Core.Path.{◌≡◌, sym, subst}
use mathlib.Core.Bool.{true, false, cond}
use mathlib.Core.List.{List}
use native.Mathlib.Nat.{zero-add}
use native.Mathlib.Numerals.{add-one}
use native.Mathlib.Omega.{arith}
use lib.ListN.{length, get_or, drop, drop_of_length-le}
use lib.Seq.{drop-cons}
use Rattle.rules.specs.Records.{Cell, input, Netlist, WellFormed}
use Rattle.rule_laws.proofs.Tests.{same_test}
use Rattle.edit_rules.specs.Edits.{uses, lowest_user}

module _ (i : ℕ) (nodes : List Cell) where
  -- none of the first j nodes uses node i
  abbrev pub Passed : (j : ℕ) → Type 0
  Passed j = lowest_user i nodes ≡ j + lowest_user i (drop j nodes)

  none_passed : Passed 0
  none_passed = sym (zero-add (lowest_user i nodes))

  module _ (j : ℕ) (passed : Passed j) where
    -- by the node j
    at : j < length nodes → lowest_user i (drop j nodes) ≡ cond (uses i (get_or nodes j (input 0))) 0 (suc (lowest_user i (drop (j + 1) nodes)))
    unfolding lowest_user
    at h = rw (add-one, drop-cons nodes j (input 0) h)

    pub uses_it : j < length nodes → uses i (get_or nodes j (input 0)) ≡ true → lowest_user i nodes ≡ j
    uses_it h e = let here = rw e at (at h) in omega arith

    pub passes_it : j < length nodes → uses i (get_or nodes j (input 0)) ≡ false → Passed (j + 1)
    passes_it h e = let on = rw e at (at h) in omega arith

    pub none_uses : length nodes ≤ j → j ≤ length nodes → lowest_user i nodes ≡ length nodes
    unfolding lowest_user
    none_uses h l = let over : lowest_user i (drop j nodes) ≡ 0 = rw (drop_of_length-le nodes h) in omega arith

-- operands are lower, so that no node up to i uses node i
pub lower_passed : (i : ℕ) (n : Netlist) → WellFormed n → i < length n.nodes → Passed i n.nodes (i + 1)
unfolding uses
lower_passed i n formed h = up_to (i + 1) (omega arith)
  where
    up_to : (j : ℕ) → j ≤ i + 1 → Passed i n.nodes j
    up_to zero l = none_passed i n.nodes
    up_to (suc j) l =
        subst (Passed i n.nodes) (add-one j)
        (passes_it i n.nodes j (up_to j (omega arith)) (omega arith)
        (same_test _ false (λ t. absurd (omega (arith, formed.lower j (omega arith) i t))) (λ t. absurd t)))
