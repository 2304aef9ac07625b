-- `edit_parts::renumbered` meets its contract. The loop's invariant: the operands before the index follow, and the
-- others stand. Assumes nothing.
use Prim.Native.Nat.{ℕ}
use mathlib.Core.Path.{◌≡◌, sym, ap, ◌∙◌}
use mathlib.Core.List.{List, map}
use native.Mathlib.Omega.{arith}
use lib.ListN.{get_or, length-map, get_or-map, get_or-eq_default}
use Rattle.rules.specs.Records.{Cell, kind_of, operands, set_of, renamed, most_body}
use Rattle.rules.specs.Slices.{node_of, entry}
use Rattle.rule_laws.proofs.Operands.{kind_renamed, operands_renamed, set_renamed}
use Rattle.netlists.specs.Netlists.{padded}
use Rattle.netlists.proofs.Netlists.{padded_same}
use Rattle.netlists.proofs.Without.{all_done}
use Rattle.edit_rules.specs.Edits.{lowered}
use Rattle.edit_rules.proofs.Removal.{lowered_low}
use Rattle.edit_parts.proofs.renumbered.Goals as goal

-- each entry follows, and 0 stays
follow_at : (removed : ℕ) (l : List ℕ) (k : ℕ) → get_or (map (lowered removed) l) k 0 ≡ lowered removed (get_or l k 0)
follow_at removed l k = rw (lowered_low removed 0 (omega arith)) at (get_or-map (lowered removed) l k 0)

-- of a list of operands a record has its entries alone, so where these follow it is the renumbered node's
followed : (removed : ℕ) (cell : Cell)
    → node_of (kind_of cell) (map (lowered removed) (padded most_body 0 (operands cell))) (set_of cell) ≡ entry (renamed (lowered removed) cell)
unfolding entry
followed removed cell =
    let f = lowered removed in
    let same : (k : ℕ) → get_or (map f (padded most_body 0 (operands cell))) k 0 ≡ get_or (map f (operands cell)) k 0 = λ k.
    follow_at removed (padded most_body 0 (operands cell)) k ∙ ap f (padded_same most_body 0 (operands cell) k) ∙ sym (follow_at removed (operands cell) k) in
    rw (kind_renamed f cell, operands_renamed f cell, set_renamed f cell) (simp same)

pub returns : goal.returns
unfolding entry
returns c cell e =
    let loop = c.loop-operand in
    let own = c.operands_of-operands.result.at in
    let f = lowered c.args.removed in
    let all = all_done 0 own (map f own) loop.operand-items loop.operand-index (sym (length-map own f)) (λ k h.
    let none : get_or own k 0 ≡ 0 = get_or-eq_default own 0 {n = k} (omega arith) in
    none ∙ sym (follow_at _ own k ∙ ap f none ∙ lowered_low _ 0 (omega arith))) loop.invariant in
    c.node_of.ensures ∙ rw (all, (c.operands_of-operands.ensures.count_value cell e).1, e) (followed _ cell)
