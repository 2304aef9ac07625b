-- `marks::lowest_marked` meets its contract. The loop's invariant: the nodes passed have no mark. Assumes nothing.
use Prim.Native.Nat.{ℕ}
use mathlib.Core.Path.{◌≡◌, sym, ap, ◌∙◌}
use mathlib.Core.List.{List, map}
use mathlib.Core.Option.{none}
use mathlib.Core.Logic.{⊎_elim}
use native.Mathlib.Nat.{zero-add}
use native.Mathlib.Omega.{arith}
use lib.ListN.{get_or, get_or-eq_default}
use Rattle.rules.specs.Families.{suspect_at}
use Rattle.rules.specs.Slices.{mark_of}
use Rattle.rule_laws.proofs.Tests.{lt_or_le}
use Rattle.rule_laws.proofs.Marks.{mark_read}
use Rattle.suspects.proofs.Search.{lowest_clear, lowest_suspect}
use Rattle.marks.proofs.Layers.{mark_some}
use Rattle.marks.proofs.lowest_marked.Goals as goal

-- a node whose mark is 0 has none
none_read : (marks : List ℕ) (j : ℕ) → get_or marks j 0 ≡ 0 → get_or (map mark_of marks) j none ≡ none
unfolding mark_of
none_read marks j e = mark_read marks j ∙ ap mark_of e

pub returns-then-mark-ne0 : goal.returns-then-mark-ne0
returns-then-mark-ne0 c =
    let i = c.loop-i.i in
    ap (λ (A : ℕ). suspect_at i A) c.from.ensures
    ∙ sym
    (lowest_suspect 0 i _ _ (mark_read _ i ∙ mark_some _ c.if-mark-ne0.true) (λ j l. none_read _ j (c.loop-i.invariant j l))
    ∙ rw (zero-add i))

pub returns : goal.returns
returns c =
    sym
    (lowest_clear 0 _ (λ j. none_read _ j (⊎_elim (λ l. c.loop-i.invariant j l) (λ l. get_or-eq_default _ 0 {n = j} (omega arith)) (lt_or_le j c.loop-i.i))))
