-- `checker::slices_fit` meets its contract: the two rows are checked in their order. Assumes nothing.
use Prim.Native.Nat.{ℕ}
use mathlib.Core.Path.{◌≡◌}
use native.Mathlib.Omega.{arith}
use borrow.Author.Tests.{lt-ltb, le-ltb}
use Rattle.rules.specs.Checks.{and_then, judged, slices_fit}
use Rattle.checker.proofs.slices_fit.Goals as goal

pub returns-then-entries-count : goal.returns-then-entries-count
unfolding slices_fit judged and_then
returns-then-entries-count c = record { says = λ n same. rw (← same, lt-ltb _ _ c.if-entries-count.true, c.at.ensures); room = λ is. let z : ◌≡◌ {A = ℕ} 0 1 = cc in absurd (omega arith) }

pub returns-then-work-bytes : goal.returns-then-work-bytes
unfolding slices_fit judged and_then
returns-then-work-bytes c = record { says = λ n same. rw (← same, le-ltb _ _ c.if-entries-count.false, lt-ltb _ _ c.if-work-bytes.true, c.at-then-work-bytes.ensures); room = λ is. let z : ◌≡◌ {A = ℕ} 0 1 = cc in absurd (omega arith) }

pub returns : goal.returns
unfolding slices_fit judged and_then
returns c = record { says = λ n same. rw (← same, le-ltb _ _ c.if-entries-count.false, le-ltb _ _ c.if-work-bytes.false); room = λ is. (omega arith, omega arith) }
