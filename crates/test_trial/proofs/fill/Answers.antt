-- `test_trial::fill` meets its contract: one more byte each turn, and all at the end.
-- Assumes nothing.
use Prim.Native.Nat.{ℕ, ◌+◌, ◌≤◌, ◌<◌}
use mathlib.Core.Path.{◌≡◌, refl, sym, ap, ◌∙◌}
use mathlib.Core.List.{List}
use native.Mathlib.Numerals.{add-one}
use native.Mathlib.Omega.{arith}
use lib.ListN.{length, take, set}
use lib.Seq.{take_all, take-suc-set}
use Rattle.rules.specs.Lists.{tabulate}
use Rattle.test_trial.specs.Before.{byte_before}
use Rattle.test_trial.proofs.fill.Goals as goal

-- one more byte
next : (work : List ℕ) (k b : ℕ) → k < length work → b ≡ byte_before k → take k work ≡ tabulate byte_before k
    → take (k + 1) (set work k b) ≡ tabulate byte_before (k + 1)
unfolding tabulate
next work k b h e done = rw (add-one, take-suc-set work k b h, e, done)

-- all bytes
filled : (work : List ℕ) (k n : ℕ) → length work ≤ k → k ≤ n → length work ≡ n → take k work ≡ tabulate byte_before k → work ≡ tabulate byte_before n
filled work k n all inside long done = sym (take_all k work all) ∙ done ∙ ap (tabulate byte_before) (omega arith)

pub loop-k-init : goal.loop-k-init
unfolding tabulate
loop-k-init c = refl

pub loop-k-preserved : goal.loop-k-preserved
loop-k-preserved c = next _ _ _ (omega arith) c.byte_before.ensures c.loop-k.invariant

pub returns : goal.returns
returns c = filled _ _ _ (omega arith) (omega arith) c.loop-k.auto.work c.loop-k.invariant
