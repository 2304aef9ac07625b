-- `test_trial::kept_from` meets its contract. The invariant: `from` is the lowest number from which on, up to k, the
-- test holds. Assumes nothing.
use Prim.Native.Nat.{ℕ, ◌<◌}
use mathlib.Core.Path.{◌≡◌}
use mathlib.Core.Bool.{Bool}
use Rattle.test_trial.specs.Before.{kept_from}
use Rattle.test_trial.proofs.kept_from.Given as goal

abbrev pub invariant-loop-k : goal.invariant-loop-k
invariant-loop-k g l = (test : ℕ → Bool) → ((k : ℕ) (b : Bool) → k < l.bound → goal.F-post g l.same k b → b ≡ test k) → l.from ≡ kept_from test l.k
