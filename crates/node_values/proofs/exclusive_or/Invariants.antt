-- `node_values::exclusive_or` meets its contract. The invariant: what is summed so far, with the exclusive-or of the
-- variables from v on, is the whole. Assumes nothing.
use Prim.Native.Nat.{◌-◌}
use mathlib.Core.Path.{◌≡◌}
use mathlib.Core.Bool.{xor}
use Rattle.rules.specs.Records.{bits}
use Rattle.rules.specs.Values.{exclusive_or}
use Rattle.node_values.proofs.exclusive_or.Given as goal

abbrev pub invariant-loop-v : goal.invariant-loop-v
invariant-loop-v l =
    exclusive_or l.set (bits l.variables l.assignment) ≡ xor l.sum (exclusive_or l.s (bits (l.variables - l.v) l.x))
