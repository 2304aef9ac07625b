-- `records::undeclared_bit` meets its contract. Below 64 variables the shift is 2 to the power of their number and does
-- not wrap; from 64 on that power is above every number. Assumes nothing.
use borrow.Author.Tests.{lt-leb, le-ltb}
use native.Mathlib.Omega.{arith}
use Prim.Native.Nat.{◌*◌, ◌%◌, ◌^◌}
use mathlib.Core.Path.{◌≡◌}
use lib.Pow.{pow_mono, pow-lt}
use Rattle.rules.specs.Checks.{undeclared}
use Rattle.records.proofs.undeclared_bit.Goals as goal

pub returns-else-variables-lt64 : goal.returns-else-variables-lt64
unfolding undeclared
returns-else-variables-lt64 c =
    let a = c.args in
    let high = lt-leb (2 ^ a.variables) a.number (omega (arith, pow_mono c.if-variables-lt64.false, c.ranges.number)) in
    rw (le-ltb a.variables 64 c.if-variables-lt64.false, high)

pub returns-then-variables-lt64 : goal.returns-then-variables-lt64
unfolding undeclared
returns-then-variables-lt64 c =
    let v = c.args.variables in
    let exact : (1 * 2 ^ v) % 2 ^ 64 ≡ 2 ^ v = omega (arith, pow-lt c.if-variables-lt64.true) in
    rw exact
