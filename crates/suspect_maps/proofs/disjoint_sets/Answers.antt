-- `suspect_maps::disjoint_sets` meets its contract: a set with a variable from 3 on in common is left out
-- (`not_apart`), and of the others the number `APART` says it, by a test that antt computes at each two sets of
-- variables 0 to 2 (`apart_below`). Assumes nothing.
use Prim.Native.Nat.{◌^◌}
use mathlib.Core.Path.{sym, ap, ◌∙◌}
use native.Mathlib.Nat.{zero-div}
use native.Mathlib.Omega.{arith}
use Rattle.rules.specs.Records.{odd}
use Rattle.suspect_maps.proofs.Maps.{not_apart, apart_below}
use Rattle.suspect_maps.proofs.disjoint_sets.Goals as goal

pub returns-then-j-high-eq0 : goal.returns-then-j-high-eq0
returns-then-j-high-eq0 c k h = apart_below _ tt c.args.j k c.args.variables (omega arith) h c.if-j-high-eq0.true

pub returns-else-j-high-eq0 : goal.returns-else-j-high-eq0
returns-else-j-high-eq0 c k h =
    ap odd (zero-div (2 ^ k))
    ∙ sym (not_apart c.args.j k c.args.variables (omega arith) h (omega (arith, c.if-j-high-eq0.false)))
