-- `edit_parts::lowest_user` meets its contract. The invariant: of the netlist's nodes none of the first j uses node i
-- (`Used`), at first since their operands are lower. Assumes nothing.
use mathlib.Core.Path.{sym, ◌∙◌}
use native.Mathlib.Omega.{arith}
use Rattle.netlists.proofs.Netlists.{value_count, value_entry}
use Rattle.edit_rules.proofs.Used.{lower_passed, uses_it, passes_it, none_uses}
use Rattle.edit_parts.proofs.lowest_user.Goals as goal

pub loop-j-init : goal.loop-j-init
loop-j-init c = λ n formed e. lower_passed _ n formed (omega (arith, value_count n e))

pub returns-then-uses : goal.returns-then-uses
returns-then-uses c n formed e =
    let named = c.uses.ensures _ (value_entry n e _ c.loop-j-test.true) in (
      omega (arith, value_count n e),
      sym (uses_it _ n.nodes _ (c.loop-j.invariant n formed e) (omega (arith, value_count n e)) (sym named ∙ c.if-uses.true)),
    )

pub loop-j-preserved : goal.loop-j-preserved
loop-j-preserved c = λ n formed e.
    let named = c.uses.ensures _ (value_entry n e _ c.loop-j-test.true) in
    passes_it _ n.nodes _ (c.loop-j.invariant n formed e) (omega (arith, value_count n e)) (sym named ∙ c.if-uses.false)

pub returns : goal.returns
returns c n formed e =
    let count = value_count n e in
    none_uses _ n.nodes _ (c.loop-j.invariant n formed e) (omega arith) (omega arith)
