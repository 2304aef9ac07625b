-- `query_netlists::judge` meets its contract: what is refused of the node stays refused, and then the row of the number
-- is the code's test of it. Assumes nothing.
use Prim.Native.Nat.{ℕ}
use mathlib.Core.Path.{◌≡◌, refl}
use mathlib.Core.Bool.{true, false}
use mathlib.Core.List.{List, [], ◌∷◌}
use Rattle.std.proofs.lemmas.Result.{err_from_is_err_and}
use Rattle.rules.specs.Checks.{Outcome, answered, refused, Check, check, judged, number_check}
use Rattle.netlists.proofs.Netlists.{value_variables}
use Rattle.query_netlists.proofs.judge.Goals as goal

-- a row that refuses does so whatever stands behind it, and one that passes leaves it to them
refuses : (row : Check) (rows : List Check) (k p : ℕ) → ◌≡◌ {A = Outcome (Unit {0})} (refused k p) (judged (row ∷ []) tt) → ◌≡◌ {A = Outcome (Unit {0})} (refused k p) (judged (row ∷ rows) tt)
unfolding judged
refuses (check j true q) rows k p e = e
refuses (check j false q) rows k p e = cc

passes_on : (row : Check) (rows : List Check) → ◌≡◌ {A = Outcome (Unit {0})} (answered tt) (judged (row ∷ []) tt) → ◌≡◌ {A = Outcome (Unit {0})} (judged (row ∷ rows) tt) (judged rows tt)
unfolding judged
passes_on (check j true q) rows e = cc
passes_on (check j false q) rows e = refl

pub returns-in_err-judge_node : goal.returns-in_err-judge_node
returns-in_err-judge_node c n e =
    let p = err_from_is_err_and c.from_residual.result c.from_residual.ensures.1 in
    rw (p.1, p.2) (refuses _ _ _ _ (c.in_err-judge_node.ensures n e))

pub returns-then-undeclared_bit : goal.returns-then-undeclared_bit
unfolding judged number_check
returns-then-undeclared_bit c n e =
    rw (
      passes_on _ _ (c.in_ok-judge_node.ensures n e),
      ← value_variables n e,
      ← c.undeclared_bit.ensures,
      c.if-undeclared_bit.true,
      c.at.ensures,
    )

pub returns : goal.returns
unfolding judged number_check
returns c n e =
    rw (
      passes_on _ _ (c.in_ok-judge_node.ensures n e),
      ← value_variables n e,
      ← c.undeclared_bit.ensures,
      c.if-undeclared_bit.false,
    )
