-- `pairs::reply_after` meets its contract: what the checker refuses is refused, and else the search stands
-- beside its answer. Assumes nothing.
use Rattle.std.proofs.lemmas.Result.{err_from_is_err_and}
use Rattle.rules.specs.Checks.{and_then}
use Rattle.pairs.proofs.Core.{of_refused}
use Rattle.pairs.proofs.Underway.{whole}
use Rattle.pairs.proofs.reply_after.Goals as goal

pub returns-in_err-answer : goal.returns-in_err-answer
unfolding and_then
returns-in_err-answer c =
    let p = err_from_is_err_and c.from_residual.result c.from_residual.ensures.1 in
    rw (p.1, p.2) (record {
      beside = rw c.in_err-answer.was;
      done = λ bytes entries limit before netlist work u e.
          of_refused _ _ _ _ _ _ (rw c.in_err-answer.was at u.replied);
    })

pub returns : goal.returns
unfolding and_then
returns c = record {
  beside = rw c.in_ok-answer.was;
  done = λ bytes entries limit before netlist work u e. whole _ _ _ _ _ _ _ u e _ (rw c.in_ok-answer.was at u.replied);
}
