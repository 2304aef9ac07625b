-- `edit_steps::remove_node` meets its contract: each refusal is the one that the rules check first. Assumes nothing.
use mathlib.Core.Path.{refl, ◌∙◌}
use borrow.Author.Rules.{rules}
use Rattle.std.proofs.lemmas.Result.{err_from_is_err_and}
use Rattle.checker.proofs.Core.{too_short}
use Rattle.edit_steps.proofs.Changing.{state_count, refused_early}
use Rattle.edit_steps.proofs.Removing.{no_such_node, by_slices, removes}
use Rattle.edit_steps.proofs.remove_node.Goals as goal

pub returns-then-count-removed : goal.returns-then-count-removed
returns-then-count-removed c =
    rw c.at.ensures
    (refused_early _ _ _ _ _ _
    (λ n formed s. no_such_node _ _ _ _ n (state_count n s) c.if-count-removed.true))

pub returns-in_err-slices_fit : goal.returns-in_err-slices_fit
returns-in_err-slices_fit c =
    let p = err_from_is_err_and c.from_residual.result c.from_residual.ensures.1 in
    rw (p.1, p.2)
    (refused_early _ _ _ _ _ _
    (λ n formed s.
    by_slices _ _ _ _ n (state_count n s) c.if-count-removed.false
    ∙ too_short c.in_err-slices_fit.ensures n (state_count n s) refl))

pub remove_if_unused-requires : goal.remove_if_unused-requires
remove_if_unused-requires c =
    let room = c.in_ok-slices_fit.ensures.room refl in
    search rules

pub returns : goal.returns
returns c = removes _ _ _ _ _ _ _ c.if-count-removed.false c.in_ok-slices_fit.ensures c.remove_if_unused.ensures
