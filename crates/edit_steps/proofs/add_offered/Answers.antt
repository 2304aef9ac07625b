-- `edit_steps::add_offered` meets its contract: the refusal of slices that are too short for one node more,
-- or the answer, which is read from the marks with those of the new node, found over the work bytes with its
-- families (`Adding`). Assumes nothing.
use mathlib.Core.Path.{refl}
use borrow.Author.Rules.{rules}
use Rattle.std.proofs.lemmas.Result.{err_from_is_err_and}
use Rattle.edit_steps.proofs.Adding.{no_room, looked}
use Rattle.edit_steps.proofs.add_offered.Goals as goal

pub returns-in_err-slices_fit : goal.returns-in_err-slices_fit
returns-in_err-slices_fit c =
    let p = err_from_is_err_and c.from_residual.result c.from_residual.ensures.1 in
    rw (p.1, p.2) (no_room _ _ _ _ _ c.in_err-slices_fit.ensures)

pub node_families-requires : goal.node_families-requires
node_families-requires c =
    let room = c.in_ok-slices_fit.ensures.room refl in
    search rules

pub with_last-requires : goal.with_last-requires
with_last-requires c =
    let room = c.in_ok-slices_fit.ensures.room refl in
    search rules

pub returns : goal.returns
returns c =
    looked _ _ _ _ _ _ _ _ _ c.in_ok-slices_fit.ensures c.requires.1
    c.with_node-longer.ensures.more.1 c.with_node-longer.ensures.value c.node_families.ensures c.with_last.ensures c.read_marks.ensures
