-- `edit_steps::remove_if_unused` meets its contract: a node that is used stays, and else the families and marks that
-- moved down are those of the netlist without the node, and the answer is read from these marks. Assumes nothing.
use Rattle.edit_steps.proofs.Removing.{still_used, removed_unused}
use Rattle.edit_steps.proofs.remove_if_unused.Goals as goal

pub returns-in-Some : goal.returns-in-Some
returns-in-Some c =
    rw c.at.ensures (still_used _ _ _ _ _ (λ n formed e. rw c.in-Some.is at (c.lowest_user.ensures n formed e)))

pub returns : goal.returns
returns c =
    let (limited, there, room) = c.requires in
    removed_unused _ _ _ _ _ _ _ _ (λ n formed e. rw c.in_default.is at (c.lowest_user.ensures n formed e)) there limited.nodes room
    c.without_node.ensures.fewer.1 c.without_node.ensures.value c.without_marks-fewer.ensures c.move_down.ensures
    c.read_marks.ensures
