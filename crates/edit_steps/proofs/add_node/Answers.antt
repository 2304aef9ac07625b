-- `edit_steps::add_node` meets its contract: a node that is offered has room and can stand at its number,
-- since its record passed the rows on these; and the addition of it, or the refusal of its record,
-- is the edit (`Adding`). Assumes nothing.
use Rattle.std.proofs.lemmas.Result.{err_from_is_err_and}
use Rattle.edit_rules.proofs.Adding.{offered_room}
use Rattle.edit_parts.proofs.Offers.{OffersNode, offers_node}
use Rattle.edit_steps.proofs.Adding.{offered_placed, offered_to, refuses, adds}
use Rattle.edit_steps.proofs.add_node.Goals as goal

pub returns-in_err-node : goal.returns-in_err-node
returns-in_err-node c =
    let p = err_from_is_err_and c.from_residual.result c.from_residual.ensures.1 in
    rw (p.1, p.2) (refuses _ _ _ _ _ _ c.in_err-node.ensures)

pub add_offered-requires : goal.add_offered-requires
add_offered-requires c =
    let o : OffersNode (offered_to c.args.loaded.block c.args.bytes.now) c.in_ok-node.node =
    offers_node _ _ c.in_ok-node.ensures in
    let limited = c.requires in
    (limited, offered_room _ _ _ _ _ _ o.is, rw o.its (offered_placed _ _ _ _ _ _ o.is limited.variables))

pub returns : goal.returns
returns c = adds _ _ _ _ _ _ _ _ (offers_node _ _ c.in_ok-node.ensures) c.add_offered.ensures
