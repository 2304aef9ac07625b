-- `queries::memberships` meets its contract: a refused query gives no for both, and of one that stands both
-- are looked up. Assumes nothing.
use Rattle.rules.specs.Queries.{membership_query}
use Rattle.read_bytes.proofs.Files.{read_stands}
use Rattle.query_netlists.proofs.Asking.{given_refused, given_answered, stands_formed, stands_node, stands_with, stands_number}
use Rattle.queries.proofs.memberships.Goals as goal

pub in_families-requires : goal.in_families-requires
in_families-requires c =
    let s = read_stands _ c.in-Ok.ensures in
    let w = stands_with _ _ _ s in
    (stands_formed _ _ w, stands_node _ _ w, stands_number _ _ _ s)

pub returns-in-Ok : goal.returns-in-Ok
unfolding membership_query
returns-in-Ok c =
    let s = read_stands _ c.in-Ok.ensures in
    let (stands, settled, glitch) = c.in_families.ensures s.netlist s.value in
    rw stands (given_answered _ _ _ s _ (rw (settled, glitch)))

pub returns-in-Err : goal.returns-in-Err
unfolding membership_query
returns-in-Err c = given_refused _ _ _ c.in-Err.ensures
