-- `queries::feeding_points` meets its contract: a refused query gives no mark, and of one that stands the feeding
-- points are marked. Assumes nothing.
use mathlib.Core.Bool.{false}
use lib.ListN.{replicate}
use Rattle.rules.specs.Records.{most_nodes}
use Rattle.rules.specs.Queries.{feeding_query}
use Rattle.rule_laws.proofs.Packing.{tabulate_constant}
use Rattle.read_bytes.proofs.Files.{read_stands}
use Rattle.query_netlists.proofs.Asking.{given_refused, given_answered, stands_formed, stands_node}
use Rattle.queries.proofs.feeding_points.Goals as goal

pub feeding_marks-requires : goal.feeding_marks-requires
feeding_marks-requires c =
    let s = read_stands _ c.in-Ok.ensures in (stands_formed _ _ s, stands_node _ _ s)

pub returns-in-Ok : goal.returns-in-Ok
unfolding feeding_query
returns-in-Ok c =
    let s = read_stands _ c.in-Ok.ensures in
    given_answered _ _ _ s _ (c.feeding_marks.ensures s.netlist s.value)

pub returns-in-Err : goal.returns-in-Err
unfolding feeding_query
returns-in-Err c =
    rw (tabulate_constant false most_nodes) (given_refused (replicate most_nodes false) _ _ c.in-Err.ensures)
