-- `queries::settled_value` meets its contract: a refused query gives 0, and one that stands the node's value among
-- those of all nodes. Assumes nothing.
use Prim.Native.Nat.{ℕ}
use mathlib.Core.Path.{◌≡◌}
use mathlib.Core.Bool.{Bool, false}
use mathlib.Core.List.{List}
use native.Mathlib.Omega.{arith}
use lib.ListN.{get_or}
use Rattle.rules.specs.Records.{most_nodes}
use Rattle.rules.specs.Queries.{value_query}
use Rattle.netlists.specs.Netlists.{padded}
use Rattle.netlists.proofs.Netlists.{padded_same, few_nodes}
use Rattle.read_bytes.proofs.Files.{read_stands}
use Rattle.query_netlists.proofs.Asking.{given_refused, given_answered, stands_formed, stands_node, stands_with}
use Rattle.queries.proofs.settled_value.Goals as goal

value-at : (all values : List Bool) (i : ℕ) → all ≡ padded most_nodes false values → get_or all i false ≡ get_or values i false
value-at all values i e = rw e (padded_same most_nodes false values i)

pub settled_values-requires : goal.settled_values-requires
settled_values-requires c = stands_formed _ _ (stands_with _ _ _ (read_stands _ c.in-Ok.ensures))

pub bounds-settled_values-node : goal.bounds-settled_values-node
bounds-settled_values-node c =
    let s = stands_with _ _ _ (read_stands _ c.in-Ok.ensures) in
    omega (arith, stands_node _ _ s, few_nodes (stands_formed _ _ s))

pub returns-in-Ok : goal.returns-in-Ok
unfolding value_query
returns-in-Ok c =
    let s = read_stands _ c.in-Ok.ensures in
    given_answered _ _ _ s _ (value-at _ _ _ (c.settled_values.ensures s.netlist s.value))

pub returns-in-Err : goal.returns-in-Err
unfolding value_query
returns-in-Err c = given_refused _ _ _ c.in-Err.ensures
