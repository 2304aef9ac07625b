-- `query_netlists::ask` meets its contract: the row of the node behind the file. Assumes nothing.
use mathlib.Core.List.{[], ◌∷◌}
use Rattle.std.proofs.lemmas.Result.{err_from_is_err_and}
use Rattle.rules.specs.Checks.{read, node_check, number_check, queried}
use Rattle.query_netlists.proofs.Asking.{stays_refused, row_refuses, rows_passed}
use Rattle.query_netlists.proofs.ask.Goals as goal

pub returns-in_err-netlist : goal.returns-in_err-netlist
unfolding queried
returns-in_err-netlist c =
    let p = err_from_is_err_and c.from_residual.result c.from_residual.ensures.1 in
    rw (p.1, p.2) (stays_refused (read c.args.bytes.now) (λ n. node_check c.args.node n ∷ []) c.in_err-netlist.ensures)

pub returns-in_err-judge_node : goal.returns-in_err-judge_node
unfolding queried
returns-in_err-judge_node c =
    let p = err_from_is_err_and c.from_residual-in_err-judge_node.result c.from_residual-in_err-judge_node.ensures.1 in
    rw (p.1, p.2) (row_refuses (read c.args.bytes.now) (λ n. node_check c.args.node n ∷ []) c.in_ok-netlist.ensures c.in_err-judge_node.ensures)

pub returns : goal.returns
unfolding queried
returns c = rows_passed (read c.args.bytes.now) (λ n. node_check c.args.node n ∷ []) c.in_ok-netlist.ensures c.in_ok-judge_node.ensures
