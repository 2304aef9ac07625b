-- `query_netlists::ask_with` meets its contract: the rows of the node and of the number behind the file. Assumes nothing.
use mathlib.Core.List.{[], ◌∷◌}
use Rattle.std.proofs.lemmas.Result.{err_from_is_err_and}
use Rattle.rules.specs.Checks.{read, node_check, number_check, queried_with}
use Rattle.query_netlists.proofs.Asking.{stays_refused, row_refuses, rows_passed}
use Rattle.query_netlists.proofs.ask_with.Goals as goal

pub returns-in_err-netlist : goal.returns-in_err-netlist
unfolding queried_with
returns-in_err-netlist c =
    let p = err_from_is_err_and c.from_residual.result c.from_residual.ensures.1 in
    rw (p.1, p.2) (stays_refused (read c.args.bytes.now) (λ n. node_check c.args.node n ∷ number_check c.args.number n ∷ []) c.in_err-netlist.ensures)

pub returns-in_err-judge : goal.returns-in_err-judge
unfolding queried_with
returns-in_err-judge c =
    let p = err_from_is_err_and c.from_residual-in_err-judge.result c.from_residual-in_err-judge.ensures.1 in
    rw (p.1, p.2) (row_refuses (read c.args.bytes.now) (λ n. node_check c.args.node n ∷ number_check c.args.number n ∷ []) c.in_ok-netlist.ensures c.in_err-judge.ensures)

pub returns : goal.returns
unfolding queried_with
returns c = rows_passed (read c.args.bytes.now) (λ n. node_check c.args.node n ∷ number_check c.args.number n ∷ []) c.in_ok-netlist.ensures c.in_ok-judge.ensures
