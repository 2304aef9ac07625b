-- `checker::examine` meets its contract: what is examined is what the rules admit, whether reading refuses,
-- the slices are too short, or neither. Assumes nothing.
use mathlib.Core.Path.{refl}
use Rattle.std.proofs.lemmas.Result.{err_from_is_err_and}
use Rattle.rules.specs.Checks.{read}
use Rattle.netlists.specs.Netlists.{Formed}
use Rattle.netlists.proofs.Netlists.{value_count, few_nodes}
use Rattle.read_bytes.proofs.Files.{Stands, read_stands, read_refused, read_formed}
use Rattle.checker.proofs.Core.{of_read, of_refused, short, both_hold, held, promises}
use Rattle.checker.proofs.examine.Goals as goal
use Rattle.checker.proofs.examine.Goals.{In_ok-netlist}

stands : (c : In_ok-netlist) → Stands c.in_ok-netlist.netlist (read c.args.bytes.now)
stands c = read_stands _ c.in_ok-netlist.ensures

formed : (c : In_ok-netlist) → Formed c.in_ok-netlist.netlist
formed c = read_formed _ (stands c)

pub returns-in_err-netlist : goal.returns-in_err-netlist
returns-in_err-netlist c =
    let p = err_from_is_err_and c.from_residual.result c.from_residual.ensures.1 in
    let q = promises c.args.bytes.now c.args.entries (of_refused c.args.bytes.now c.args.entries _ c.args.work.now (read_refused _ c.in_err-netlist.ensures)) in
    rw (p.1, p.2) (record { reply = q.reply; netlist = q.netlist; marks = q.marks; work = q.work; clear = q.clear; probe = q.probe })

pub slices_fit-requires : goal.slices_fit-requires
slices_fit-requires c = few_nodes (formed c)

pub returns-in_err-slices_fit : goal.returns-in_err-slices_fit
returns-in_err-slices_fit c =
    let p = err_from_is_err_and c.from_residual-in_err-slices_fit.result c.from_residual-in_err-slices_fit.ensures.1 in
    let s = read_stands _ c.in_ok-netlist.ensures in
    let none = short c.in_err-slices_fit.ensures s.netlist (value_count s.netlist s.value) in
    let q = promises c.args.bytes.now c.args.entries (of_read c.args.bytes.now c.args.entries s.netlist _ c.args.work.now _ s.is none) in
    rw (p.1, p.2) (record { reply = q.reply; netlist = q.netlist; marks = q.marks; work = q.work; clear = q.clear; probe = q.probe })

pub answer-requires : goal.answer-requires
answer-requires c =
    record { formed = read_formed _ (read_stands _ c.in_ok-netlist.ensures); room = (c.in_ok-slices_fit.ensures.room refl).1 }

pub returns : goal.returns
returns c =
    let s = read_stands _ c.in_ok-netlist.ensures in
    let both = both_hold c.in_ok-slices_fit.ensures s.netlist (value_count s.netlist s.value) refl in
    let q = promises c.args.bytes.now c.args.entries (of_read c.args.bytes.now c.args.entries s.netlist _ c.args.work.now _ s.is (held c.args.entries c.args.work.now s.netlist both (c.answer.ensures s.netlist s.value))) in
    record { reply = q.reply; netlist = q.netlist; marks = q.marks; work = q.work; clear = q.clear; probe = q.probe }
