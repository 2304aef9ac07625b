-- `pairs::examine_pairs` meets its contract. The loop's invariant: what was under way where it began still is.
-- The measure is how many nodes are left. Assumes nothing.
use Rattle.std.specs.Prelude.{Ok, Err}
use mathlib.Core.Path.{sym, ◌∙◌}
use native.Mathlib.Omega.{arith}
use Rattle.std.proofs.lemmas.Result.{err_from_is_err_and}
use Rattle.pairs.specs.declared.ExaminedPairs.{ExaminedPairs}
use Rattle.pairs.proofs.Core.{of_refused, promises}
use Rattle.pairs.proofs.Underway.{whole}
use Rattle.pairs.proofs.examine_pairs.Goals as goal

pub returns-in_err-examined : goal.returns-in_err-examined
returns-in_err-examined c =
    let p = err_from_is_err_and c.from_residual.result c.from_residual.ensures.1 in
    let e = c.in_err-examined.ensures in
    let reply = of_refused _ _ c.args.limit _ _ _ e.reply in
    let q = promises _ _ c.args.limit (Err _) _ _ reply e.netlist e.marks e.work in
    rw (p.1, p.2) (record {
      reply = q.reply;
      netlist = q.netlist;
      marks = q.marks;
      work = q.work;
      clear = q.clear;
      probe = q.probe;
      pairs = q.pairs;
      probes = q.probes;
    })

pub loop-work-init : goal.loop-work-init
loop-work-init c = λ before u. u

-- what is under way at a turn of the loop is what was under way where the search began
pub further-progress-requires : goal.further-progress-requires
further-progress-requires c =
    let e = c.in_ok-examined.ensures in
    let u = c.loop-work.invariant _ (c.begin_pairs-progress.ensures _ _ c.args.limit _ _ e.reply e.netlist e.work) in
    (u.ready, u.nodes, sym c.is_done.ensures ∙ c.loop-work-test.true)

pub loop-work-smaller : goal.loop-work-smaller
loop-work-smaller c = omega (arith, c.further-progress.ensures.next)

pub loop-work-preserved : goal.loop-work-preserved
loop-work-preserved c = λ before u. c.further-progress.ensures.by_index _ _ before (c.loop-work.invariant before u)

pub returns : goal.returns
returns c =
    let e = c.in_ok-examined.ensures in
    let u = c.loop-work.invariant _ (c.begin_pairs-progress.ensures _ _ c.args.limit _ _ e.reply e.netlist e.work) in
    let both : ExaminedPairs = record { examined = c.in_ok-examined.examined; search = c.loop-work.progress.search } in
    let reply = whole _ _ _ _ _ _ _ u (sym c.is_done.ensures ∙ c.loop-work-test.false) _ e.reply in
    let q = promises _ _ c.args.limit (Ok both) _ _ reply e.netlist e.marks e.work in
    record {
      reply = q.reply;
      netlist = q.netlist;
      marks = q.marks;
      work = q.work;
      clear = q.clear;
      probe = q.probe;
      pairs = q.pairs;
      probes = q.probes;
    }
