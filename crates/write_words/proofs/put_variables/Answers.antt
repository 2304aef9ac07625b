-- `write_words::put_variables` meets its contract. The loop's invariant: the lines of the first i variables are at the
-- front. Assumes nothing.
use Prim.Native.Nat.{◌≤◌, ◌<◌}
use mathlib.Core.Path.{refl, ap}
use Rattle.std.proofs.lemmas.List.{get_or-take}
use mathlib.Core.List.{List, map}
use native.Mathlib.Omega.{arith}
use lib.ListN.{length}
use lib.Seq.{take_all}
use Rattle.rules.specs.Records.{Class, public, variable}
use Rattle.netlists.proofs.Netlists.{flat_class_at, value_variables}
use Rattle.listing_lines.proofs.Text.{appended_none, appended_more, appended_as}
use Rattle.write_words.specs.Worded.{record_lines}
use Rattle.write_words.proofs.Worded.{lines_more}
use Rattle.write_words.proofs.put_variables.Goals as goal

pub loop-class-init : goal.loop-class-init
unfolding record_lines
loop-class-init c = (omega arith, refl, λ n e. appended_none _ 0)

pub loop-class-preserved : goal.loop-class-preserved
loop-class-preserved c =
    let i = c.loop-class.class-index in
    let put = c.put_class-at.ensures in (
      omega arith,
      omega arith,
      λ n e.
          let few : i < c.args.netlist.variables = omega arith in
          let h : i < length n.variables = omega (arith, value_variables n e) in
          appended_as (lines_more variable n.variables i public h)
          (appended_more (c.loop-class.invariant.2 n e) (put.appended _ (rw (get_or-take, e) (flat_class_at n i h)))),
    )

pub returns-clause-appended : goal.returns-clause-appended
returns-clause-appended c = λ n e.
    let all : length n.variables ≤ c.loop-class.class-index = omega (arith, value_variables n e) in
    appended_as (ap (λ (variables : List Class). record_lines (map variable variables)) (take_all c.loop-class.class-index n.variables all))
    (c.loop-class.invariant.2 n e)
