-- `write_words::put_nodes` meets its contract. The loop's invariant: the lines of the first i nodes are behind the
-- variables'. Assumes nothing.
use Prim.Native.Nat.{◌≤◌, ◌<◌}
use mathlib.Core.Path.{refl, ap, ◌∙◌}
use Rattle.std.proofs.lemmas.List.{get_or-take}
use mathlib.Core.List.{List, map}
use native.Mathlib.Omega.{arith}
use lib.ListN.{length}
use lib.Seq.{take_all}
use Rattle.rules.specs.Records.{Cell, input, node}
use Rattle.netlists.proofs.Netlists.{value_count, value_entry}
use Rattle.listing_lines.proofs.Text.{appended_none, appended_more, appended_as}
use Rattle.write_words.specs.Worded.{record_lines}
use Rattle.write_words.proofs.Worded.{lines_more}
use Rattle.write_words.proofs.put_nodes.Goals as goal

pub loop-node-init : goal.loop-node-init
unfolding record_lines
loop-node-init c = (omega arith, refl, λ n e. appended_none _ _)

pub loop-node-preserved : goal.loop-node-preserved
loop-node-preserved c =
    let i = c.loop-node.node-index in (
      omega arith,
      omega arith,
      λ n e.
          let few : i < c.args.netlist.count = omega arith in
          let h : i < length n.nodes = omega (arith, value_count n e) in
          appended_as (lines_more node n.nodes i (input 0) h)
          (appended_more (c.loop-node.invariant.2 n e) (c.put_node-next.ensures.appended _ (get_or-take _ _ i _ few ∙ value_entry n e i few))),
    )

pub returns-clause-appended : goal.returns-clause-appended
returns-clause-appended c = λ n e.
    let all : length n.nodes ≤ c.loop-node.node-index = omega (arith, value_count n e) in
    appended_as (ap (λ (nodes : List Cell). record_lines (map node nodes)) (take_all c.loop-node.node-index n.nodes all)) (c.loop-node.invariant.2 n e)
