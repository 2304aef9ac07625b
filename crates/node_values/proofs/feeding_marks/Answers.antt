-- `node_values::feeding_marks` meets its contract. The invariant: the marks lead to the points that feed the node,
-- with i nodes to go. Assumes nothing.
use Prim.Native.Nat.{ℕ, ◌+◌, ◌≤◌, ◌<◌}
use mathlib.Core.Path.{◌≡◌, ap, ◌∙◌}
use mathlib.Core.Bool.{Bool, false, true}
use mathlib.Core.List.{List}
use native.Mathlib.Omega.{arith}
use lib.ListN.{length, get_or, replicate, length-set, length-replicate}
use Rattle.rules.specs.Lists.{member, tabulate}
use Rattle.rules.specs.Records.{Cell, input, Netlist, most_nodes}
use Rattle.rules.specs.Values.{feeding}
use Rattle.rules.specs.Slices.{entry}
use Rattle.netlists.specs.declared.Netlist as Value
use Rattle.netlists.specs.Netlists.{blank, flat_of, Formed, Placed}
use Rattle.netlists.proofs.Netlists.{value_count, value_entry, few_nodes, one_netlist, placed_at, placed_later}
use Rattle.node_values.specs.Marks.{handed_on}
use Rattle.node_values.proofs.Marks.{Leads, leads_start, leads_next, leads_end, handed_length}
use Rattle.node_values.proofs.feeding_marks.Goals as goal

module _ {value : Value.Netlist} (f : Formed value) where
  inside : (i : ℕ) → i < value.count → i < length f.netlist.nodes
  inside i h = omega (arith, value_count f.netlist f.is)

  few : (i : ℕ) → i < value.count → (i < most_nodes) × Placed most_nodes (get_or value.nodes i blank)
  few i h = (omega (arith, few_nodes f), placed_later (omega (arith, few_nodes f)) (placed_at f i h))

  -- node i has handed its mark on
  module _ (marks after : List Bool) (i : ℕ) (h : i < value.count)
      (handed : (cell : Cell) → get_or value.nodes i blank ≡ entry cell → after ≡ handed_on marks i cell) where
    handed-on : after ≡ handed_on marks i (get_or f.netlist.nodes i (input 0))
    handed-on = handed _ (value_entry f.netlist f.is i h)

    same_length : length marks ≡ most_nodes → length after ≡ most_nodes
    same_length e = ap length handed-on ∙ handed_length marks i _ ∙ e

    next : (node j : ℕ) → j ≤ i + 1 → length marks ≡ most_nodes → Leads f.netlist node marks j → Leads f.netlist node after i
    next node j l e leads =
        rw handed-on (leads_next f.netlist f.obeys node marks i j (omega arith) (inside i h) (omega (arith, few_nodes f)) leads)

  finished : (node : ℕ) (marks : List Bool) (i : ℕ) → i ≤ 0 → length marks ≡ most_nodes → Leads f.netlist node marks i
      → (n : Netlist) → value ≡ flat_of n → marks ≡ tabulate (λ p. member p (feeding n node)) most_nodes
  finished node marks i none e leads n same =
      rw (← one_netlist f n same) (leads_end f.netlist most_nodes node marks i none e leads)

pub bounds-marks-node : goal.bounds-marks-node
bounds-marks-node c = omega (arith, few_nodes c.requires.0)

pub loop-i-init : goal.loop-i-init
loop-i-init c = (
  length-set (replicate most_nodes false) c.args.node true ∙ length-replicate most_nodes false,
  λ f. leads_start f.netlist most_nodes c.args.node (omega (arith, few_nodes f)) (inside f _ c.requires.1),
)

pub offset_bounds-netlist-i : goal.offset_bounds-netlist-i
offset_bounds-netlist-i c = omega (arith, few_nodes c.requires.0)

pub bounds-netlist-i : goal.bounds-netlist-i
bounds-netlist-i c = omega (arith, few_nodes c.requires.0)

pub hand_on-marks-requires : goal.hand_on-marks-requires
hand_on-marks-requires c = few c.requires.0 _ (omega arith)

pub loop-i-preserved : goal.loop-i-preserved
loop-i-preserved c =
    let f = c.requires.0 in
    let (long, leads) = c.loop-i.invariant in (
      same_length f _ _ _ (omega arith) c.hand_on-marks.ensures long,
      λ g. next g _ _ _ (omega arith) c.hand_on-marks.ensures _ _ (omega arith) long (leads g),
    )

pub returns : goal.returns
returns c n e =
    let f = c.requires.0 in
    let (long, leads) = c.loop-i.invariant in
    finished f _ _ _ c.loop-i-test.false long (leads f) n e
