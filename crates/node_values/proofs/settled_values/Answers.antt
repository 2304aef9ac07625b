-- `node_values::settled_values` meets its contract. The invariant: the values of the first i nodes stand, of the
-- netlist that is asked, and beyond them all is 0. A value beyond the table is 0 as well, so the rule gives of either list the
-- same. Assumes nothing.
use Prim.Native.Nat.{ℕ, ◌+◌, ◌≤◌, ◌<◌}
use mathlib.Core.Path.{◌≡◌, refl, sym, ◌∙◌}
use mathlib.Core.Bool.{Bool, false}
use mathlib.Core.List.{List}
use native.Mathlib.Omega.{arith}
use lib.ListN.{length, get_or, set, replicate, length-set, length-replicate}
use lib.Seq.{take_all}
use Rattle.rules.specs.Tables.{table}
use Rattle.rules.specs.Records.{operand_count, Cell, input, gate, Netlist, bits, most_nodes}
use Rattle.rules.specs.Values.{Assignment, value_of, value_rule, values}
use Rattle.rules.specs.Slices.{entry}
use Rattle.rule_laws.proofs.Operands.{from_same}
use Rattle.rule_laws.proofs.Tables.{first_length, first_next}
use Rattle.netlists.specs.declared.Netlist as Value
use Rattle.netlists.specs.Netlists.{padded, blank, flat_of, Formed}
use Rattle.netlists.proofs.Netlists.{padded_none, padded_set, padded_same, value_variables, value_count, value_entry, few_nodes, one_netlist, placed_at, placed_operand, placed_later}
use Rattle.node_values.proofs.settled_values.Invariants.{first, under, valuesDone}
use Rattle.node_values.proofs.settled_values.Goals as goal

-- ---- the rule over a padded list

rule-padded : (x : Assignment) (k : ℕ) (done : List Bool) (cell : Cell) → value_rule x (padded k false done) cell ≡ value_rule x done cell
unfolding value_rule
rule-padded x k done (input s) = refl
rule-padded x k done (gate kind ops) =
    from_same (operand_count kind) (value_of kind) (λ a. get_or (padded k false done) a false) (λ a. get_or done a false) ops (λ a t. padded_same k false done a)

module _ (n : Netlist) (x : Assignment) where
  none_first : (k : ℕ) → replicate k false ≡ padded k false (first n x 0)
  unfolding table
  none_first k = sym (padded_none k false)

  all_first : (i : ℕ) → length n.nodes ≤ i → first n x i ≡ values n x
  unfolding values
  all_first i h = rw (take_all i n.nodes h)

-- ---- a netlist by value

module _ {value : Value.Netlist} (f : Formed value) where
  next : (x : ℕ) (done : List Bool) (i : ℕ) (r : Bool) → i < value.count → done ≡ valuesDone f.netlist x i
      → ((cell : Cell) → get_or value.nodes i blank ≡ entry cell → r ≡ value_rule (bits value.variables x) done cell)
      → set done i r ≡ valuesDone f.netlist x (i + 1)
  next x done i r h e is =
      let n = f.netlist in
      let own = get_or n.nodes i (input 0) in
      let before = first n (under n x) i in
      let here : i < length n.nodes = omega (arith, value_count n f.is) in
      let value : r ≡ value_rule (under n x) before own =
      is own (value_entry n f.is i h) ∙ rw (value_variables n f.is, e) (rule-padded (under n x) most_nodes before own) in
      let long : length before ≡ i = first_length (value_rule (under n x)) n.nodes i (omega arith) in
      let stored = padded_set most_nodes false before r (omega (arith, f.obeys.few_nodes)) in
      rw (e, ← first_next (value_rule (under n x)) n.nodes i (input 0) here, ← value) (rw long at stored)

  finished : (x : ℕ) (done : List Bool) (i : ℕ) → value.count ≤ i → done ≡ valuesDone f.netlist x i
      → (n : Netlist) → value ≡ flat_of n → done ≡ padded most_nodes false (values n (under n x))
  finished x done i h e n same =
      let own = f.netlist in
      let all : length own.nodes ≤ i = omega (arith, value_count own f.is) in
      rw (← one_netlist f n same, ← all_first own (under own x) i all) e

pub loop-i-init : goal.loop-i-init
loop-i-init c = (length-replicate most_nodes false, λ f. none_first f.netlist _ most_nodes)

pub offset_bounds-netlist-i : goal.offset_bounds-netlist-i
offset_bounds-netlist-i c = omega (arith, few_nodes c.requires)

pub bounds-netlist-i : goal.bounds-netlist-i
bounds-netlist-i c = omega (arith, few_nodes c.requires)

pub value_from-requires : goal.value_from-requires
value_from-requires c =
    let p = placed_later (few_nodes c.requires) (placed_later (omega arith) (placed_at c.requires _ c.loop-i-test.true)) in
    let lower = placed_operand p (omega arith) in
    rw (c.loop-i.invariant.0, p.is) (unfold entry in (lower 0, lower 1))

pub bounds-values-i : goal.bounds-values-i
bounds-values-i c = omega (arith, few_nodes c.requires)

pub loop-i-preserved : goal.loop-i-preserved
loop-i-preserved c = (
  simp length-set c.loop-i.invariant.0,
  λ f. next f _ _ _ _ c.loop-i-test.true (c.loop-i.invariant.1 f) c.value_from.ensures,
)

pub returns : goal.returns
returns c = finished c.requires _ _ _ c.loop-i-test.false (c.loop-i.invariant.1 c.requires)
