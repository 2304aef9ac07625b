-- `nodes::families_from` meets its contract. The invariant: the first i nodes are done, of the netlist that is checked.
-- Assumes nothing.
use Prim.Native.Nat.{ℕ, ◌+◌, ◌≤◌, ◌<◌}
use mathlib.Core.Path.{◌≡◌, sym, ◌∙◌}
use mathlib.Core.List.{List, ◌++◌}
use native.Mathlib.Omega.{arith}
use lib.ListN.{length, get_or, drop}
use Rattle.rules.specs.Records.{Cell, input, Netlist}
use Rattle.rules.specs.Families.{families_rule, families}
use Rattle.rules.specs.Slices.{entry, work_bytes}
use Rattle.netlists.specs.declared.Netlist as Value
use Rattle.netlists.specs.Netlists.{blank, flat_of, Formed}
use Rattle.netlists.proofs.Netlists.{value_count, value_entry, few_nodes, one_netlist, placed_at}
use Rattle.nodes.specs.Work.{so_far, with_families}
use Rattle.nodes.proofs.Nodes.{nodes_done, first_done, next_done, all_done}
use Rattle.nodes.proofs.families_from.Goals as goal

module _ {value : Value.Netlist} (f : Formed value) where
  next : (before work after : List ℕ) (i : ℕ) → i < value.count → work ≡ nodes_done f.netlist before i
      → ((cell : Cell) → get_or value.nodes i blank ≡ entry cell → after ≡ with_families work i (families_rule (so_far work i) cell))
      → after ≡ nodes_done f.netlist before (i + 1)
  next before work after i h e written =
      written (get_or f.netlist.nodes i (input 0)) (value_entry f.netlist f.is i h)
      ∙ rw e (next_done f.netlist f.obeys before i (omega (arith, value_count f.netlist f.is)))

  finished : (before work : List ℕ) (i : ℕ) → i ≤ value.count → value.count ≤ i → work ≡ nodes_done f.netlist before i
      → (n : Netlist) → value ≡ flat_of n → work ≡ work_bytes (families n) ++ drop (length (work_bytes (families n))) before
  finished before work i h l e n same =
      let there : i ≡ length f.netlist.nodes = omega (arith, value_count f.netlist f.is) in
      rw (← one_netlist f n same) (e ∙ rw there (all_done f.netlist before))

pub loop-i-init : goal.loop-i-init
loop-i-init c = λ f. sym (first_done f.netlist _ _ (c.requires.2 f.netlist f.is))

pub bounds-netlist-i : goal.bounds-netlist-i
bounds-netlist-i c = omega (arith, few_nodes c.requires.0.formed)

pub node_families-requires : goal.node_families-requires
node_families-requires c =
    let f = c.requires.0.formed in
    (omega (arith, c.requires.0.room), placed_at f _ c.loop-i-test.true)

pub loop-i-preserved : goal.loop-i-preserved
loop-i-preserved c = λ f. next f _ _ _ _ c.loop-i-test.true (c.loop-i.invariant f) c.node_families.ensures

pub returns : goal.returns
returns c =
    let f = c.requires.0.formed in
    finished f _ _ _ (omega (arith, c.requires.1)) c.loop-i-test.false (c.loop-i.invariant f)
