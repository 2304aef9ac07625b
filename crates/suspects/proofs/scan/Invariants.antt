-- `suspects::scan` meets its contract. The nodes' loop: the nodes passed, from the first one scanned on,
-- report nothing. The loop in it: the sets at the places passed are not suspect members of the node's family.
-- Assumes nothing.
use Prim.Native.Nat.{ℕ, ◌<◌}
use mathlib.Core.Path.{◌≡◌}
use mathlib.Core.Bool.{false}
use Rattle.rules.specs.Records as Records
use Rattle.netlists.specs.Netlists.{flat_of}
use Rattle.families.specs.Layers.{number_of}
use Rattle.set_order.specs.Order.{set_at}
use Rattle.suspects.proofs.Search.{suspect_in, Passed}
use Rattle.suspects.proofs.scan.Given as goal

abbrev pub invariant-loop-set : goal.invariant-loop-set
invariant-loop-set l =
    (n : Records.Netlist) → l.netlist ≡ flat_of n → (k : ℕ) → k < l.set-index → suspect_in n (number_of l.layer) l.work l.i (set_at k) ≡ false

abbrev pub invariant-loop-i : goal.invariant-loop-i
invariant-loop-i l = (n : Records.Netlist) → l.netlist ≡ flat_of n → Passed n (number_of l.layer) l.work l.from l.i
