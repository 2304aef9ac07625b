-- `derive_read` meets its contract: `most_work` bytes have room for the families of every netlist, and hold them once they
-- are written. Assumes nothing.
use Prim.Native.Nat.{ℕ}
use borrow.Author.Rules.{rules}
use lib.ListN.{length-replicate}
use Rattle.rules.specs.Checks.{most_work}
use Rattle.netlists.proofs.Netlists.{all_ready}
use Rattle.derivations.proofs.derive_read.Goals as goal

pub all_families-requires : goal.all_families-requires
all_families-requires c = all_ready c.requires _ (length-replicate {A = ℕ} most_work 0)

pub derive_held-requires : goal.derive_held-requires
derive_held-requires c =
    let f = c.requires in
    record { formed = f; rest = _; held = c.all_families.ensures f.netlist f.is; size = search rules }

pub returns : goal.returns
returns c =
    let held = c.derive_held.ensures in
    record { reply = held.reply; steps = held.steps; follows = held.follows; most = held.most }
