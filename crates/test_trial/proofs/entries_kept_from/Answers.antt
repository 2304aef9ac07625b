-- `test_trial::entries_kept_from` meets its contract: the test is of the entry that stands there. Assumes nothing.
use Rattle.std.proofs.Common.{rules}
use Prim.Native.Nat.{ℕ, ◌<◌}
use mathlib.Core.Path.{◌≡◌, ap, ◌∙◌}
use mathlib.Core.List.{List}
use native.Mathlib.Omega.{arith}
use lib.ListN.{length, get_or}
use lib.Seq.{drop-cons}
use Rattle.rules.specs.declared.NodeRecord.{NodeRecord}
use Rattle.checker.specs.Work.{unwritten}
use Rattle.test_trial.specs.Before.{entry_before, is_before}
use Rattle.test_trial.proofs.entries_kept_from.Goals as goal

-- an entry that is there does not depend on what stands for one that is not
there : (nodes : List NodeRecord) (k n : ℕ) → length nodes ≡ n → k < n → get_or nodes k unwritten ≡ get_or nodes k entry_before
there nodes k n long h = cc (drop-cons nodes k entry_before (omega arith), drop-cons nodes k unwritten (omega arith))

pub returns : goal.returns
returns c =
    let long : length c.args.nodes ≡ 200 = search rules in
    c.kept_from.ensures _ (λ k b h is.
    let found : b ≡ is_before (get_or c.args.nodes k unwritten) = search rules in
    found ∙ ap is_before (there c.args.nodes k 200 long h))
