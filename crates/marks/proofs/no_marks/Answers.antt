-- `marks::no_marks` meets its contract: an array of zeros is that of no marks. Assumes nothing.
use Prim.Native.Nat.{ℕ}
use Rattle.rules.specs.Records.{most_nodes}
use Rattle.netlists.proofs.Netlists.{padded_none}
use Rattle.marks.specs.Marks.{flat_marks, marks_in}
use Rattle.marks.proofs.no_marks.Goals as goal

pub returns : goal.returns
unfolding flat_marks marks_in
returns c = cc (padded_none {A = ℕ} most_nodes 0)
