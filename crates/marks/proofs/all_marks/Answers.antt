-- `marks::all_marks` meets its contract: those of both layers. Assumes nothing.
use Rattle.marks.specs.Marks.{marks_in}
use Rattle.marks.proofs.all_marks.Goals as goal

pub returns : goal.returns
unfolding marks_in
returns c = λ n e. rw (c.layer_marks.ensures n e, c.layer_marks-2.ensures n e)
