-- `marks::without_marks` meets its contract: each layer is moved. Assumes nothing.
use mathlib.Core.Path.{ap}
use Rattle.marks.specs.declared.Marks.{Marks}
use Rattle.marks.specs.Marks.{marks_in}
use Rattle.marks.proofs.without_marks.Goals as goal

pub returns : goal.returns
unfolding marks_in
returns c = λ settled glitch s g is.
    rw (
      c.without_mark.ensures settled s (ap (λ (m : Marks). m.settled) is),
      c.without_mark-2.ensures glitch g (ap (λ (m : Marks). m.glitch) is),
    )
