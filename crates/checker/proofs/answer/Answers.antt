-- `checker::answer` meets its contract: the work slice holds the families of all nodes, the marks found over them are
-- the netlist's, and from these the answer is read. Assumes nothing.
use mathlib.Core.Path.{◌∙◌}
use borrow.Author.Rules.{rules}
use Rattle.netlists.proofs.Netlists.{few_variables, few_nodes, well_formed}
use Rattle.marks.proofs.Layers.{marks_there}
use Rattle.checker.proofs.Core.{answers}
use Rattle.checker.proofs.answer.Goals as goal

pub all_marks-requires : goal.all_marks-requires
all_marks-requires c =
    let ready = c.requires in
    record { variables = few_variables ready.formed; nodes = few_nodes ready.formed; room = search rules }

pub read_marks-requires : goal.read_marks-requires
read_marks-requires c = few_nodes c.requires.formed

pub returns : goal.returns
returns c =
    λ n e.
    let written = c.all_families.ensures n e in
    let found = c.all_marks.ensures n e in
    answers _ n e _ (rw written at found ∙ marks_there n (well_formed c.requires.formed n e) _) _ _ written c.read_marks.ensures
