-- `suspect_sets::is_tested` meets its contract: of the kinds only an input is not tested. Assumes nothing.
use mathlib.Core.Path.{ap, ◌∙◌}
use mathlib.Core.Bool.{not, not-not}
use Rattle.rules.specs.Families.{tested}
use Rattle.rule_laws.proofs.Marks.{tested_kind}
use Rattle.suspect_sets.proofs.is_tested.Goals as goal

pub returns : goal.returns
returns c = λ cell e. rw (e, c.byte.ensures) (ap not (tested_kind cell) ∙ not-not (tested cell))
