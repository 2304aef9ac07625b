-- `edits::loaded_of` meets its contract: what is loaded is the first of the records (`Loaded`). Assumes nothing.
use mathlib.Core.Path.{◌∙◌}
use Rattle.edits.proofs.Loaded.{loaded_first}
use Rattle.edits.proofs.loaded_of.Goals as goal

pub returns : goal.returns
returns c = c.loaded_by.ensures ∙ loaded_first _ _ _
