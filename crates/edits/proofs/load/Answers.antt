-- `edits::load` meets its contract: as many of the records are taken as the block takes of the slice (`Loaded`).
-- Assumes nothing.
use mathlib.Core.Path.{◌∙◌}
use Rattle.edits.proofs.Loaded.{loaded_first, loaded_all}
use Rattle.edits.proofs.load.Goals as goal

pub returns : goal.returns
returns c = c.loaded_by.ensures ∙ loaded_first _ _ _ ∙ rw (c.min-count.ensures, c.min.ensures) (loaded_all c.args.state c.args.nodes.now)
