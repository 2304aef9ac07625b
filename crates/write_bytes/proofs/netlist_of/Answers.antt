-- `write_bytes::netlist_of` meets its contract: what is loaded of an open block is its netlist by value.
-- Assumes nothing.
use Rattle.std.proofs.Common.{◌∙◌, ap, arith, Some}
use Rattle.edit_steps.specs.declared.Loaded.{Loaded}
use Rattle.edit_steps.proofs.Changing.{state_count}
use Rattle.write_bytes.proofs.Records.{open_block}
use Rattle.write_bytes.proofs.netlist_of.Goals as goal

pub returns-then-state-gt-MOST_NODES : goal.returns-then-state-gt-MOST_NODES
returns-then-state-gt-MOST_NODES c = λ n work opened. absurd (omega (arith, state_count n opened.its_state, opened.obeys.few_nodes))

pub returns : goal.returns
returns c = λ n work opened. ap Some (ap (λ (l : Loaded). l.block) c.loaded_of.ensures ∙ open_block opened (omega arith))
