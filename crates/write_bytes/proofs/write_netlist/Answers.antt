-- `write_bytes::write_netlist` meets its contract: a netlist is within the limits, and the records of its variables,
-- those of its nodes and the end are stored one behind the other. Assumes nothing.
use Rattle.rules.specs.Records.{record_bytes, written_out}
use Rattle.listing_lines.proofs.Text.{appended_more, appended_size, appended_whole}
use Rattle.write_bytes.proofs.Records.{beyond}
use Rattle.write_bytes.proofs.write_netlist.Goals as goal

pub returns-then-netlist-gt-MOST_VARIABLES-clause-long : goal.returns-then-netlist-gt-MOST_VARIABLES-clause-long
returns-then-netlist-gt-MOST_VARIABLES-clause-long c = λ n w e. absurd (beyond n w e c.then-netlist-gt-MOST_VARIABLES.either)

pub returns-then-netlist-gt-MOST_VARIABLES-clause-bytes : goal.returns-then-netlist-gt-MOST_VARIABLES-clause-bytes
returns-then-netlist-gt-MOST_VARIABLES-clause-bytes c = λ n w e. absurd (beyond n w e c.then-netlist-gt-MOST_VARIABLES.either)

pub returns-clause-long : goal.returns-clause-long
unfolding written_out record_bytes
returns-clause-long c = λ n w e. appended_size
    (appended_more (appended_more (c.put_variables-first.ensures.appended n e) (c.put_nodes-end.ensures.appended n e)) c.put_byte.ensures)

pub returns-clause-bytes : goal.returns-clause-bytes
unfolding written_out record_bytes
returns-clause-bytes c = λ n w e. appended_whole
    (appended_more (appended_more (c.put_variables-first.ensures.appended n e) (c.put_nodes-end.ensures.appended n e)) c.put_byte.ensures)
