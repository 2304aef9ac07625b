-- `netlists::read` meets its contract: it reads behind the netlist of no records. Assumes nothing.
use Rattle.rules.specs.Records.{empty}
use Rattle.rules.specs.Checks.{read}
use Rattle.rule_laws.proofs.Reading.{empty_formed}
use Rattle.read_bytes.proofs.read.Goals as goal

pub read_from-requires : goal.read_from-requires
read_from-requires c = record { netlist = empty; is = c.no_records.ensures; obeys = empty_formed }

pub returns : goal.returns
unfolding read
returns c = c.read_from.ensures empty c.before.no_records.ensures
