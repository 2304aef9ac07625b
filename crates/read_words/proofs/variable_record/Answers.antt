-- `read_words::variable_record` meets its contract: its bytes are those of a variable of the class. Assumes nothing.
use Rattle.std.proofs.Common.{refl}
use Rattle.rules.specs.Records.{variable, record_bytes}
use Rattle.netlists.specs.Netlists.{padded}
use Rattle.netlists.specs.Kinds.{class_in}
use Rattle.read_words.proofs.Records.{is_record}
use Rattle.read_words.proofs.variable_record.Goals as goal

pub returns : goal.returns
unfolding record_bytes padded
returns c =
    let own = variable (class_in c.args.class) in
    c.alone_record.ensures own (rw (c.byte.ensures, c.byte-2.ensures) (is_record own _ _ refl refl))
