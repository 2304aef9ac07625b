-- What was examined and answered is a netlist whose families are in the work bytes.
use Rattle.std.proofs.Common.{ℕ}
use lib.ListN.{replicate, length-replicate}
use Rattle.rules.specs.Checks.{most_work}
use Rattle.desk.specs.Examined.{Seen}
use Rattle.desk.proofs.Known.{seen_known}
use Rattle.telgouin.proofs.examine.Goals as goal

pub obey_examined-requires : goal.obey_examined-requires
obey_examined-requires g c =
    let promised = c.in_ok-examined.ensures in
    let seen : Seen c.in_ok-examined.examined c.examine.new.work = record {
      bytes = c.args.bytes.now;
      before = replicate most_work 0;
      size = length-replicate {A = ℕ} most_work 0;
      leaves = record { reply = promised.reply; netlist = promised.netlist; held = promised.work };
    } in (seen, seen_known seen)
