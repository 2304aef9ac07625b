-- What was examined and answered is a netlist whose families are in the work bytes. Assumes nothing.
use Rattle.std.proofs.Common.{ℕ, List, length, ap, ◌∙◌}
use Rattle.rules.specs.Records.{most_nodes}
use Rattle.rule_laws.proofs.Exit.{work_after_length}
use Rattle.checker.specs.declared.Examined.{Examined}
use Rattle.listing_text.proofs.Checked.{checked, obeys}
use Rattle.derivations.specs.Written.{Known}
use Rattle.desk.specs.Examined.{Seen}

pub seen_known : {examined : Examined} {work : List ℕ} → Seen examined work → Known examined.netlist work
seen_known {examined = examined} s =
    let left = s.leaves in
    let c = checked s.bytes s.before s.size examined left.reply left.netlist left.held in
    record {
      formed = record { netlist = c.netlist; is = c.is_value; obeys = obeys c };
      rest = _;
      held = c.is_work;
      size = ap length left.held ∙ (work_after_length s.bytes most_nodes s.before ∙ s.size);
    }
