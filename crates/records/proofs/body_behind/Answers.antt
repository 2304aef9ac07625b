-- `records::body_behind` meets its contract: all bytes are those of `body_at`. Assumes nothing.
use mathlib.Core.Path.{sym, ◌∙◌}
use native.Mathlib.Omega.{arith}
use lib.Seq.{ext_get_or}
use Rattle.rules.specs.Records.{most_body}
use Rattle.rule_laws.proofs.Packing.{tabulate_length, tabulate_at}
use Rattle.records.specs.Bytes.{body_at}
use Rattle.records.proofs.body_behind.Goals as goal

pub returns : goal.returns
unfolding body_at
returns c =
    let long = c.loop-j-test.array_long in
    ext_get_or 0 _ _ (long ∙ sym (tabulate_length _ most_body))
    (λ i h. c.loop-j.invariant i (omega (arith, long)) ∙ sym (tabulate_at _ most_body i 0 (omega (arith, long))))
