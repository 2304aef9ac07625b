-- Block A, whose answer reports gate 4, read by a designer who probes round gate 3: by what is proved, probes on that
-- gate and on both inputs that feed it learn nothing; and the same is read off the gate's own mark. Assumes nothing.
use mathlib.Core.Path.{refl}
use Rattle.rules.specs.declared.Half.TheVariants.{Clear, Suspect}
use Rattle.rules.specs.declared.Answer.{Answer}
use Rattle.rules.specs.Values.{CountsAgree}
use Rattle.rules.specs.Blocks.{P9}
use Rattle.rules.proofs.Blocks.{reply_to}
use Rattle.rules.proofs.BlockCounts.{p9}
use Rattle.clusters.specs.Clusters.{feeding_of, ClearGate, ProbesRound, WiresRound}
use Rattle.clusters.proofs.ManyProbes.{many_probes, many_wires}
use Rattle.clusters.proofs.Unmarked.{checked_unmarked}
use Rattle.clusters.proofs.Blocks.{card_a, a_card_round, a_probes_clear, a_wires_clear, records_left, a_round_unmarked}

pub a_card : CountsAgree p9 (feeding_of p9 card_a) × CountsAgree p9 card_a
unfolding ProbesRound WiresRound
a_card = (a_probes_clear (many_probes P9.bytes) card_a a_card_round, a_wires_clear (many_wires P9.bytes) card_a a_card_round)

-- what `check` answers, in slices that just hold its five nodes
abbrev a_answered : Answer
a_answered = record { variables = 3; nodes = 5; settled = Clear; glitch = Suspect 4 1 }

pub a_by_mark : ClearGate p9 3 × ProbesRound p9 3 × WiresRound p9 3
unfolding reply_to
a_by_mark = a_round_unmarked (checked_unmarked P9.bytes _ (records_left P9.bytes 5) 1280 a_answered refl refl)
