-- What the reply with pairs means in document 01 and in change request A1: for each case its number and values.
-- Promises use this. Assumes nothing.
use Rattle.std.specs.Prelude.{Result, Ok, Err}
use Rattle.rules.specs.declared.Refusal.{Refusal}
use Rattle.rules.specs.Checks.{Outcome}
use Rattle.rules.specs.Paper.{findings_of, outcome_by}
use Rattle.checker.specs.declared.Examined.{Examined}
use Rattle.pair_search.specs.Pairs.{PairFindings}
use Rattle.pair_search.specs.Meaning.{searched_of}
use Rattle.pairs.specs.declared.PairsAnswer.{PairsAnswer}
use Rattle.pairs.specs.declared.ExaminedPairs.{ExaminedPairs}

-- the answer of one probe, and what the search found
abbrev pub pair_findings_of : PairsAnswer → PairFindings
pair_findings_of a = record { answer = findings_of a.answer; searched = searched_of a.search }

-- the whole reply
abbrev pub pairs_reply_of : Result PairsAnswer Refusal → Outcome PairFindings
pairs_reply_of = outcome_by pair_findings_of

-- what an examination with two probes gives: the whole reply; and what `checker::examine` gives
abbrev pub pairs_replied : Result ExaminedPairs Refusal → Outcome PairFindings
pairs_replied = outcome_by (λ e. record { answer = findings_of e.examined.answer; searched = searched_of e.search })

abbrev pub examined_in : Result ExaminedPairs Refusal → Result Examined Refusal
examined_in (Ok e) = Ok e.examined
examined_in (Err r) = Err r
