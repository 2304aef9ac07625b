-- `bench_pairs::telgouin_pairs` meets its contract: the number is that of the reply, case by case. Assumes nothing.
use Rattle.std.specs.Prelude.{Result, Ok, Err}
use Rattle.rules.specs.declared.Refusal.{Refusal}
use Rattle.pairs.specs.declared.ExaminedPairs.{ExaminedPairs}
use Rattle.std.proofs.Common.{ℕ, ◌≡◌, List, length, sym, ap, ◌∙◌}
use lib.ListN.{replicate, length-replicate}
use Rattle.rules.specs.Records.{most_nodes}
use Rattle.rules.specs.Checks.{most_work}
use Rattle.pair_search.specs.declared.Found.{Found}
use Rattle.pair_search.specs.Pairs.{pairs_reply}
use Rattle.pair_search.specs.Meaning.{pair_finding_of}
use Rattle.pairs.specs.Meaning.{pairs_replied}
use Rattle.bench_pairs.specs.Packed.{packed, packed_finding, packed_reply}
use Rattle.bench_pairs.proofs.telgouin_pairs.Goals as goal

-- the number of a reply in slices that hold every netlist
told : (bytes : List ℕ) (limit : ℕ) {said : Result ExaminedPairs Refusal} (reply : Result ExaminedPairs Refusal)
    → said ≡ reply
    → pairs_replied said ≡ pairs_reply bytes most_nodes (length (replicate {A = ℕ} most_work 0)) limit
    → packed_reply (pairs_replied reply) ≡ packed_reply (pairs_reply bytes most_nodes most_work limit)
told bytes limit reply is says =
    ap packed_reply (sym (ap pairs_replied is) ∙ says ∙ rw (length-replicate {A = ℕ} most_work 0))

-- and, where it is answered, that of what was found
found : (bytes : List ℕ) (limit : ℕ) {said : Result ExaminedPairs Refusal} (both : ExaminedPairs) {finding : Found}
    → said ≡ Ok both → both.search.found ≡ finding
    → pairs_replied said ≡ pairs_reply bytes most_nodes (length (replicate {A = ℕ} most_work 0)) limit
    → packed_finding (pair_finding_of finding) both.search.looked
    ≡ packed_reply (pairs_reply bytes most_nodes most_work limit)
unfolding packed_reply
found bytes limit both is finds says =
    ap (λ (f : Found). packed_finding (pair_finding_of f) both.search.looked) (sym finds)
    ∙ told bytes limit (Ok both) is says

pub returns-in-Err : goal.returns-in-Err
unfolding packed_reply
returns-in-Err c =
    let refusal = c.in-Err.refusal in
    c.packed.ensures
    ∙ ap (λ (number : ℕ). packed 0 0 number refusal.place 0) c.number_of.ensures
    ∙ told _ _ (Err refusal) c.in-Err.is c.examine_pairs.ensures.reply

pub returns-in-Single : goal.returns-in-Single
unfolding packed_finding
returns-in-Single c = c.packed-in-Single.ensures ∙ found _ _ _ c.in-Ok.is c.in-Single.is c.examine_pairs.ensures.reply

pub returns-in-NoPair : goal.returns-in-NoPair
unfolding packed_finding
returns-in-NoPair c = c.packed-in-NoPair.ensures ∙ found _ _ _ c.in-Ok.is c.in-NoPair.is c.examine_pairs.ensures.reply

pub returns-in-Pair : goal.returns-in-Pair
unfolding packed_finding
returns-in-Pair c = c.packed-in-Pair.ensures ∙ found _ _ _ c.in-Ok.is c.in-Pair.is c.examine_pairs.ensures.reply

pub returns-in-Spent : goal.returns-in-Spent
unfolding packed_finding
returns-in-Spent c = c.packed-in-Spent.ensures ∙ found _ _ _ c.in-Ok.is c.in-Spent.is c.examine_pairs.ensures.reply
