-- What the reply means loses nothing: a reply with pairs is determined by what it says. Assumes nothing.
use Rattle.std.specs.Prelude.{Result}
use Rattle.rules.specs.declared.Refusal.{Refusal}
use Rattle.pairs.specs.declared.PairsAnswer.{PairsAnswer}
use mathlib.Core.Path.{◌≡◌, refl, sym, ap, ap₂, ◌∙◌}
use Rattle.rule_laws.proofs.Paper.{same_answer, same_result}
use Rattle.pair_search.specs.declared.Found.{Found}
use Rattle.pair_search.specs.declared.Found.TheVariants.{Single, NoPair, Pair, Spent}
use Rattle.pair_search.specs.declared.Search.{Search}
use Rattle.pair_search.specs.Pairs.{PairFinding, single, no_pair, pair_at, spent, Searched, PairFindings}
use Rattle.pair_search.specs.Meaning.{pair_finding_of, searched_of}
use Rattle.pairs.specs.Meaning.{pair_findings_of, pairs_reply_of}

-- what is found, by what it says
found_of : PairFinding → Found
found_of (single node set) = Single node set
found_of no_pair = NoPair
found_of (pair_at i j set) = Pair i j set
found_of spent = Spent

found_told : (f : Found) → found_of (pair_finding_of f) ≡ f
unfolding found_of
found_told (Single node set) = refl
found_told NoPair = refl
found_told (Pair i j set) = refl
found_told Spent = refl

same_search : (s t : Search) → searched_of s ≡ searched_of t → s ≡ t
same_search s t e =
    ap₂ (λ f k. record { found = f; looked = k })
    (sym (found_told s.found) ∙ ap (λ (x : Searched). found_of x.found) e ∙ found_told t.found) (ap (λ (x : Searched). x.looked) e)

same_pairs : (a b : PairsAnswer) → pair_findings_of a ≡ pair_findings_of b → a ≡ b
same_pairs a b e =
    ap₂ (λ x s. record { answer = x; search = s })
    (same_answer a.answer b.answer (ap (λ (f : PairFindings). f.answer) e))
    (same_search a.search b.search (ap (λ (f : PairFindings). f.searched) e))

-- a reply by what it says
pub same_pairs_reply : (r q : Result PairsAnswer Refusal) → pairs_reply_of r ≡ pairs_reply_of q → r ≡ q
same_pairs_reply = same_result pair_findings_of same_pairs
