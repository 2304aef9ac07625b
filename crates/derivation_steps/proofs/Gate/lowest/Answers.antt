-- `lowest` meets its contract: no set below the one that is found works. Assumes nothing.
use Rattle.std.proofs.Common.{ℕ, ◌≡◌, ◌≤◌, ◌<◌, Bool, true, false, Option, None, Some, MatchOption, arith, rules}
use Rattle.std.proofs.lemmas.Iterator.{first_from_Range}
use Rattle.rules.specs.Records.{most_sets}
use Rattle.derivation_steps.specs.Meaning.{layer_meant, works_of}
use Rattle.derivation_steps.proofs.Gate.lowest.Goals as goal

-- what is found over a range from 0 on
from_zero : (Yes No : ℕ → Type 0) (found : Option ℕ)
    → MatchOption found ((B : ℕ) → 0 ≤ B → B < most_sets → No B)
    (λ A. (0 ≤ A) × (A < most_sets) × Yes A × ((B : ℕ) → 0 ≤ B → B < A → No B))
    → MatchOption found ((B : ℕ) → B < most_sets → No B) (λ A. (A < most_sets) × Yes A × ((B : ℕ) → B < A → No B))
from_zero Yes No None none = λ B l. none B (omega arith) l
from_zero Yes No (Some A) (_, small, here, none) = (small, here, λ B l. none B (omega arith) l)

pub returns : goal.returns
returns c =
    let a = c.args.self in
    let Works : Bool → ℕ → Type 0 = λ b B. works_of a.work.now (layer_meant a.layer) a.first a.second a.set B ≡ b in
    from_zero (Works true) (Works false) c.find.result
    (first_from_Range _ _ _ _ (Works true) (Works false) c.find.ensures.ran (λ x q called. search rules) (λ x q called. search rules))
