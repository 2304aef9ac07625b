-- `both` meets its contract: the lowest set that works, or the number of all. Assumes nothing.
use Rattle.std.proofs.Common.{ℕ, ◌≡◌, ◌≤◌, ◌<◌, Bool, true, false, ◌&&◌, sym, ◌∙◌, Option, None, Some, MatchOption, arith}
use Rattle.std.specs.Option.{unwrap_or}
use Rattle.rules.specs.Lists.{member}
use Rattle.rules.specs.Records.{most_sets}
use Rattle.rules.specs.Families.{Family}
use Rattle.rule_laws.proofs.Tests.{pass, and_left, and_right, and_both}
use Rattle.derivation_rules.specs.Derivations.{claimed, product_of, needed, lowest_set}
use Rattle.derivation_rules.proofs.Lowest.{lowest_is}
use Rattle.derivation_steps.proofs.Gate.both.Goals as goal

module _ (test : ℕ → Bool) (F : Family) where
  abbrev works : ℕ → Bool
  works B = member B F && test B

  stopped : (k : ℕ) → k ≤ most_sets → (k < most_sets → works k ≡ true) → ((B : ℕ) → B < k → works B ≡ false) → lowest_set test F ≡ k
  stopped k most here none =
      lowest_is test F k most
      (λ l. let both = pass (here l) in (and_left (member k F) (test k) both, and_right (member k F) (test k) both))
      (λ B l m t. rw (none B l) at (and_both (member B F) (test B) m t))

  lowest : (found : Option ℕ)
      → MatchOption found ((B : ℕ) → B < most_sets → works B ≡ false) (λ A. (A < most_sets) × (works A ≡ true) × ((B : ℕ) → B < A → works B ≡ false))
      → unwrap_or found most_sets ≡ lowest_set test F
  lowest None none = sym (stopped most_sets (omega arith) (λ l. absurd (omega arith)) none)
  lowest (Some A) (small, here, none) = sym (stopped A (omega arith) (λ _. here) none)

pub returns : goal.returns
unfolding claimed product_of needed
returns c =
    let found = c.unwrap_or-lowest.ensures ∙ lowest _ _ c.lowest.result c.lowest.ensures in
    rw (c.of_first.ensures, c.of_second.ensures, found)
