-- Laws of the lowest set of a family that passes a test: it is no higher than any set that does, and where
-- there is one it is such a set. So it is told by which sets there are and which of them pass, and not by the
-- order of a list. Assumes nothing.
use Prim.Native.Nat.{ℕ, ◌≤◌, ◌<◌}
use mathlib.Core.Path.{◌≡◌, refl}
use mathlib.Core.Bool.{Bool, true, false}
use mathlib.Core.Logic.{◌⊎◌, inl, inr, ⊎_elim}
use mathlib.Core.List.{[], ◌∷◌}
use native.Mathlib.Nat.{le_antisymm}
use native.Mathlib.Omega.{arith}
use borrow.Author.Tests.{ltb-true, ltb-false}
use lib.Dec.{T, ltb}
use Rattle.rules.specs.Lists.{member}
use Rattle.rules.specs.Records.{most_sets}
use Rattle.rules.specs.Families.{Family}
use Rattle.rule_laws.proofs.Tests.{lt_or_le}
use Rattle.rule_laws.proofs.Lists.{member_head, member_tail, member_cases}
use Rattle.families.proofs.Work.{Alike}
use Rattle.derivation_rules.specs.Derivations.{lowest_set}

module _ (test : ℕ → Bool) where
  -- one set more: it passes and is lower than the others', or it changes nothing
  data Next (B : ℕ) (F : Family) : Type 0 where
    lower : lowest_set test (B ∷ F) ≡ B → T (test B) → B < lowest_set test F → Next B F
    rest : lowest_set test (B ∷ F) ≡ lowest_set test F → (T (test B) → lowest_set test F ≤ B) → Next B F

  next : (B : ℕ) (F : Family) → Next B F
  unfolding lowest_set
  next B F = go (test B) (ltb B (lowest_set test F)) refl refl
    where
      go : (t l : Bool) → test B ≡ t → ltb B (lowest_set test F) ≡ l → Next B F
      go true true t l = lower (rw (t, l)) (rw t tt) (ltb-true _ _ l)
      go true false t l = rest (rw (t, l)) (λ _. ltb-false _ _ l)
      go false l t e = rest (rw t) (λ p. absurd (rw t at p))

  pub lowest_most : (F : Family) → lowest_set test F ≤ most_sets
  unfolding lowest_set
  lowest_most [] = omega arith
  lowest_most (B ∷ F) = go (next B F) (lowest_most F)
    where
      go : Next B F → lowest_set test F ≤ most_sets → lowest_set test (B ∷ F) ≤ most_sets
      go (lower e p l) ih = omega (arith, e)
      go (rest e h) ih = omega (arith, e)

  -- no set that passes is lower
  pub lowest_least : (F : Family) (B : ℕ) → T (member B F) → T (test B) → lowest_set test F ≤ B
  lowest_least [] B m t = absurd (unfold member in m)
  lowest_least (C ∷ F) B m t = go (next C F) (⊎_elim inl (λ h. inr (lowest_least F B h t)) (member_cases B C F m))
    where
      go : Next C F → (B ≡ C) ⊎ (lowest_set test F ≤ B) → lowest_set test (C ∷ F) ≤ B
      go (lower e p l) (inl same) = omega (arith, e)
      go (lower e p l) (inr low) = omega (arith, e)
      go (rest e h) (inl same) = omega (arith, e, h (rw same at t))
      go (rest e h) (inr low) = omega (arith, e)

  -- where there is one, it is in the family and passes
  pub lowest_works : (F : Family) → lowest_set test F < most_sets → T (member (lowest_set test F) F) × T (test (lowest_set test F))
  unfolding lowest_set
  lowest_works [] l = absurd (omega arith)
  lowest_works (B ∷ F) l = go (next B F) (lowest_works F)
    where
      k : ℕ
      k = lowest_set test F

      go : Next B F → (k < most_sets → T (member k F) × T (test k))
          → T (member (lowest_set test (B ∷ F)) (B ∷ F)) × T (test (lowest_set test (B ∷ F)))
      go (lower e p l) ih = rw e (member_head B F, p)
      go (rest e h) ih = let (m, t) = ih (rw e at l) in rw e (member_tail k B F m, t)

  -- a number is the lowest if it passes or there is none at all, and no lower set passes
  pub lowest_is : (F : Family) (k : ℕ) → k ≤ most_sets → (k < most_sets → T (member k F) × T (test k))
      → ((B : ℕ) → B < k → T (member B F) → T (test B) → ⊥) → lowest_set test F ≡ k
  lowest_is F k most works none = le_antisymm (above (lt_or_le k most_sets)) (below (lt_or_le (lowest_set test F) k))
    where
      above : (k < most_sets) ⊎ (most_sets ≤ k) → lowest_set test F ≤ k
      above (inl l) = let (m, t) = works l in lowest_least F k m t
      above (inr l) = omega (arith, lowest_most F)

      below : (lowest_set test F < k) ⊎ (k ≤ lowest_set test F) → k ≤ lowest_set test F
      below (inl l) = let (m, t) = lowest_works F (omega arith) in absurd (none (lowest_set test F) l m t)
      below (inr l) = l

-- it sees only which sets are in the family and which of them pass
pub lowest_alike : {test other : ℕ → Bool} {F G : Family} → Alike F G → ((B : ℕ) → test B ≡ other B) → lowest_set test F ≡ lowest_set other G
lowest_alike {test} {other} {F} {G} sets tests =
    lowest_is test F (lowest_set other G) (lowest_most other G)
    (λ l. let (m, t) = lowest_works other G l in (rw (sets.same (lowest_set other G)) m, rw (tests (lowest_set other G)) t))
    (λ B l m t. omega (arith, lowest_least other G B (rw (sets.same B) at m) (rw (tests B) at t)))
