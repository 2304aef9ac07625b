-- The rule of the order: each ten-bit number is in it once, and what stands at a lower place is earlier.
-- antt computes one test over the whole list, that each entry is a ten-bit number and later than the one before it;
-- the laws turn the test into the rule at each place. Assumes nothing.
use Prim.Native.Nat.{ℕ, zero, suc, ◌≤◌, ◌<◌}
use mathlib.Core.Path.{◌≡◌, refl, sym, subst}
use mathlib.Core.Logic.{⊎_elim}
use mathlib.Core.Bool.{Bool, true, false, not, ◌&&◌}
use mathlib.Core.List.{List, [], ◌∷◌}
use native.Mathlib.Nat.{eq-or-lt_of_le}
use native.Mathlib.Omega.{arith}
use lib.Dec.{T, ltb, ltb→lt, not_T}
use lib.ListN.{length, get_or}
use Rattle.rules.specs.Lists.{member, count}
use Rattle.rules.specs.Records.{most_sets, bits, variable_count}
use Rattle.rules.specs.Families.{earlier}
use Rattle.rule_laws.proofs.Tests.{and_left, and_right, and_both}
use Rattle.rule_laws.proofs.Members.{All, all_none, all_front, entry_member, member_entry}
use Rattle.rule_laws.proofs.Once.{once, single_once, all_below}
use Rattle.rule_laws.proofs.ReportOrder.{earlier_trans, not_earlier_self, NotLater, not_later_self, earlier_not_later}
use Rattle.set_order.specs.Order.{sets_with, sets_with_fewer, report_order, set_at}

-- ---- the test

-- each entry is a ten-bit number, and later than the one before it, which for the first is x
abbrev follow : ℕ → List ℕ → Bool
follow x [] = true
follow x (y ∷ ys) = earlier x y && (ltb y most_sets && follow y ys)

abbrev in_order : List ℕ → Bool
in_order [] = false
in_order (x ∷ xs) = ltb x most_sets && follow x xs

order_passes : T (in_order report_order)
unfolding sets_with sets_with_fewer report_order earlier variable_count bits count
order_passes = tt

order_length : length report_order ≡ most_sets
unfolding sets_with sets_with_fewer report_order
order_length = refl

-- ---- what passes it

module _ (x y : ℕ) (ys : List ℕ) (t : T (follow x (y ∷ ys))) where
  next_later : T (earlier x y)
  next_later = and_left (earlier x y) _ t

  next_low : T (ltb y most_sets)
  next_low = and_left (ltb y most_sets) (follow y ys) (and_right (earlier x y) _ t)

  others_follow : T (follow y ys)
  others_follow = and_right (ltb y most_sets) (follow y ys) (and_right (earlier x y) _ t)

-- what follows x is later, and of ten bits
all_later : (x : ℕ) (ys : List ℕ) → T (follow x ys) → All (λ y. T (earlier x y)) ys
all_later x [] t = all_none (λ z. T (earlier x z))
all_later x (y ∷ ys) t =
    all_front (λ z. T (earlier x z)) y ys (next_later x y ys t)
    (λ z m. earlier_trans x y z (next_later x y ys t) (all_later y ys (others_follow x y ys t) z m))

all_low : (x : ℕ) (ys : List ℕ) → T (ltb x most_sets) → T (follow x ys) → All (λ y. y < most_sets) (x ∷ ys)
all_low x [] l t = all_front (λ z. z < most_sets) x [] (ltb→lt x most_sets l) (all_none (λ z. z < most_sets))
all_low x (y ∷ ys) l t =
    all_front (λ z. z < most_sets) x (y ∷ ys) (ltb→lt x most_sets l) (all_low y ys (next_low x y ys t) (others_follow x y ys t))

-- so it holds each once
follow_once : (x : ℕ) (ys : List ℕ) → T (follow x ys) → T (once (x ∷ ys))
unfolding once
follow_once x [] t = single_once x
follow_once x (y ∷ ys) t =
    and_both (not (member x (y ∷ ys))) (once (y ∷ ys)) (not_T (member x (y ∷ ys)) (λ m. not_earlier_self x (all_later x (y ∷ ys) t x m)))
    (follow_once y ys (others_follow x y ys t))

-- and has an earlier set at a lower place
follow_at : (x : ℕ) (ys : List ℕ) → T (follow x ys) → (j k : ℕ) → j < k → k < length (x ∷ ys)
    → T (earlier (get_or (x ∷ ys) j 0) (get_or (x ∷ ys) k 0))
follow_at x ys t j zero h l = absurd (omega arith)
follow_at x ys t zero (suc k) h l = all_later x ys t (get_or ys k 0) (entry_member ys 0 k (omega arith))
follow_at x [] t (suc j) (suc k) h l = absurd (omega arith)
follow_at x (y ∷ ys) t (suc j) (suc k) h l = follow_at y ys (others_follow x y ys t) j k (omega arith) (omega arith)

-- ---- the rule, of any list of 1,024 entries that passes

record Rule (xs : List ℕ) : Type 0 where
  low : (k : ℕ) → k < most_sets → get_or xs k 0 < most_sets
  all : (A : ℕ) → A < most_sets → (k : ℕ) × (k < most_sets) × (get_or xs k 0 ≡ A)
  later : (j k : ℕ) → j < k → k < most_sets → T (earlier (get_or xs j 0) (get_or xs k 0))

rule : (xs : List ℕ) → T (in_order xs) → length xs ≡ most_sets → Rule xs
rule [] t e = absurd t
rule (x ∷ xs) t e =
    let first = and_left (ltb x most_sets) (follow x xs) t in
    let rest = and_right (ltb x most_sets) (follow x xs) t in
    record {
      low = λ k h. all_low x xs first rest (get_or (x ∷ xs) k 0) (entry_member (x ∷ xs) 0 k (omega arith));
      all =
          λ A h.
          let (k, l, found) = member_entry (x ∷ xs) 0 A (all_below most_sets (x ∷ xs) (follow_once x xs rest) (all_low x xs first rest) e A h) in
          (k, omega arith, found);
      later = λ j k h l. follow_at x xs rest j k h (omega arith);
    }

order_rule : Rule report_order
order_rule = rule report_order order_passes order_length

-- ---- the set at a place

-- it is a ten-bit number
pub set_low : {A k : ℕ} → A ≡ set_at k → k < most_sets → A < most_sets
unfolding set_at
set_low {A} {k} e h = subst (λ (B : ℕ). B < most_sets) (sym e) (order_rule.low k h)

-- each ten-bit number has its place
pub place_of : (A : ℕ) → A < most_sets → (k : ℕ) × (k < most_sets) × (set_at k ≡ A)
unfolding set_at
place_of A h = order_rule.all A h

-- and only one, since at a higher place is a later set
pub set_later : (j k : ℕ) → j < k → k < most_sets → T (earlier (set_at j) (set_at k))
unfolding set_at
set_later j k h l = order_rule.later j k h l

pub place_once : (j k : ℕ) → j < k → k < most_sets → set_at j ≡ set_at k → ⊥
place_once j k h l e = not_earlier_self (set_at k) (subst (λ (A : ℕ). T (earlier A (set_at k))) e (set_later j k h l))

pub set_not_later : (j k : ℕ) → j ≤ k → k < most_sets → NotLater (set_at j) (set_at k)
set_not_later j k h l =
    ⊎_elim (λ e. subst (λ (i : ℕ). NotLater (set_at j) (set_at i)) e (not_later_self (set_at j)))
    (λ m. earlier_not_later (set_at j) (set_at k) (set_later j k m l))
    (eq-or-lt_of_le h)
