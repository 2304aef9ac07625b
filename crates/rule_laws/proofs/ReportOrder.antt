-- The order of report: what `earlier` tells of two sets, by their numbers of variables and their own; it is transitive,
-- and no set is earlier than itself. Assumes nothing.
use Prim.Native.Nat.{ℕ, ◌≤◌, ◌<◌}
use mathlib.Core.Path.{◌≡◌}
use mathlib.Core.Logic.{◌⊎◌, inl, inr, ⊎_elim}
use native.Mathlib.Nat.{le_refl}
use native.Mathlib.Omega.{arith}
use borrow.Author.Tests.{eq-eqb}
use lib.Dec.{T, eqb, ltb, ltb→lt, lt→ltb, eqb→eq}
use Rattle.rules.specs.Records.{variable_count}
use Rattle.rules.specs.Families.{earlier}
use Rattle.rule_laws.proofs.Tests.{or_left, or_right, or_cases, and_left, and_right, lt_or_le}

-- ---- set A is earlier than set B

earlier_fewer : (A B : ℕ) → variable_count A < variable_count B → T (earlier A B)
unfolding earlier
earlier_fewer A B h = or_left (ltb (variable_count A) (variable_count B)) _ (lt→ltb (variable_count A) (variable_count B) h)

earlier_lower : (A B : ℕ) → variable_count A ≡ variable_count B → A < B → T (earlier A B)
unfolding earlier
earlier_lower A B e h =
    rw (eq-eqb (variable_count A) (variable_count B) e) (or_right (ltb (variable_count A) (variable_count B)) (ltb A B) (lt→ltb A B h))

earlier_cases : (A B : ℕ) → T (earlier A B)
    → (variable_count A < variable_count B) ⊎ ((variable_count A ≡ variable_count B) × (A < B))
unfolding earlier
earlier_cases A B t =
    ⊎_elim (λ s. inl (ltb→lt (variable_count A) (variable_count B) s))
    (λ s. inr (
      eqb→eq _ _ (and_left (eqb (variable_count A) (variable_count B)) (ltb A B) s),
      ltb→lt A B (and_right (eqb (variable_count A) (variable_count B)) (ltb A B) s),
    ))
    (or_cases (ltb (variable_count A) (variable_count B)) _ t)

pub earlier_trans : (A B C : ℕ) → T (earlier A B) → T (earlier B C) → T (earlier A C)
earlier_trans A B C s t =
    ⊎_elim (λ p. earlier_fewer A C (⊎_elim (λ q. omega arith) (λ q. omega arith) (earlier_cases B C t)))
    (λ p. ⊎_elim (λ q. earlier_fewer A C (omega arith)) (λ q. earlier_lower A C (omega arith) (omega arith)) (earlier_cases B C t))
    (earlier_cases A B s)

pub not_earlier_self : (A : ℕ) → T (earlier A A) → ⊥
not_earlier_self A t = ⊎_elim (λ p. omega arith) (λ p. omega arith) (earlier_cases A A t)

-- ---- set A is not later than set B

-- B does not have fewer variables and, if it has as many, no lower number
pub record NotLater (A B : ℕ) : Type 0 where
  pub fewest : variable_count A ≤ variable_count B
  pub lowest : variable_count B ≡ variable_count A → A ≤ B

pub not_later_self : (A : ℕ) → NotLater A A
not_later_self A = record { fewest = le_refl (variable_count A); lowest = λ e. le_refl A }

pub earlier_not_later : (A B : ℕ) → T (earlier A B) → NotLater A B
earlier_not_later A B t =
    ⊎_elim (λ p. record { fewest = omega arith; lowest = λ e. absurd (omega arith) })
    (λ p. record { fewest = omega arith; lowest = λ e. omega arith })
    (earlier_cases A B t)

pub not_earlier : (A B : ℕ) → (T (earlier A B) → ⊥) → NotLater B A
not_earlier A B h = record {
  fewest = ⊎_elim (λ l. absurd (h (earlier_fewer A B l))) (λ l. l) (lt_or_le (variable_count A) (variable_count B));
  lowest = λ e. ⊎_elim (λ l. absurd (h (earlier_lower A B e l))) (λ l. l) (lt_or_le A B);
}

pub not_later_trans : (A B C : ℕ) → NotLater A B → NotLater B C → NotLater A C
not_later_trans A B C p q = record {
  fewest = omega arith;
  lowest =
      λ e.
      let first : variable_count B ≡ variable_count A = omega arith in
      let second : variable_count C ≡ variable_count B = omega arith in
      omega (arith, p.lowest first, q.lowest second);
}

-- two sets of which neither is later are one
pub not_later_both : (A B : ℕ) → NotLater A B → NotLater B A → A ≡ B
not_later_both A B p q =
    let as_many : variable_count B ≡ variable_count A = omega arith in
    let as_many_too : variable_count A ≡ variable_count B = omega arith in
    omega (arith, p.lowest as_many, q.lowest as_many_too)
