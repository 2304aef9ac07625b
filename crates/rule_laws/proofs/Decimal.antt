-- A number in base ten: its digits stand for it, each is a digit, no 0 leads but that of the number 0,
-- and a number below 10 to the power k has at most k of them. By one induction, on the number without its last digit.
-- Assumes nothing.
use Prim.Native.Nat.{ℕ, zero, suc, ◌+◌, ◌-◌, ◌*◌, ◌/◌, ◌%◌, ◌^◌, ◌≤◌, ◌<◌}
use mathlib.Core.Path.{◌≡◌, refl, sym, ◌∙◌}
use mathlib.Core.Bool.{Bool, true, false}
use mathlib.Core.List.{List, [], ◌∷◌, ◌++◌}
use native.Mathlib.Nat.{mod-eq_of_lt, pow-suc}
use native.Mathlib.Omega.{arith}
use borrow.Author.Tests.{lt-ltb, le-ltb}
use lib.Dec.{ltb, ltb→lt, nltb→le}
use lib.ListN.{length, get_or, length-append}
use Rattle.rules.specs.Listing.{digits, decimal}
use Rattle.rules.proofs.Each.{Each, each_append}

-- what holds of one digit, and of a digit behind those that it holds of, holds of them all
module _ (P : ℕ → List ℕ → Type 0)
    (one : (x : ℕ) → x < 10 → P x ((48 + x) ∷ []))
    (more : (x : ℕ) (s : List ℕ) → 10 ≤ x → P (x / 10) s → P x (s ++ ((48 + x % 10) ∷ [])))
  where
    digits_induction : (n x : ℕ) → x ≤ n → P x (digits n x)
    unfolding digits
    digits_induction zero x h = let l : x < 10 = omega arith in rw (mod-eq_of_lt l) (one x l)
    digits_induction (suc n) x h = go (ltb x 10) refl (digits_induction n (x / 10))
      where
        go : (b : Bool) → ltb x 10 ≡ b → (x / 10 ≤ n → P (x / 10) (digits n (x / 10))) → P x (digits (suc n) x)
        go true e rest = rw (e, digits) (one x (ltb→lt x 10 (rw e tt)))
        go false e rest =
            let l : 10 ≤ x = nltb→le x 10 (rw e tt) in
            rw (e, digits) (more x (digits n (x / 10)) l (rest (omega arith)))

    decimal_induction : (x : ℕ) → P x (decimal x)
    unfolding decimal
    decimal_induction x = digits_induction x x (omega arith)

-- ---- one digit, and a digit behind the others

-- it makes no odds how many digits are allowed for, as long as they are enough
digits_enough : (x n : ℕ) → x ≤ n → digits n x ≡ decimal x
unfolding digits
digits_enough =
    decimal_induction (λ x s. (n : ℕ) → x ≤ n → digits n x ≡ s) one more
  where
    one : (x : ℕ) → x < 10 → (n : ℕ) → x ≤ n → digits n x ≡ (48 + x) ∷ []
    one x l zero h = rw (mod-eq_of_lt l)
    one x l (suc n) h = rw (lt-ltb x 10 l, digits)

    more : (x : ℕ) (s : List ℕ) → 10 ≤ x → ((n : ℕ) → x / 10 ≤ n → digits n (x / 10) ≡ s) → (n : ℕ) → x ≤ n
        → digits n x ≡ s ++ ((48 + x % 10) ∷ [])
    more x s l rest zero h = absurd (omega arith)
    more x s l rest (suc n) h = rw (le-ltb x 10 l, digits, rest n (omega arith))

pub decimal_less : (x : ℕ) → x < 10 → decimal x ≡ (48 + x) ∷ []
unfolding digits
decimal_less x h = sym (digits_enough x (suc x) (omega arith)) ∙ rw (lt-ltb x 10 h, digits)

pub decimal_more : (x : ℕ) → 10 ≤ x → decimal x ≡ decimal (x / 10) ++ ((48 + x % 10) ∷ [])
unfolding digits
decimal_more x h = sym (digits_enough x (suc x) (omega arith)) ∙ rw (le-ltb x 10 h, digits, digits_enough (x / 10) x (omega arith))

-- ---- what holds of the digits

-- the number that digits stand for, read from the left, behind those that stand for acc
abbrev pub stands_for : List ℕ → (acc : ℕ) → ℕ
stands_for [] acc = acc
stands_for (d ∷ s) acc = stands_for s (acc * 10 + (d - 48))

value_append : (s : List ℕ) (d acc : ℕ) → stands_for (s ++ (d ∷ [])) acc ≡ stands_for s acc * 10 + (d - 48)
value_append [] d acc = refl
value_append (c ∷ s) d acc = value_append s d (acc * 10 + (c - 48))

pub decimal_value : (x : ℕ) → stands_for (decimal x) 0 ≡ x
decimal_value =
    decimal_induction (λ x s. stands_for s 0 ≡ x)
    (λ x h. omega arith)
    (λ x s h e. omega (arith, value_append s (48 + x % 10) 0))

-- a byte that is a digit
abbrev pub Digit : ℕ → Type 0
Digit d = (48 ≤ d) × (d ≤ 57)

pub decimal_digits : (x : ℕ) → Each Digit (decimal x)
decimal_digits =
    decimal_induction (λ x s. Each Digit s)
    (λ x h. (omega arith, tt))
    (λ x s h e. each_append Digit s _ e (omega arith, tt))

-- the first digit of a number other than 0 is not 0
pub decimal_first : (x : ℕ) → 0 < x → 48 < get_or (decimal x) 0 0
decimal_first =
    decimal_induction (λ x s. 0 < x → 48 < get_or s 0 0)
    (λ x h p. omega arith)
    (λ x s h e p. stays s _ (e (omega arith)))
  where
    stays : (s t : List ℕ) → 48 < get_or s 0 0 → 48 < get_or (s ++ t) 0 0
    stays [] t h = absurd (omega arith)
    stays (d ∷ s) t h = h

-- a number below 10 to the power k has at most k digits
pub decimal_short : (k x : ℕ) → 0 < k → x < 10 ^ k → length (decimal x) ≤ k
decimal_short k x = decimal_induction (λ x s. (k : ℕ) → 0 < k → x < 10 ^ k → length s ≤ k) (λ x l k p h. p) more x k
  where
    more : (x : ℕ) (s : List ℕ) → 10 ≤ x → ((k : ℕ) → 0 < k → x / 10 < 10 ^ k → length s ≤ k)
        → (k : ℕ) → 0 < k → x < 10 ^ k → length (s ++ ((48 + x % 10) ∷ [])) ≤ k
    more x s l rest zero p h = absurd (omega arith)
    more x s l rest (suc zero) p h = absurd (omega arith)
    more x s l rest (suc (suc k)) p h =
        let fewer : length s ≤ suc k = rest (suc k) (omega arith) (omega (arith, pow-suc 10 (suc k))) in
        omega (arith, length-append s ((48 + x % 10) ∷ []))

pub decimal_zero : decimal 0 ≡ 48 ∷ []
unfolding decimal digits
decimal_zero = refl
