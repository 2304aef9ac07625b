-- What a passed test tells: the parts of `&&` and `||`, and the equation with `true`; two tests that pass
-- together; of two numbers, which is less. Assumes nothing.
use Prim.Native.Nat.{ℕ, ◌≤◌, ◌<◌}
use mathlib.Core.Path.{◌≡◌, refl, sym, subst}
use mathlib.Core.Logic.{◌⊎◌, inl, inr}
use mathlib.Core.Bool.{Bool, true, false, ◌&&◌, ◌||◌, beq}
use borrow.Author.Tests.{ltb-true, ltb-false}
use lib.Dec.{T, ltb}

pub or_left : (a b : Bool) → T a → T (a || b)
or_left true b t = tt
or_left false b t = absurd t

pub or_right : (a b : Bool) → T b → T (a || b)
or_right true b t = tt
or_right false b t = t

pub or_cases : (a b : Bool) → T (a || b) → T a ⊎ T b
or_cases true b t = inl tt
or_cases false b t = inr t

pub and_left : (a b : Bool) → T (a && b) → T a
and_left true b t = tt
and_left false b t = absurd t

pub and_right : (a b : Bool) → T (a && b) → T b
and_right true b t = t
and_right false b t = absurd t

pub and_both : (a b : Bool) → T a → T b → T (a && b)
and_both true b t u = u
and_both false b t u = t

-- a test that is equal to `true` has passed
pub pass : {b : Bool} → b ≡ true → T b
pass e = subst T (sym e) tt

-- two tests that pass together are equal
pub same_test : (a b : Bool) → (T a → T b) → (T b → T a) → a ≡ b
same_test true true f g = refl
same_test true false f g = absurd (f tt)
same_test false true f g = absurd (g tt)
same_test false false f g = refl

pub same_bit : (a b : Bool) → T (beq a b) → a ≡ b
same_bit true true t = refl
same_bit true false t = absurd t
same_bit false true t = absurd t
same_bit false false t = refl

-- a test that passes at both bits passes at each
abbrev pub both : (Bool → Bool) → Bool
both f = f true && f false

pub each : (f : Bool → Bool) → T (both f) → (b : Bool) → T (f b)
each f t true = and_left (f true) (f false) t
each f t false = and_right (f true) (f false) t

-- a number is below another or not
pub lt_or_le : (i n : ℕ) → (i < n) ⊎ (n ≤ i)
lt_or_le i n = go (ltb i n) refl
  where
    go : (b : Bool) → ltb i n ≡ b → (i < n) ⊎ (n ≤ i)
    go true e = inl (ltb-true i n e)
    go false e = inr (ltb-false i n e)
