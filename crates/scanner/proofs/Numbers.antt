-- How the number that digits say goes on from digit to digit. Assumes nothing.
use Prim.Native.Nat.{ℕ, ◌+◌, ◌*◌, ◌-◌, ◌^◌, ◌≤◌, ◌<◌}
use mathlib.Core.Path.{◌≡◌, ap, ◌∙◌}
use mathlib.Core.Bool.{true, false, and-false}
use mathlib.Core.List.{List, [], ◌∷◌}
use native.Mathlib.Omega.{arith}
use native.Mathlib.Numerals.{add-one}
use lib.Dec.{ltb}
use lib.ListN.{length, get_or, drop}
use lib.Seq.{drop-cons, drop-length}
use borrow.Author.Tests.{lt-ltb, le-ltb}
use Rattle.std.proofs.Common.{Some, None}
use Rattle.scanner.specs.Numbers.{is_digit, are_digits, value_behind, number_behind}

-- digits never lower the number before them
no_lower : (before : ℕ) (bytes : List ℕ) → before ≤ value_behind before bytes
unfolding value_behind
no_lower before [] = omega arith
no_lower before (byte ∷ bytes) = omega (arith, no_lower (before * 10 + (byte - 48)) bytes)

-- the digits from a place on are the one there and those behind it
pub from_place : (before : ℕ) (word : List ℕ) (k : ℕ) → k < length word
    → number_behind before (drop k word) ≡ number_behind before (get_or word k 0 ∷ drop (k + 1) word)
from_place before word k h = ap (number_behind before) (rw (add-one, drop-cons word k 0))

pub no_digit : (before byte : ℕ) (bytes : List ℕ) → is_digit byte ≡ false → number_behind before (byte ∷ bytes) ≡ None
unfolding number_behind are_digits
no_digit before byte bytes e = rw e

pub one_digit : (before byte : ℕ) (bytes : List ℕ) → is_digit byte ≡ true
    → number_behind before (byte ∷ bytes) ≡ number_behind (before * 10 + (byte - 48)) bytes
unfolding number_behind are_digits value_behind
one_digit before byte bytes e = rw e

-- one digit more is too many where the number with it does not fit
pub too_high : (before byte : ℕ) (bytes : List ℕ) → 2 ^ 64 ≤ before * 10 + (byte - 48)
    → number_behind (before * 10 + (byte - 48)) bytes ≡ None
unfolding number_behind
too_high before byte bytes h =
    let next : ℕ = before * 10 + (byte - 48) in
    let over : ltb (value_behind next bytes) (2 ^ 64) ≡ false = le-ltb (value_behind next bytes) (2 ^ 64) (omega (arith, no_lower next bytes)) in
    rw (over, and-false)

nothing_left : (before : ℕ) → before < 2 ^ 64 → number_behind before [] ≡ Some before
unfolding number_behind are_digits value_behind
nothing_left before h = rw (lt-ltb before (2 ^ 64) h)

pub at_end : (before : ℕ) (word : List ℕ) (k : ℕ) → k ≡ length word → before < 2 ^ 64 → number_behind before (drop k word) ≡ Some before
at_end before word k e h = ap (number_behind before) (ap (λ (n : ℕ). drop n word) e ∙ drop-length word) ∙ nothing_left before h
