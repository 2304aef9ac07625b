-- The number that a word is in decimal digits. Cited by the contracts of this crate. Assumes nothing.
use Rattle.std.specs.Prelude.{ℕ, ◌+◌, ◌*◌, ◌-◌, ◌^◌, min, Bool, true, ◌&&◌, cond, Option, Some, None, List, [], ◌∷◌, leb, ltb, eqb, length}

-- whether a byte is a decimal digit, `0` to `9`
abbrev pub is_digit : ℕ → Bool
is_digit byte = leb 48 byte && leb byte 57

unfoldable pub are_digits : List ℕ → Bool
are_digits [] = true
are_digits (byte ∷ bytes) = is_digit byte && are_digits bytes

-- what digits say in base ten, behind a number that the digits before them say
unfoldable pub value_behind : ℕ → List ℕ → ℕ
value_behind before [] = before
value_behind before (byte ∷ bytes) = value_behind (before * 10 + (byte - 48)) bytes

-- the same as a number of the program, if they are digits and it is below 2 to the power 64
unfoldable pub number_behind : ℕ → List ℕ → Option ℕ
number_behind before bytes =
    cond (are_digits bytes && ltb (value_behind before bytes) (2 ^ 64)) (Some (value_behind before bytes)) None

-- the number that a word is: it has at least one digit
unfoldable pub number_in : List ℕ → Option ℕ
number_in word = cond (eqb (length word) 0) None (number_behind 0 word)

-- a number below a limit, and else that limit
unfoldable pub cut : (limit : ℕ) → Option ℕ → ℕ
cut limit (Some number) = min number limit
cut limit None = limit
