-- The 1,024 sets in the order of their report, by number of variables and then by number. Cited by contracts;
-- that it is the rules' order is proved (`proofs/Order`). Assumes nothing.
use Rattle.std.specs.Prelude.{ℕ, zero, suc, ◌+◌, ◌^◌, List, [], ◌∷◌, ◌++◌, map, get_or}
use Rattle.rules.specs.Records.{most_variables}

-- the sets of k variables that hold n of them, from the lowest number on: those without the last
-- variable, then those with it
unfoldable pub sets_with : (k n : ℕ) → List ℕ
sets_with zero zero = 0 ∷ []
sets_with zero (suc n) = []
sets_with (suc k) zero = sets_with k zero
sets_with (suc k) (suc n) = sets_with k (suc n) ++ map (λ A. A + 2 ^ k) (sets_with k n)

-- those that hold fewer than n, by number of variables and then by number
unfoldable pub sets_with_fewer : (k n : ℕ) → List ℕ
sets_with_fewer k zero = []
sets_with_fewer k (suc n) = sets_with_fewer k n ++ sets_with k n

-- all sets of the ten variables, and the one at a place
unfoldable pub report_order : List ℕ
report_order = sets_with_fewer most_variables (suc most_variables)

unfoldable pub set_at : (place : ℕ) → ℕ
set_at place = get_or report_order place 0
