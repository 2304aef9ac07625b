-- What the reply of this crate means in change request A5: for each case its number and values.
-- Promises use this. Assumes nothing.
use Rattle.std.specs.Prelude.{ℕ, Result}
use Rattle.rules.specs.declared.Refusal.{Refusal}
use Rattle.rules.specs.Checks.{Outcome}
use Rattle.rules.specs.Paper.{outcome_by}

-- the number of steps, or a refusal's number and place
abbrev pub derived_of : Result ℕ Refusal → Outcome ℕ
derived_of = outcome_by (λ count. count)
