-- Secrets and masks as sets, and what an answer reports. Cited by the contracts of this crate and its callers'.
-- Assumes nothing.
use Rattle.std.specs.Prelude as Prelude
use Rattle.std.specs.Prelude.{ℕ, ◌≡◌, List, map, Some, None}
use Rattle.std.proofs.Math.Option.{Option, none, some}
use Rattle.rules.specs.Records.{Class, secret, mask, number}
use Rattle.rules.specs.Values.{same}
use Rattle.suspect_sets.specs.declared.Classes.{Classes}

-- the variables of a class, as a set
unfoldable pub variables_of : Class → List Class → ℕ
variables_of class variables = number (map (same class) variables)

-- these are the secrets and the masks among the variables
pub record ByClass (classes : Classes) (variables : List Class) : Type 0 where
  pub secrets : classes.secrets ≡ variables_of secret variables
  pub masks : classes.masks ≡ variables_of mask variables

-- the set that an answer reports, if it has one
unfoldable pub report_of : Prelude.Option ℕ → Option ℕ
report_of None = none
report_of (Some A) = some A
