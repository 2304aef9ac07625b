-- What was read into so many bytes. Cited by the contracts of this crate. Assumes nothing.
use Rattle.std.specs.Prelude.{ℕ, List, Result, Ok, Err}
use Rattle.std.specs.declared.io.Error.{Error}
use Rattle.io.specs.Counts.{IsPrefixLen}

-- as many bytes as it says stand at the front
abbrev pub Front : Result ℕ Error → List ℕ → Type 0
Front (Ok count) into = IsPrefixLen count into
Front (Err _) into = Unit {0}
