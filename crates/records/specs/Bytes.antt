-- The bytes of a record, and whether the rules accept it. Cited by the contracts of this crate and its callers'.
-- Assumes nothing.
use Rattle.std.specs.Prelude.{ℕ, ◌+◌, List, get_or}
use Rattle.rules.specs.Lists.{tabulate}
use Rattle.rules.specs.Records.{Record, most_body}
use Rattle.rules.specs.Checks.{Outcome, answered, and_then}
use Rattle.records.specs.declared.RecordBytes.{RecordBytes}

-- the bytes behind the kind byte at an offset of a file, as many as the longest body has
unfoldable pub body_at : List ℕ → (here : ℕ) → List ℕ
body_at bytes here = tabulate (λ j. get_or bytes (here + (1 + j)) 0) most_body

-- the bytes of the record there
abbrev pub record_bytes_at : List ℕ → (here : ℕ) → RecordBytes
record_bytes_at bytes here = record { kind = get_or bytes here 0; body = body_at bytes here }

-- whether the rules accept a record, where they judge it so
unfoldable pub accepted_if : Outcome Record → Outcome (Unit {0})
accepted_if o = and_then o (λ _. answered tt)
