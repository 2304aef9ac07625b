-- The reply of `derive` in one number, for the benchmark. Cited by the contract of this crate. Assumes nothing.
use Rattle.std.specs.Prelude.{ℕ, ◌+◌, ◌*◌, ◌%◌}
use Rattle.rules.specs.Checks.{Outcome, answered, refused}

-- the number of steps; of a refusal 4,096 times its number, and its place
unfoldable pub packed_steps : Outcome ℕ → ℕ
packed_steps (answered count) = count
packed_steps (refused number place) = number % 4096 * 4096 + place % 4096
