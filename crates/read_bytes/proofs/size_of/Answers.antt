-- `read_bytes::size_of` meets its contract: a number above the last is no kind's. Assumes nothing.
use native.Mathlib.Omega.{arith}
use Rattle.read_bytes.proofs.size_of.Goals as goal

pub returns-in-Ok-clause-size : goal.returns-in-Ok-clause-size
returns-in-Ok-clause-size c body p q = rw c.in-Ok.ensures at (c.size_by.ensures.size body (rw c.in-Ok.ensures p))

pub returns-in-Err-clause-size : goal.returns-in-Err-clause-size
returns-in-Err-clause-size c body p q = absurd (omega (arith, c.in-Err.ensures))
