-- `read_bytes::entry_of` meets its contract: bytes whose kind is none's say no node. Assumes nothing.
use native.Mathlib.Omega.{arith}
use Rattle.rule_laws.proofs.Records.{said_node}
use Rattle.read_bytes.proofs.entry_of.Goals as goal

pub returns-in-Ok : goal.returns-in-Ok
returns-in-Ok c cell e = c.entry_by.ensures cell (rw c.in-Ok.ensures e)

pub returns-in-Err : goal.returns-in-Err
returns-in-Err c cell e = let (above, below) = said_node _ _ cell e in absurd (omega (arith, c.in-Err.ensures))
