-- `read_bytes::size_by` meets its contract: a variable has one byte behind its kind byte, an input two, and every other
-- node one for each operand. Assumes nothing.
use mathlib.Core.Path.{◌≡◌, sym, ◌∙◌}
use native.Mathlib.Omega.{arith}
use Rattle.rules.specs.Records.{operand_count, first_of, gate, said, size, record_bytes, kind_of, body, operands}
use Rattle.rule_laws.proofs.Records.{says_gate}
use Rattle.netlists.specs.Kinds.{byte_of}
use Rattle.netlists.proofs.Bytes.{last_byte, input_byte, variable_byte}
use Rattle.read_bytes.proofs.size_by.Goals as goal

pub returns-in-Variable-clause-size : goal.returns-in-Variable-clause-size
unfolding said size record_bytes
returns-in-Variable-clause-size c body p = rw c.in-Variable.is

pub returns-in-Input-clause-size : goal.returns-in-Input-clause-size
unfolding said size record_bytes kind_of body
returns-in-Input-clause-size c body p = rw c.in-Input.is

pub returns-in_default : goal.returns-in_default
unfolding size record_bytes body kind_of operands
returns-in_default c = record {
  size = λ body p.
      let k = byte_of c.args.kind in
      let not_variable : k ≡ 1 → ⊥ = λ e. c.in_default.not-Variable (variable_byte c.args.kind e) in
      let not_input : k ≡ 2 → ⊥ = λ e. c.in_default.not-Input (input_byte c.args.kind e) in
      let (kind, number, says) = says_gate k body (omega arith) (last_byte c.args.kind) in
      rw (says, c.operand_count.ensures.value (gate kind (first_of (operand_count kind) body)) (c.byte.ensures ∙ sym number)) (omega arith);
  few = omega (arith, c.operand_count.ensures.few);
}
