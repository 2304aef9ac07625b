-- `netlists::operand_count` meets its contract: each kind's count is that of the table of the kinds. Assumes nothing.
use Prim.Native.Nat.{ℕ}
use mathlib.Core.Path.{◌≡◌, sym, ap, ◌∙◌}
use mathlib.Core.Logic.{inl, inr}
use native.Mathlib.Omega.{arith}
use lib.ListN.{length, get_or}
use Rattle.rules.specs.Records.{Cell, kind_of, operands}
use Rattle.rule_laws.proofs.Operands.{counts, last_most, operands_counted}
use Rattle.netlists.specs.declared.Kind.{Kind}
use Rattle.netlists.specs.Kinds.{byte_of}
use Rattle.netlists.proofs.operand_count.Goals as goal

-- of a node's kind, by the entry of the table at its number
counted : (kind own : Kind) → kind ≡ own → (number : ℕ) → byte_of kind ≡ number
    → (cell : Cell) → number ≡ kind_of cell → get_or counts (byte_of own) 0 ≡ length (operands cell)
counted kind own is number read cell e =
    ap (λ (k : Kind). get_or counts (byte_of k) 0) (sym is) ∙ ap (λ (k : ℕ). get_or counts k 0) (read ∙ e) ∙ operands_counted cell

pub returns-in_default-clause-value : goal.returns-in_default-clause-value
returns-in_default-clause-value c = λ cell e. absurd (omega (arith, last_most cell, c.in_default.ensures))

pub returns-in-End-clause-value : goal.returns-in-End-clause-value
returns-in-End-clause-value c = λ cell e. elim c.in-End.is [
  | inl is ↦ counted _ _ is _ c.in-Ok.ensures cell e
  | inr (inl is) ↦ counted _ _ is _ c.in-Ok.ensures cell e
  | inr (inr is) ↦ counted _ _ is _ c.in-Ok.ensures cell e
]

pub returns-in-Not-clause-value : goal.returns-in-Not-clause-value
returns-in-Not-clause-value c = λ cell e. elim c.in-Not.is [
  | inl is ↦ counted _ _ is _ c.in-Ok.ensures cell e
  | inr is ↦ counted _ _ is _ c.in-Ok.ensures cell e
]

pub returns-in-Xor-clause-value : goal.returns-in-Xor-clause-value
returns-in-Xor-clause-value c = λ cell e. elim c.in-Xor.is [
  | inl is ↦ counted _ _ is _ c.in-Ok.ensures cell e
  | inr (inl is) ↦ counted _ _ is _ c.in-Ok.ensures cell e
  | inr (inr is) ↦ counted _ _ is _ c.in-Ok.ensures cell e
]
