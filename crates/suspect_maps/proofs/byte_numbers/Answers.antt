-- `suspect_maps::byte_numbers` meets its contract. The loop's invariant: each entry passed is its own number.
-- Assumes nothing.
use Prim.Native.Nat.{ℕ}
use mathlib.Core.Path.{sym, ◌∙◌}
use native.Mathlib.Omega.{arith}
use lib.Seq.{ext_get_or}
use Rattle.rule_laws.proofs.Packing.{tabulate_length, tabulate_at}
use Rattle.suspect_maps.proofs.byte_numbers.Goals as goal

pub returns : goal.returns
returns c =
    ext_get_or 0 _ _ (c.loop-j-test.array_long ∙ sym (tabulate_length (λ (j : ℕ). j) 128))
    (λ j l. c.loop-j.invariant j (omega (arith, c.loop-j-test.array_long)) ∙ sym (tabulate_at (λ (j : ℕ). j) 128 j 0 (omega arith)))
