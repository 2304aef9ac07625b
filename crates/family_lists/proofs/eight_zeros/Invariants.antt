-- `family_lists::eight_zeros` meets its contract. The loop's invariant: the bytes passed, joined, are 0 just if each
-- of them is. Assumes nothing.
use Prim.Native.Nat.{ℕ, ◌<◌}
use mathlib.Core.Path.{◌≡◌}
use mathlib.Core.Logic.{◌↔◌}
use mathlib.Core.List.{List}
use lib.ListN.{get_or}
use Rattle.family_lists.proofs.eight_zeros.Given as goal

-- the first k bytes of a list are 0
abbrev pub Zeros : List ℕ → (k : ℕ) → Type 0
Zeros bytes k = (i : ℕ) → i < k → get_or bytes i 0 ≡ 0

abbrev pub invariant-loop-byte : goal.invariant-loop-byte
invariant-loop-byte l = l.joined ≡ 0 ↔ Zeros l.byte-items l.byte-index
