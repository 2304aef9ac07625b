-- `family_lists::eight_zeros` meets its contract. The loop's invariant: the bytes passed, joined, are 0 just if each
-- of them is. Assumes nothing.
use Prim.Native.Nat.{ℕ, ◌+◌, ◌<◌, ◌≤◌}
use mathlib.Core.Path.{◌≡◌, refl, sym, ◌∙◌}
use mathlib.Core.Logic.{◌↔◌}
use mathlib.Core.List.{List}
use native.Mathlib.Omega.{arith}
use borrow.Author.Count.{below_more}
use borrow.Author.Tests.{eq-eqb}
use lib.Bits.{bit_or, or_add_and, and_le_l, and_le_r}
use lib.Dec.{T, eqb, eqb→eq}
use lib.ListN.{length, get_or, take, drop}
use Rattle.rule_laws.proofs.Tests.{pass}
use Rattle.family_lists.proofs.Eight.{eight_bytes, byte_at}
use Rattle.family_lists.proofs.eight_zeros.Invariants.{Zeros}
use Rattle.family_lists.proofs.eight_zeros.Goals as goal

both : (a b : ℕ) → bit_or a b ≡ 0 → (a ≡ 0) × (b ≡ 0)
both a b e = (omega (arith, or_add_and a b, and_le_r a b), omega (arith, or_add_and a b, and_le_l a b))

one_more : (bytes : List ℕ) (k joined : ℕ) → joined ≡ 0 ↔ Zeros bytes k → bit_or joined (get_or bytes k 0) ≡ 0 ↔ Zeros bytes (k + 1)
one_more bytes k joined so_far = (
  λ e. let (a, b) = both joined (get_or bytes k 0) e in below_more (λ i. get_or bytes i 0 ≡ 0) k (so_far.0 a) b,
  λ zeros. rw (so_far.1 (λ i l. zeros i (omega arith)), zeros k (omega arith)) refl,
)

-- those of a slice from `at` on, once all eight are passed
all_eight : (work : List ℕ) (at n k joined : ℕ) → n ≡ 8 → at + 8 ≤ length work → k ≤ length (take n (drop at work)) → length (take n (drop at work)) ≤ k
    → joined ≡ 0 ↔ Zeros (take n (drop at work)) k → T (eqb joined 0) ↔ ((i : ℕ) → i < 8 → get_or work (at + i) 0 ≡ 0)
all_eight work at n k joined e has few all zeros = (
  λ t i h. sym (byte_at work at n e i h) ∙ zeros.0 (eqb→eq joined 0 t) i (omega (arith, long)),
  λ each. pass (eq-eqb joined 0 (zeros.1 (λ i l. let h : i < 8 = omega (arith, long) in byte_at work at n e i h ∙ each i h))),
)
  where
    long : length (take n (drop at work)) ≡ 8
    long = eight_bytes work at n e has

pub loop-byte-init : goal.loop-byte-init
loop-byte-init c = (λ e i l. absurd (omega arith), λ zeros. refl)

pub loop-byte-preserved : goal.loop-byte-preserved
loop-byte-preserved c = one_more _ c.loop-byte.byte-index c.loop-byte.joined c.loop-byte.invariant

pub returns : goal.returns
returns c =
    all_eight c.args.work.now c.args.at _ c.loop-byte.byte-index c.loop-byte.joined (omega arith) c.requires (omega arith) c.loop-byte-test.false c.loop-byte.invariant
