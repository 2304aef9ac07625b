-- Bytes that are copied into a part of a slice are a text behind its front. Assumes nothing.
use Prim.Native.Nat.{ℕ, ◌+◌, ◌≤◌}
use mathlib.Core.Path.{◌≡◌}
use mathlib.Core.List.{List}
use native.Mathlib.Omega.{arith}
use borrow.Rule.Slice.PartMut.{put_mid}
use lib.ListN.{length, length-append, length-take, length-drop}
use Rattle.std.proofs.lemmas.Slice.{take-put_mid, drop-put_mid}
use Rattle.listing_lines.specs.Text.{Appended}

pub appended_part : (slice : List ℕ) (from k next : ℕ) (text : List ℕ) → length text ≡ k → next ≡ from + k → next ≤ length slice
    → Appended slice (put_mid from k slice text) from next text
appended_part slice from k next text size end room = record {
  place = omega arith;
  bytes = take-put_mid from k slice text next (omega arith) (omega arith);
  beyond = drop-put_mid from k slice text next (omega arith) (omega arith) size;
  long = simp (length-append, length-take, length-drop) (omega arith);
}
