-- Where a scan of a text from a place on stops: at the first letter that passes a test, or at the end. Assumes nothing.
use Rattle.std.proofs.Common.{◌≡◌, ℕ, suc, ◌+◌, ◌-◌, ◌<◌, ◌≤◌, Bool, not, Option, Some, None, List, length, take, drop, arith, sym}
use Rattle.std.specs.List.{position, position_or_len}
use Rattle.std.specs.Option.{unwrap_or}
use Rattle.std.proofs.lemmas.List.Sums.{prefix_len-le-length}
use lib.Seq.{take_all}
use lib.ListN.{length-drop}

-- what stands behind a place, up to the end of the text
pub to_the_end : (at : ℕ) (text : List ℕ) → take (length text - at) (drop at text) ≡ drop at text
to_the_end at text = take_all (length text - at) (drop at text) (omega (arith, length-drop at text))

-- a scan passes a letter
pub one_add : (n : ℕ) → 1 + n ≡ suc n
one_add n = omega arith

found : (test : ℕ → Bool) (text : List ℕ) (n : ℕ) → Some n ≡ position test text → (n ≡ position_or_len test text) × (n < length text)
found test text n e = grind arith

not_found : (test : ℕ → Bool) (text : List ℕ) → None ≡ position test text → position_or_len test text ≡ length text
not_found test text e =
    let most : position_or_len test text ≤ length text = prefix_len-le-length (λ x. not (test x)) text in
    grind arith

module _ (test : ℕ → Bool) (text : List ℕ) (at : ℕ) where
  abbrev behind : List ℕ
  behind = take (length text - at) (drop at text)

  pub stops : (n : ℕ) → Some n ≡ position test behind → (n ≡ position_or_len test (drop at text)) × (at + n < length text)
  stops n e =
      let (is, inside) = found test (drop at text) n (rw to_the_end at e) in
      (is, omega (arith, length-drop at text))

  pub stops_nowhere : None ≡ position test behind → position_or_len test (drop at text) ≡ length text - at
  stops_nowhere e = omega (arith, not_found test (drop at text) (rw to_the_end at e), length-drop at text)

  pub stops_or_ends : at ≤ length text → (o : Option ℕ) → o ≡ position test behind
      → (unwrap_or o (length text - at) ≡ position_or_len test (drop at text)) × (at + unwrap_or o (length text - at) ≤ length text)
  stops_or_ends h None e = (sym (stops_nowhere e), omega arith)
  stops_or_ends h (Some n) e = let (is, inside) = stops n e in (is, omega arith)
