-- `listing_lines::put_refusal` meets its contract: the refusal's number and its place fit a `usize`, and so have at
-- most twenty digits each. Assumes nothing.
use Prim.Native.Nat.{ℕ, ◌^◌, ◌<◌, ◌≤◌}
use native.Mathlib.Omega.{arith}
use lib.ListN.{length}
use Rattle.rules.specs.Listing.{word, decimal, line}
use Rattle.rule_laws.proofs.Decimal.{decimal_short}
use Rattle.listing_lines.proofs.Text.{appended_more}
use Rattle.listing_lines.proofs.put_refusal.Goals as goal

-- how many digits the number and the place have
digits : (number place : ℕ) → number < 2 ^ 64 → place < 2 ^ 64 → (length (decimal number) ≤ 20) × (length (decimal place) ≤ 20)
digits number place n p = (decimal_short 20 _ (omega arith) (omega arith), decimal_short 20 _ (omega arith) (omega arith))

pub put_field-place-requires : goal.put_field-place-requires
put_field-place-requires c = omega (arith, digits c.number_of.result c.args.refusal.place (omega arith) (omega arith))

pub put_field-end-requires : goal.put_field-end-requires
put_field-end-requires c = omega (arith, digits c.number_of.result c.args.refusal.place (omega arith) (omega arith))

pub put_byte-requires : goal.put_byte-requires
put_byte-requires c = omega (arith, digits c.number_of.result c.args.refusal.place (omega arith) (omega arith))

pub returns : goal.returns
unfolding word line
returns c =
    rw (← c.number_of.ensures)
    (appended_more c.put_word-number.ensures
    (appended_more c.put_field-place.ensures (appended_more c.put_field-end.ensures c.put_byte.ensures)))
