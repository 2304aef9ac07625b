-- `listing_lines::put_counts` meets its contract: word and number by turns, the number of variables in at most two
-- digits and that of the nodes in at most three. Assumes nothing.
use Prim.Native.Nat.{ℕ, ◌≤◌}
use native.Mathlib.Omega.{arith}
use lib.ListN.{length}
use Rattle.rules.specs.Records.{most_variables, most_nodes}
use Rattle.rules.specs.Listing.{word, decimal, line}
use Rattle.rule_laws.proofs.Decimal.{decimal_short}
use Rattle.listing_lines.proofs.Text.{appended_more}
use Rattle.listing_lines.proofs.put_counts.Goals as goal

-- how many digits each number has
digits : (variables count : ℕ) → variables ≤ most_variables → count ≤ most_nodes
    → (length (decimal variables) ≤ 2) × (length (decimal count) ≤ 3)
digits variables count v n = (decimal_short 2 variables (omega arith) (omega arith), decimal_short 3 count (omega arith) (omega arith))

pub put_field-middle-requires : goal.put_field-middle-requires
put_field-middle-requires c = omega (arith, digits c.args.variables c.args.count (omega arith) (omega arith))

pub put_word-second-requires : goal.put_word-second-requires
put_word-second-requires c = omega (arith, digits c.args.variables c.args.count (omega arith) (omega arith))

pub put_field-end-requires : goal.put_field-end-requires
put_field-end-requires c = omega (arith, digits c.args.variables c.args.count (omega arith) (omega arith))

pub put_byte-requires : goal.put_byte-requires
put_byte-requires c = omega (arith, digits c.args.variables c.args.count (omega arith) (omega arith))

pub returns-clause-appended : goal.returns-clause-appended
unfolding word line
returns-clause-appended c =
    appended_more c.put_word-first.ensures
    (appended_more c.put_field-middle.ensures
    (appended_more c.put_word-second.ensures (appended_more c.put_field-end.ensures c.put_byte.ensures)))

pub returns-clause-few : goal.returns-clause-few
returns-clause-few c = omega (arith, digits c.args.variables c.args.count (omega arith) (omega arith))
