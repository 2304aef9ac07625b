-- `listing_lines::put_node` meets its contract: the node's number in at most three digits, the kind's name,
-- and two counts in at most four. Assumes nothing.
use Prim.Native.Nat.{ℕ, ◌<◌, ◌≤◌}
use native.Mathlib.Omega.{arith}
use lib.ListN.{length}
use Rattle.rules.specs.Records.{most_nodes, most_sets}
use Rattle.rules.specs.Listing.{decimal, line}
use Rattle.rule_laws.proofs.Decimal.{decimal_short}
use Rattle.listing_lines.proofs.Text.{appended_more, appended_as}
use Rattle.listing_lines.proofs.put_node.Goals as goal

-- how many digits each number has
digits : (i settled glitch : ℕ) → i < most_nodes → settled ≤ most_sets → glitch ≤ most_sets
    → (length (decimal i) ≤ 3) × (length (decimal settled) ≤ 4) × (length (decimal glitch) ≤ 4)
digits i settled glitch n s g = (
  decimal_short 3 i (omega arith) (omega arith),
  decimal_short 4 settled (omega arith) (omega arith),
  decimal_short 4 glitch (omega arith) (omega arith),
)

pub put_decimal-blank-requires : goal.put_decimal-blank-requires
put_decimal-blank-requires c = omega (arith, digits c.args.i c.args.settled c.args.glitch (omega arith) (omega arith) (omega arith))

pub put_byte-name-requires : goal.put_byte-name-requires
put_byte-name-requires c = omega (arith, digits c.args.i c.args.settled c.args.glitch (omega arith) (omega arith) (omega arith))

pub put_word-first-requires : goal.put_word-first-requires
put_word-first-requires c = omega (arith, digits c.args.i c.args.settled c.args.glitch (omega arith) (omega arith) (omega arith))

pub put_field-second-requires : goal.put_field-second-requires
put_field-second-requires c = omega (arith, digits c.args.i c.args.settled c.args.glitch (omega arith) (omega arith) (omega arith))

pub put_field-end-requires : goal.put_field-end-requires
put_field-end-requires c = omega (arith, digits c.args.i c.args.settled c.args.glitch (omega arith) (omega arith) (omega arith))

pub put_byte-requires : goal.put_byte-requires
put_byte-requires c = omega (arith, digits c.args.i c.args.settled c.args.glitch (omega arith) (omega arith) (omega arith))

pub returns-clause-appended : goal.returns-clause-appended
unfolding line
returns-clause-appended c = λ cell e. appended_more c.put_decimal-blank.ensures
    (appended_more c.put_byte-name.ensures
    (appended_more (appended_as (c.name_of.ensures.named cell e) c.put_word-first.ensures)
    (appended_more c.put_field-second.ensures (appended_more c.put_field-end.ensures c.put_byte.ensures))))

pub returns-clause-few : goal.returns-clause-few
returns-clause-few c = omega (arith, digits c.args.i c.args.settled c.args.glitch (omega arith) (omega arith) (omega arith))
