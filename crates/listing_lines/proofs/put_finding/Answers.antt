-- `listing_lines::put_finding` meets its contract: a word, or the node in at most three digits and the set
-- in at most four. Assumes nothing.
use Prim.Native.Nat.{ℕ, ◌≤◌}
use mathlib.Core.Path.{◌≡◌}
use native.Mathlib.Omega.{arith}
use lib.ListN.{length}
use Rattle.rules.specs.declared.Half.{Half}
use Rattle.rules.specs.declared.Half.TheVariants.{Suspect}
use Rattle.rules.specs.Listing.{word, decimal, line}
use Rattle.listing_lines.specs.Text.{Short, found_text}
use Rattle.rule_laws.proofs.Decimal.{decimal_short}
use Rattle.listing_lines.proofs.Text.{appended_more}
use Rattle.listing_lines.proofs.put_finding.Goals as goal

-- how many digits the node and the set have
digits : (half : Half) (i A : ℕ) → half ≡ Suspect i A → Short half → (length (decimal i) ≤ 3) × (length (decimal A) ≤ 4)
unfolding Short
digits half i A e short =
    let named : Short (Suspect i A) = rw e at short in
    (decimal_short 3 i (omega arith) (omega arith), decimal_short 4 A (omega arith) (omega arith))

pub put_field-behind-requires : goal.put_field-behind-requires
put_field-behind-requires c = omega (arith, digits _ _ _ c.in-Suspect.is c.requires.1)

pub put_field-end-requires : goal.put_field-end-requires
put_field-end-requires c = omega (arith, digits _ _ _ c.in-Suspect.is c.requires.1)

pub put_byte-requires : goal.put_byte-requires
put_byte-requires c = omega (arith, digits _ _ _ c.in-Suspect.is c.requires.1)

pub returns-in-Clear-clause-appended : goal.returns-in-Clear-clause-appended
unfolding word line found_text
returns-in-Clear-clause-appended c = rw c.in-Clear.is c.put_word.ensures

pub returns-in-Suspect-clause-appended : goal.returns-in-Suspect-clause-appended
unfolding word line found_text
returns-in-Suspect-clause-appended c =
    rw c.in-Suspect.is (appended_more c.put_field-behind.ensures (appended_more c.put_field-end.ensures c.put_byte.ensures))

pub returns-in-Suspect-clause-few : goal.returns-in-Suspect-clause-few
returns-in-Suspect-clause-few c = omega (arith, digits _ _ _ c.in-Suspect.is c.requires.1)
