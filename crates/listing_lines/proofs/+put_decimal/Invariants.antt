-- The measure is the number, which falls when its last digit goes.
use Rattle.listing_lines.proofs.+put_decimal.Given as goal

abbrev pub decreases-put_decimal : goal.decreases-put_decimal
decreases-put_decimal l = l.number
