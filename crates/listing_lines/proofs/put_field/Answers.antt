-- `listing_lines::put_field` meets its contract: the number is behind a blank. Assumes nothing.
use Rattle.listing_lines.proofs.Text.{appended_more}
use Rattle.listing_lines.proofs.put_field.Goals as goal

pub returns : goal.returns
returns c = appended_more c.put_byte-behind.ensures c.put_decimal.ensures
