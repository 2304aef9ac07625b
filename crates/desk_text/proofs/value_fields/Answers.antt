-- `desk_text::value_fields` meets its contract: the word, and the value as a digit. Assumes nothing.
use Rattle.std.proofs.Common.{Bool, true, false, ◌≡◌, refl}
use mir.Val.{bool_byte}
use Rattle.rules.specs.Lists.{digit}
use Rattle.rules.specs.Listing.{word}
use Rattle.listing_lines.proofs.Text.{appended_as}
use Rattle.desk_text.specs.Desk.{parted, value_text}
use Rattle.desk_text.proofs.value_fields.Goals as goal

digit_is : (value : Bool) → bool_byte value ≡ digit value
digit_is true = refl
digit_is false = refl

pub returns-clause-appended : goal.returns-clause-appended
unfolding word parted value_text
returns-clause-appended c = appended_as (rw (c.from.ensures, digit_is c.args.value)) c.put_fields.ensures.appended
