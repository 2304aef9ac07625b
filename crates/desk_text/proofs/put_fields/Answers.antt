-- `desk_text::put_fields` meets its contract: the words, and behind them the numbers. Assumes nothing.
use Rattle.listing_lines.proofs.Text.{appended_more}
use Rattle.desk_text.proofs.put_fields.Goals as goal

pub returns-clause-appended : goal.returns-clause-appended
returns-clause-appended c = appended_more c.put_word-numbers_at.ensures c.put_numbers.ensures.appended
