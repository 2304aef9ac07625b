-- `write_words::put_node` meets its contract: the name of the kind, the numbers behind it, and a line feed.
-- Assumes nothing.
use Rattle.listing_lines.proofs.Text.{appended_more, appended_as}
use Rattle.write_words.specs.Worded.{numbers_of, record_words, record_line}
use Rattle.write_words.proofs.Worded.{line_fields, kind_of_lem}
use Rattle.write_words.proofs.put_node.Goals as goal

pub returns-clause-appended : goal.returns-clause-appended
unfolding record_words record_line
returns-clause-appended c = λ cell e.
    appended_as (line_fields _ (numbers_of cell))
    (appended_more (appended_more (appended_as (c.name_of.ensures.named cell (kind_of_lem cell e)) c.put_word-name.ensures)
    (c.put_numbers-end.ensures.appended cell e)) c.put_byte.ensures)
