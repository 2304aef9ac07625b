-- `write_words::word_netlist` meets its contract: a netlist is within the limits, and the lines of its variables,
-- those of its nodes and the end go one behind the other. Assumes nothing.
use Rattle.rules.specs.Listing.{word, line}
use Rattle.listing_lines.proofs.Text.{appended_more, appended_size, appended_whole}
use Rattle.write_bytes.proofs.Records.{beyond}
use Rattle.write_words.specs.Worded.{record_words, record_line, worded_out}
use Rattle.write_words.proofs.word_netlist.Goals as goal

pub returns-then-netlist-gt-MOST_VARIABLES-clause-long : goal.returns-then-netlist-gt-MOST_VARIABLES-clause-long
returns-then-netlist-gt-MOST_VARIABLES-clause-long c = λ n w e. absurd (beyond n w e c.then-netlist-gt-MOST_VARIABLES.either)

pub returns-then-netlist-gt-MOST_VARIABLES-clause-words : goal.returns-then-netlist-gt-MOST_VARIABLES-clause-words
returns-then-netlist-gt-MOST_VARIABLES-clause-words c = λ n w e. absurd (beyond n w e c.then-netlist-gt-MOST_VARIABLES.either)

pub returns-clause-long : goal.returns-clause-long
unfolding word line record_words record_line worded_out
returns-clause-long c = λ n w e. appended_size
    (appended_more (appended_more (c.put_variables-first.ensures.appended n e) (c.put_nodes-end.ensures.appended n e)) c.put_word.ensures)

pub returns-clause-words : goal.returns-clause-words
unfolding word line record_words record_line worded_out
returns-clause-words c = λ n w e. appended_whole
    (appended_more (appended_more (c.put_variables-first.ensures.appended n e) (c.put_nodes-end.ensures.appended n e)) c.put_word.ensures)
