-- The block after a line is what the line leaves, also where a file could not be written.
use Rattle.std.proofs.Common.{true, sym}
use Rattle.edit_turns.specs.Turns.{after_line, after_event}
use Rattle.edit_turns.proofs.Runs.{file_told, all_written}
use Rattle.telgouin.proofs.editing.obey.Goals as goal

pub returns-in-Write : goal.returns-in-Write
unfolding after_event after_line
returns-in-Write g c =
    let obeyed = c.obey-obeyed.ensures in
    let asks = sym (rw c.in-Write.is at obeyed.asked) in
    record {
      is_written = c.write.ensures.is_written;
      stands = λ s stands. rw (file_told _ _ _ _ asks) (c.write.ensures.stands _ _ (obeyed.answers s stands).stands);
    }

pub returns-in-List : goal.returns-in-List
unfolding after_event after_line
returns-in-List g c =
    let obeyed = c.obey-obeyed.ensures in
    record { is_written = true; stands = λ s stands. rw all_written (obeyed.answers s stands).stands }

pub returns-in-Quit : goal.returns-in-Quit
unfolding after_event after_line
returns-in-Quit g c =
    let obeyed = c.obey-obeyed.ensures in
    record { is_written = true; stands = λ s stands. rw all_written (obeyed.answers s stands).stands }

pub returns-in_default : goal.returns-in_default
unfolding after_event after_line
returns-in_default g c =
    let obeyed = c.obey-obeyed.ensures in
    record { is_written = true; stands = λ s stands. rw all_written (obeyed.answers s stands).stands }
