-- A run of edits of an open block, line by line: the block after a line is the one before it with just that line's
-- edit. Every slice holds every netlist. Assumes nothing.
use Rattle.std.specs.Prelude.{ℕ, suc, ◌-◌, ◌^◌, min, ◌≡◌, Bool, true, false, cond, ◌||◌, List, [], ◌∷◌}
use Rattle.rules.specs.Records.{Netlist, most_nodes}
use Rattle.rules.specs.Families.{Findings, findings}
use Rattle.rules.specs.Checks.{Outcome, answered, refused, most_work}
use Rattle.edit_rules.specs.Edits.{Edit, edited, netlist_after, reply_after}
use Rattle.edit_lines.specs.Asks.{Asks, none, changes, lists, writes, quits, no_edit, asks_in}

-- Where a run stands: the block as it is now, whether something was at fault, and how many edits were made.
pub record Standing : Type 0 where
  pub netlist : Netlist
  pub faulty : Bool
  pub made : ℕ

-- a block that was opened
unfoldable pub begun : Netlist → Standing
begun n = record { netlist = n; faulty = false; made = 0 }

-- one more, as far as a number of the program goes
unfoldable pub one_more : ℕ → ℕ
one_more k = min (suc k) (2 ^ 64 - 1)

unfoldable pub turned_away : Outcome Netlist → Bool
turned_away (answered n) = false
turned_away (refused k p) = true

-- after an edit, made or refused
unfoldable pub after_edit : Standing → Edit → Standing
after_edit s e =
    let away = turned_away (edited s.netlist e most_nodes most_work) in
    record {
      netlist = netlist_after s.netlist e most_nodes most_work;
      faulty = s.faulty || away;
      made = cond away s.made (one_more s.made);
    }

-- after something that could not be obeyed: the block stays as it is
unfoldable pub failed : Standing → Standing
failed s = record { netlist = s.netlist; faulty = true; made = s.made }

-- after what a line asks for
unfoldable pub after_asks : Standing → Asks → Standing
after_asks s none = s
after_asks s (changes e) = after_edit s e
after_asks s lists = s
after_asks s (writes name) = s
after_asks s quits = s
after_asks s no_edit = failed s

unfoldable pub after_line : Standing → (line : List ℕ) → Standing
after_line s line = after_asks s (asks_in line)

-- the reply to a line: to an edit its own, and else the answer for the block as it is
unfoldable pub reply_to : Netlist → Asks → Outcome Findings
reply_to n none = answered (findings n)
reply_to n (changes e) = reply_after n e most_nodes most_work
reply_to n lists = answered (findings n)
reply_to n (writes name) = answered (findings n)
reply_to n quits = answered (findings n)
reply_to n no_edit = answered (findings n)

-- ---- a run

-- What a turn of the run meets: a line, and whether the file that it asks for could be written; a line that is too
-- long, or input that cannot be read; or the end of the input.
pub data Event : Type 0 where
  line : (text : List ℕ) (is_written : Bool) → Event
  unread : Event
  ended : Event

-- what a line leaves, whose file could not be written if it asks for one
unfoldable pub unless_written : (is_written : Bool) → Asks → Standing → Standing
unless_written is_written none s = s
unless_written is_written (changes e) s = s
unless_written is_written lists s = s
unless_written is_written (writes name) s = cond is_written s (failed s)
unless_written is_written quits s = s
unless_written is_written no_edit s = s

unfoldable pub after_event : Standing → Event → Standing
after_event s (line text is_written) = unless_written is_written (asks_in text) (after_line s text)
after_event s unread = failed s
after_event s ended = s

unfoldable pub after_events : Standing → List Event → Standing
after_events s [] = s
after_events s (event ∷ events) = after_events (after_event s event) events

-- nothing was at fault, from the first event to the last
unfoldable pub NothingAtFault : Standing → List Event → Type 0
NothingAtFault s [] = s.faulty ≡ false
NothingAtFault s (event ∷ events) = (s.faulty ≡ false) × NothingAtFault (after_event s event) events
