-- Runs of edits, computed: block A becomes block B by three lines, and with a line more that is at fault it does so
-- too, but the fault is told. Assumes nothing.
use mathlib.Core.Path.{◌≡◌, refl, sym}
use mathlib.Core.Bool.{Bool, true, false, false≢true}
use mathlib.Core.List.{List, [], ◌∷◌}
use Rattle.rules.specs.Records.{listed, first_of, kind_of}
use Rattle.rules.specs.Checks.{not_below}
use Rattle.rules.specs.Listing.{word, name_of}
use Rattle.rules.proofs.BlockCounts.{p9, p10}
use Rattle.scanner.specs.Numbers.{are_digits, value_behind, number_behind, number_in, cut}
use Rattle.scanner.specs.Words.{closed, words_behind, words, same}
use Rattle.read_words.specs.Words.{with_numbers, with_operands, forms, read_by, record_in}
use Rattle.edit_rules.specs.Edits.{otherwise, netlist_after}
use Rattle.edit_rules.proofs.Blocks.{edited_to}
use Rattle.edit_lines.specs.Asks.{addition, only, removal, written, alone, asked, stuck, unless_stuck, asks_in}
use Rattle.edit_turns.specs.Turns.{Standing, begun, one_more, turned_away, after_edit, failed, after_asks, after_line, unless_written, Event, line, unread, after_event, after_events, NothingAtFault}

-- to unfold it is to compute it
unfoldable ran : Standing → List Event → Standing
unfolding edited_to word kind_of are_digits value_behind number_behind number_in closed words_behind words same cut with_numbers with_operands not_below name_of listed first_of forms read_by record_in
    otherwise netlist_after addition only removal written alone asked stuck unless_stuck asks_in
    begun one_more turned_away after_edit failed after_asks after_line unless_written after_event after_events
ran s events = after_events s events

-- block B after three edits, and whether something was at fault
abbrev block_b : Bool → Standing
block_b faulty = record { netlist = p10; faulty = faulty; made = 3 }

-- block A's last gate is removed, and added again behind a register
abbrev lines : List Event
lines = line (word "remove 4") true ∷ line (word "add reg 3") true ∷ line (word "add xor 4 1") true ∷ []

a_to_b : ran (begun p9) lines ≡ block_b false
unfolding ran
a_to_b = refl

nothing_wrong : NothingAtFault (begun p9) lines
unfolding ran NothingAtFault
nothing_wrong = (refl, (refl, (refl, refl)))

-- a line that is refused, one that is misspelt, one whose file was not written, and one that was not read
abbrev refused_line : Event
refused_line = line (word "remove 3") true

abbrev misspelt : Event
misspelt = line (word "ad reg 3") true

abbrev unwritten : Event
unwritten = line (word "write b.txt") false

with_faults : (ran (begun p9) (refused_line ∷ lines) ≡ block_b true)
    × (ran (begun p9) (misspelt ∷ lines) ≡ block_b true)
    × (ran (begun p9) (unwritten ∷ lines) ≡ block_b true)
    × (ran (begun p9) (unread ∷ lines) ≡ block_b true)
unfolding ran
with_faults = (refl, refl, refl, refl)

-- so what is said of a run in which nothing was at fault is false of these
none_faultless : (¬ NothingAtFault (begun p9) (refused_line ∷ lines))
    × (¬ NothingAtFault (begun p9) (misspelt ∷ lines))
    × (¬ NothingAtFault (begun p9) (unwritten ∷ lines))
    × (¬ NothingAtFault (begun p9) (unread ∷ lines))
unfolding ran NothingAtFault
none_faultless = (λ h. false≢true (sym h.1.0), λ h. false≢true (sym h.1.0), λ h. false≢true (sym h.1.0), λ h. false≢true (sym h.1.0))

-- whether a file could be written says nothing of a line that asks for none
no_file : ran (begun p9) (line (word "list") false ∷ lines) ≡ block_b false
unfolding ran
no_file = refl
