-- A run of edits: it is told event by event, what was at fault stays told, and a clear answer at its end says what it
-- should of the block as it is now. Assumes nothing.
use Prim.Native.Nat.{ℕ, ◌*◌}
use native.Mathlib.Nat.{le_refl}
use mathlib.Core.Path.{◌≡◌, refl, sym, ap, subst, ◌∙◌}
use mathlib.Core.Bool.{Bool, true, false, cond, false≢true}
use mathlib.Core.List.{List, [], ◌∷◌, ◌++◌}
use lib.ListN.{length}
use Rattle.rules.specs.Families.{Findings, clear, findings}
use Rattle.rules.specs.Demands.{GlitchClear, NoSuspect}
use Rattle.rules.specs.Paper.{finding_of}
use Rattle.rule_laws.proofs.Halves.{half_clear}
use Rattle.rule_laws.proofs.Probe.{one_probe}
use Rattle.rule_laws.proofs.Room.{full_answer}
use Rattle.edit_lines.specs.Asks.{Asks, none, changes, lists, writes, quits, no_edit}
use Rattle.edit_turns.specs.declared.Turn.{Turn}
use Rattle.edit_turns.specs.Turns.{Standing, after_edit, failed, after_asks, after_line, unless_written, Event, line, unread, ended, after_event, after_events, NothingAtFault}
use Rattle.edit_turns.specs.Meaning.{Stands, Earned}

-- one event more
pub after_more : (s : Standing) (events : List Event) (e : Event) → after_events s (events ++ (e ∷ [])) ≡ after_event (after_events s events) e
unfolding after_events
after_more s [] e = refl
after_more s (event ∷ events) e = after_more (after_event s event) events e

-- ---- files

-- whether its file could be written is told of a line that asks for one, and of no other
pub file_told : (is_written : Bool) (asks : Asks) (name : List ℕ) (s : Standing) → asks ≡ writes name → unless_written is_written asks s ≡ cond is_written s (failed s)
unfolding unless_written
file_told is_written asks name s e = rw e

pub all_written : (asks : Asks) (s : Standing) → unless_written true asks s ≡ s
unfolding unless_written
all_written none s = refl
all_written (changes e) s = refl
all_written lists s = refl
all_written (writes name) s = refl
all_written quits s = refl
all_written no_edit s = refl

-- ---- what was at fault stays told

asks_stay : (s : Standing) (asks : Asks) → s.faulty ≡ true → (after_asks s asks).faulty ≡ true
unfolding after_asks after_edit failed
asks_stay s none h = h
asks_stay s (changes e) h = rw h
asks_stay s lists h = h
asks_stay s (writes name) h = h
asks_stay s quits h = h
asks_stay s no_edit h = refl

unwritten_stays : (is_written : Bool) (asks : Asks) (s : Standing) → s.faulty ≡ true → (unless_written is_written asks s).faulty ≡ true
unfolding unless_written failed
unwritten_stays is_written none s h = h
unwritten_stays is_written (changes e) s h = h
unwritten_stays is_written lists s h = h
unwritten_stays true (writes name) s h = h
unwritten_stays false (writes name) s h = refl
unwritten_stays is_written quits s h = h
unwritten_stays is_written no_edit s h = h

pub fault_stays : (s : Standing) (e : Event) → s.faulty ≡ true → (after_event s e).faulty ≡ true
unfolding after_event after_line failed
fault_stays s (line text is_written) h = unwritten_stays is_written _ _ (search asks_stay)
fault_stays s unread h = refl
fault_stays s ended h = h

pub faults_stay : (s : Standing) (events : List Event) → s.faulty ≡ true → (after_events s events).faulty ≡ true
unfolding after_events
faults_stay s [] h = h
faults_stay s (event ∷ events) h = faults_stay (after_event s event) events (fault_stays s event h)

none_before : (s : Standing) (events : List Event) → (after_events s events).faulty ≡ false → s.faulty ≡ false
none_before s events h = go s.faulty refl
  where
    go : (b : Bool) → s.faulty ≡ b → s.faulty ≡ false
    go false e = e
    go true e = absurd (false≢true (sym h ∙ faults_stay s events e))

-- so where none is told at the end, nothing was at fault
pub nothing_at_fault : (s : Standing) (events : List Event) → (after_events s events).faulty ≡ false → NothingAtFault s events
unfolding after_events NothingAtFault
nothing_at_fault s [] h = h
nothing_at_fault s (event ∷ events) h = (none_before s (event ∷ events) h, nothing_at_fault (after_event s event) events h)

-- ---- what a clear answer says of the block as it is now

pub earned : {s : Standing} {turn : Turn} {work : List ℕ} → Stands s turn work → turn.faulty ≡ false
    → finding_of turn.answer.glitch ≡ clear → Earned s
unfolding findings NoSuspect GlitchClear
earned {s} {turn} {work} stands none_told is-clear =
    let n = s.netlist in
    let obeys = stands.is.obeys in
    let now_clear : (findings n).glitch ≡ clear = sym (ap (λ (f : Findings). f.glitch) stands.answers) ∙ is-clear in
    let whole = full_answer n (length n.nodes) (256 * length n.nodes) obeys (record { enough_entries = le_refl _; enough_work = le_refl _ }) in
    record {
      no_fault = sym stands.faults ∙ none_told;
      obeys = obeys;
      no_suspect = (half_clear (λ F. F.glitch) n).0 now_clear;
      probe = one_probe _ _ _ (subst GlitchClear (sym whole) now_clear);
    }

-- of a run: nothing was at fault, from its first event to its last
pub run_earned : (s : Standing) {turn : Turn} {work : List ℕ} (events : List Event) → Stands (after_events s events) turn work → turn.faulty ≡ false
    → finding_of turn.answer.glitch ≡ clear → NothingAtFault s events × Earned (after_events s events)
run_earned s events stands none_told is-clear =
    let all = earned stands none_told is-clear in
    (nothing_at_fault s events all.no_fault, all)
