-- A run of edits, as the contracts of this program tell it: of every standing that a turn has, the turn after a line
-- has the standing after it. What is read and whether a file could be written no contract can say, so each of these
-- says: there is such a thing. Assumes nothing.
use Rattle.std.specs.Prelude.{ℕ, ◌+◌, ◌≤◌, ◌≡◌, Bool, cond, List, length}
use Rattle.rules.specs.Records.{Netlist}
use Rattle.edit_turns.specs.declared.Turn.{Turn}
use Rattle.edit_turns.specs.Turns.{Standing, Event, line, failed, begun, after_event, after_events}
use Rattle.edit_turns.specs.Meaning.{Stands}
use Rattle.telgouin.specs.declared.editing.Line.{Line}

-- a line that was read is within its bytes
abbrev pub Fits : Line → Type 0
Fits (Line.Of count) = count ≤ 4097
Fits Line.Long = Unit {0}
Fits Line.End = Unit {0}
Fits Line.Failed = Unit {0}

-- after a file was written, or could not be
pub record Wrote (turn turn' : Turn) : Type 0 where
  pub is_written : Bool
  pub stands : (s : Standing) (work : List ℕ) → Stands s turn work → Stands (cond is_written s (failed s)) turn' work

-- after a line with this text
pub record Obeyed (text : List ℕ) (turn turn' : Turn) (work work' : List ℕ) : Type 0 where
  pub is_written : Bool
  pub stands : (s : Standing) → Stands s turn work → Stands (after_event s (line text is_written)) turn' work'

-- after one event
pub record Stepped (turn turn' : Turn) (work work' : List ℕ) : Type 0 where
  pub event : Event
  pub stands : (s : Standing) → Stands s turn work → Stands (after_event s event) turn' work'

-- after as many events as turns were used up
pub record Ran (turn turn' : Turn) (left left' : ℕ) (work work' : List ℕ) : Type 0 where
  pub events : List Event
  pub each : left' + length events ≡ left
  pub stands : (s : Standing) → Stands s turn work → Stands (after_events s events) turn' work'

-- after all edits of a block that was opened
pub record Edited (n : Netlist) (turn : Turn) (work : List ℕ) : Type 0 where
  pub events : List Event
  pub stands : Stands (after_events (begun n) events) turn work
