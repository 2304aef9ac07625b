-- What the code's turn means: a block that is held by value, with where the run of its edits stands. Promises use this.
-- Assumes nothing.
use Rattle.std.specs.Prelude.{Result, Ok, Err}
use Rattle.rules.specs.declared.Refusal.{Refusal}
use Rattle.rules.specs.declared.Answer.{Answer}
use Rattle.std.specs.Prelude.{ℕ, ◌≡◌, true, false, List}
use Rattle.rules.specs.Records.{WellFormed, written_out}
use Rattle.rules.specs.Families.{findings}
use Rattle.rules.specs.Demands.{NoSuspect, OneProbe}
use Rattle.rules.specs.Paper.{findings_of, reply_of}
use Rattle.held_blocks.specs.declared.HeldBlock.{HeldBlock}
use Rattle.held_blocks.specs.Held.{IsHeld}
use Rattle.edit_lines.specs.Asks.{Asks}
use Rattle.edit_turns.specs.declared.Turn.{Turn}
use Rattle.edit_turns.specs.declared.Told.{Told}
use Rattle.edit_turns.specs.Turns.{Standing, one_more, after_asks, reply_to}

-- the block is held over these work bytes, and its answer is at hand
pub record Stands (s : Standing) (turn : Turn) (work : List ℕ) : Type 0 where
  pub is : IsHeld s.netlist turn.netlist turn.marks work
  pub answers : findings_of turn.answer ≡ findings s.netlist
  pub faults : turn.faulty ≡ s.faulty
  pub counts : turn.made ≡ s.made

-- what a turn and its reply are once a line asked for this
pub record Answers (s : Standing) (asks : Asks) (told : Told) (work : List ℕ) : Type 0 where
  pub stands : Stands (after_asks s asks) told.turn work
  pub replies : reply_of told.reply ≡ reply_to s.netlist asks

-- What a run has earned where nothing was at fault and the answer at hand is clear for glitching signals:
-- no tested node's glitch family of the block as it is now holds a suspect set, and one probe learns nothing of it.
-- The block obeys the record rules, so its bytes are read as it is.
pub record Earned (s : Standing) : Type 0 where
  pub no_fault : s.faulty ≡ false
  pub obeys : WellFormed s.netlist
  pub no_suspect : NoSuspect s.netlist
  pub probe : OneProbe (written_out s.netlist)

-- ---- below the entry points

-- the turn once an edit gave this: its reply, and the netlist and its marks as they then are
abbrev pub turned_by : Result Answer Refusal → Turn → HeldBlock → Turn
turned_by (Err r) turn changed = record { netlist = changed.netlist; marks = changed.marks; answer = turn.answer; faulty = true; made = turn.made }
turned_by (Ok a) turn changed = record {
  netlist = changed.netlist;
  marks = changed.marks;
  answer = a;
  faulty = turn.faulty;
  made = one_more turn.made;
}

abbrev pub turned_of : Turn → HeldBlock → Turn
turned_of turn changed = turned_by changed.reply turn changed

-- a turn with its own answer for the reply
abbrev pub unchanged_of : Turn → Told
unchanged_of turn = record { turn = turn; reply = Ok turn.answer }
