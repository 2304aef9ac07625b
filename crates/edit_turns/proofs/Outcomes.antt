-- What a turn is once a block was opened or edited, by the reply. Assumes nothing.
use Rattle.std.specs.Prelude.{Result, Ok, Err}
use Prim.Native.Nat.{ℕ}
use mathlib.Core.Path.{◌≡◌, sym, ap, ◌∙◌}
use mathlib.Core.Bool.{cond, ◌||◌, or-true, or-false}
use mathlib.Core.List.{List}
use Rattle.rules.specs.declared.Answer.{Answer}
use Rattle.rules.specs.declared.Refusal.{Refusal}
use Rattle.rules.specs.Records.{Netlist, most_nodes}
use Rattle.rules.specs.Families.{findings}
use Rattle.rules.specs.Checks.{Outcome, answered, refused, and_then, admitted, most_work}
use Rattle.rules.specs.Slices.{reply}
use Rattle.rules.specs.Paper.{findings_of, reply_of}
use Rattle.edit_rules.specs.Edits.{Edit, edited, otherwise, netlist_after, reply_after}
use Rattle.held_blocks.specs.declared.HeldBlock.{HeldBlock}
use Rattle.held_blocks.specs.Held.{IsHeld}
use Rattle.edit_lines.specs.Asks.{Asks, changes}
use Rattle.edit_turns.specs.declared.Turn.{Turn}
use Rattle.edit_turns.specs.Turns.{Standing, one_more, turned_away, after_edit, after_asks, reply_to}
use Rattle.edit_turns.specs.Meaning.{Stands, Answers, turned_by, turned_of, unchanged_of}

-- ---- an opening

-- an answer at hand is the netlist's
pub opened_answer : (n : Netlist) (a : Answer) → reply_of (Ok a) ≡ answered (findings n) → findings_of a ≡ findings n
opened_answer n a says = cc

-- a block that is admitted is answered
pub admitted_reply : (bytes : List ℕ) (entries work : ℕ) (n : Netlist) → admitted bytes entries work ≡ answered n → reply bytes entries work ≡ answered (findings n)
unfolding reply and_then
admitted_reply bytes entries work n admits = rw admits

-- and not refused
pub not_opened : (n : Netlist) (r : Refusal) → reply_of (Err r) ≡ answered (findings n) → ⊥
not_opened n r says = cc

-- ---- an edit

module _ (s : Standing) (turn : Turn) (changed : HeldBlock) (before after : List ℕ)
    (stands : Stands s turn before) where
  -- by what the edit comes to
  stands_after : (o : Outcome Netlist) (r : Result Answer Refusal) → reply_of r ≡ and_then o (λ m. answered (findings m))
      → IsHeld (otherwise s.netlist o) changed.netlist changed.marks after
      → Stands (record { netlist = otherwise s.netlist o; faulty = s.faulty || turned_away o; made = cond (turned_away o) s.made (one_more s.made) })
      (turned_by r turn changed) after
  unfolding and_then otherwise turned_away
  stands_after (answered m) (Ok a) says is =
      record { is = is; answers = cc; faults = stands.faults ∙ sym (or-false s.faulty); counts = ap one_more stands.counts }
  stands_after (refused k p) (Err r) says is =
      record { is = is; answers = stands.answers; faults = sym (or-true s.faulty); counts = stands.counts }
  stands_after (answered m) (Err r) says is = cc
  stands_after (refused k p) (Ok a) says is = cc

  pub turned_answers : (e : Edit) → reply_of changed.reply ≡ reply_after s.netlist e most_nodes most_work
      → IsHeld (netlist_after s.netlist e most_nodes most_work) changed.netlist changed.marks after
      → Answers s (changes e) (record { turn = turned_of turn changed; reply = changed.reply }) after
  unfolding after_asks after_edit reply_to reply_after netlist_after
  turned_answers e says is = record { stands = stands_after (edited s.netlist e most_nodes most_work) changed.reply says is; replies = says }

-- ---- no edit

-- the reply is the answer that is at hand
pub unchanged_answers : (asks : Asks) {s : Standing} {turn : Turn} {work : List ℕ} → Stands (after_asks s asks) turn work
    → reply_to s.netlist asks ≡ answered (findings (after_asks s asks).netlist) → Answers s asks (unchanged_of turn) work
unchanged_answers asks stands e = record { stands = stands; replies = ap answered stands.answers ∙ sym e }
