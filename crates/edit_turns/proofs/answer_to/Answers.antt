-- `edit_turns::answer_to` meets its contract: an edit is made, and all else leaves the block as it is. Assumes nothing.
use Prim.Native.Nat.{ℕ}
use mathlib.Core.Path.{◌≡◌, refl}
use mathlib.Core.Logic.{◌⊎◌, inl, inr}
use mathlib.Core.List.{List}
use Rattle.read_words.specs.declared.Fault.{Fault}
use Rattle.edit_lines.specs.declared.Ask.{Ask}
use Rattle.edit_lines.specs.Asks.{none, lists, writes, quits, no_edit}
use Rattle.edit_lines.specs.Meaning.{asks_by}
use Rattle.edit_turns.specs.declared.Turn.{Turn}
use Rattle.edit_turns.specs.Turns.{Standing, failed, after_asks, reply_to}
use Rattle.edit_turns.specs.Meaning.{Stands, Answers, unchanged_of}
use Rattle.edit_turns.proofs.Outcomes.{unchanged_answers}
use Rattle.edit_turns.proofs.answer_to.Goals as goal

module _ {ask : Ask} (own line : List ℕ) where
  -- what could not be obeyed
  no_edit_asked : ((fault : Fault) × (ask ≡ Ask.NoRecord fault)) ⊎ ((ask ≡ Ask.NoNumber) ⊎ (ask ≡ Ask.NoEdit)) → asks_by ask own line ≡ no_edit
  no_edit_asked (inl (fault, is)) = rw is refl
  no_edit_asked (inr (inl is)) = rw is refl
  no_edit_asked (inr (inr is)) = rw is refl

  -- what asks for no edit
  stays : {s : Standing} {turn : Turn} {work : List ℕ} → Stands s turn work
      → (ask ≡ Ask.Nothing) ⊎ ((ask ≡ Ask.List) ⊎ (((from : ℕ) × (to : ℕ) × (ask ≡ Ask.Write from to)) ⊎ (ask ≡ Ask.Quit)))
      → Answers s (asks_by ask own line) (unchanged_of turn) work
  unfolding after_asks reply_to
  stays stands (inl is) = rw is (unchanged_answers none stands refl)
  stays stands (inr (inl is)) = rw is (unchanged_answers lists stands refl)
  stays stands (inr (inr (inl (from, to, is)))) = rw is (unchanged_answers (writes _) stands refl)
  stays stands (inr (inr (inr is))) = rw is (unchanged_answers quits stands refl)

pub returns-in-NoRecord : goal.returns-in-NoRecord
unfolding after_asks reply_to failed
returns-in-NoRecord c = λ s stands.
    rw (no_edit_asked c.args.asked.own c.args.line.now c.in-NoRecord.is, c.unchanged.ensures) (unchanged_answers no_edit (c.at_fault.ensures s _ stands) refl)

pub returns-in-Nothing : goal.returns-in-Nothing
returns-in-Nothing c = λ s stands. rw c.unchanged-in-Nothing.ensures (stays _ _ stands c.in-Nothing.is)
