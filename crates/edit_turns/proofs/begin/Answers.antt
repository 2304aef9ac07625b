-- `edit_turns::begin` meets its contract: a block that is admitted is held, and the reply is its answer.
-- Assumes nothing.
use mathlib.Core.Path.{◌≡◌, ◌∙◌}
use lib.ListN.{length}
use borrow.Author.Rules.{rules}
use Rattle.rules.specs.Checks.{most_work}
use Rattle.rules.specs.Paper.{reply_of}
use Rattle.netlists.specs.Netlists.{kept}
use Rattle.checker.specs.Work.{replied}
use Rattle.edit_turns.proofs.Outcomes.{admitted_reply, not_opened}
use Rattle.edit_turns.proofs.begin.Goals as goal
use Rattle.edit_turns.proofs.begin.Goals.{in-Err, in-Ok}

pub returns : goal.returns
unfolding kept
returns c =
    let begun = c.begin_with.ensures in
    let long : length c.args.work.now ≡ most_work = search rules in
    let told = rw long at c.open_held-opened.ensures.reply in
    let held = rw long at c.open_held-opened.ensures.held in
    let says : replied c.match-opened.begin_with ≡ reply_of c.open_held-opened.result.reply =
    elim c.match-opened.branch [ in-Err w ↦ rw (w.begin_with-is, w.in-Err.is) | in-Ok w ↦ rw (w.begin_with-is, w.in-Ok.is) ] in
    record {
      reply = begun.reply ∙ says ∙ told;
      stands = λ n admits.
          let answer = told ∙ admitted_reply _ _ _ n admits in
          elim c.match-opened.branch [
            | in-Err w ↦ absurd (not_opened n _ (rw w.in-Err.is at answer))
            | in-Ok w ↦ begun.stands n _ (rw w.begin_with-is (rw admits at held)) (says ∙ answer)
          ];
      refused = begun.refused;
    }
