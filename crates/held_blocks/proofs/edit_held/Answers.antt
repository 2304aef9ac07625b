-- `held_blocks::edit_held` meets its contract: what an edit that is made gives is held, and so is what a refused one
-- leaves. Assumes nothing.
use Rattle.held_blocks.proofs.Held.{edit_reply, made_held, kept_held}
use Rattle.held_blocks.proofs.edit_held.Goals as goal

pub returns-in-Err : goal.returns-in-Err
returns-in-Err c = let changes = rw c.in-Err.is at c.change.ensures in
    record { reply = λ n held. edit_reply held _ _ changes; held = λ n held. kept_held held _ _ changes }

pub returns-in-Ok : goal.returns-in-Ok
returns-in-Ok c = let changes = rw c.in-Ok.is at c.change.ensures in
    record { reply = λ n held. edit_reply held _ _ changes; held = λ n held. made_held held _ _ changes }
