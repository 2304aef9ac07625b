-- `edit_turns::turned` meets its contract: an edit that is made is counted. Assumes nothing.
use mathlib.Core.Path.{◌≡◌}
use native.Mathlib.Omega.{arith}
use Rattle.edit_turns.specs.Turns.{one_more}
use Rattle.edit_turns.proofs.turned.Goals as goal

pub returns-in-Ok : goal.returns-in-Ok
unfolding one_more
returns-in-Ok c =
    let counted : c.saturating_add.result ≡ one_more c.args.turn.made = omega arith in
    rw (c.in-Ok.is, counted)
