-- A run starts at the block that was opened.
use Rattle.telgouin.proofs.editing.edit_block.Goals as goal

pub returns : goal.returns
returns g c n held says =
    let ran = c.run_lines.ensures in
    record { events = ran.events; stands = ran.stands _ (c.begin_with.ensures.stands n _ held says) }
