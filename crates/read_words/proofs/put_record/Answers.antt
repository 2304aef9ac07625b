-- `read_words::put_record` meets its contract: as many bytes are copied as there is room for. Assumes nothing.
use Rattle.std.proofs.Common.{◌≡◌, ◌+◌, ◌-◌, arith, append_assoc}
use lib.Seq.{drop-drop}
use Rattle.read_words.proofs.Stores.{sets_copied}
use Rattle.read_words.proofs.put_record.Goals as goal

pub returns-clause-bytes : goal.returns-clause-bytes
returns-clause-bytes c =
    let room : c.args.at + c.min-room.result - c.args.at ≡ c.min-room.result = omega arith in
    rw (c.copy_from_slice.ensures.after, room, ← append_assoc, drop-drop) (sets_copied _ _ _ _ c.requires c.min-room.ensures)
