-- `put_step` meets its contract: five bytes, copied behind the steps before. Assumes nothing.
use Rattle.std.proofs.Common.{◌≡◌, ◌+◌, ◌*◌, ◌-◌, ◌/◌, ◌%◌, ◌<◌, arith}
use Rattle.rules.specs.Records.{most_sets}
use Rattle.listing_lines.proofs.Text.{appended_as}
use Rattle.derivation_rules.specs.Derivations.{step_bytes}
use Rattle.derivation_steps.proofs.Claims.{layer_byte}
use Rattle.derivation_steps.proofs.Bytes.{appended_part}
use Rattle.derivation_steps.proofs.put_step.Goals as goal

pub returns : goal.returns
unfolding step_bytes
returns c =
    let set = c.args.claim.set in
    let at = 5 * c.args.at in
    let small : set < most_sets = c.requires.2 in
    let high : set / 256 % 256 ≡ set / 256 = omega arith in
    let long = c.copy_from_slice.ensures.len in
    appended_as (rw (c.to_le_bytes.ensures, layer_byte c.args.claim.layer, high) at c.copy_from_slice.ensures.after)
    (appended_part c.args.steps.now at (at + 5 - at) (5 * (c.args.at + 1)) c.copy_from_slice.new.self (rw c.copy_from_slice.ensures.after (omega arith)) (omega arith) (omega arith))
