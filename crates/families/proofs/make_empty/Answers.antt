-- `families::make_empty` meets its contract: 128 zeros are the bytes of the empty family. Assumes nothing.
use Prim.Native.Nat.{◌+◌, ◌*◌, ◌-◌}
use mathlib.Core.Path.{◌≡◌, refl, ◌∙◌}
use mathlib.Core.List.{[]}
use native.Mathlib.Omega.{arith}
use lib.ListN.{replicate}
use Rattle.rules.specs.Lists.{member, tabulate}
use Rattle.rules.specs.Slices.{packed, family_bytes}
use Rattle.families.proofs.Parts.{put_family, bytes_length}
use Rattle.families.proofs.make_empty.Goals as goal

zeros : replicate 128 0 ≡ family_bytes []
unfolding family_bytes packed tabulate member
zeros = refl

pub returns : goal.returns
returns c =
    let all : 128 * c.args.part + 128 - 128 * c.args.part ≡ 128 = omega arith in
    put_family _ _ c.args.part _ [] all (c.fill.ensures.after (λ y e. e) ∙ rw (bytes_length _ _ _ c.requires all) zeros)
