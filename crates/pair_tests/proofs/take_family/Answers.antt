-- `pair_tests::take_family` meets its contract: the bytes of a part are those of its family. Assumes nothing.
use Prim.Native.Nat.{ℕ, ◌+◌, ◌-◌, ◌*◌, ◌<◌}
use mathlib.Core.Path.{◌≡◌, sym, ap, ◌∙◌}
use mathlib.Core.List.{List, ◌++◌, append_assoc}
use native.Mathlib.Omega.{arith}
use lib.ListN.{get_or, take, drop}
use lib.Seq.{length-take-le, take_at, drop_at}
use Rattle.std.proofs.lemmas.List.Edits.{paste_all}
use Rattle.std.proofs.lemmas.Slice.{put_mid-paste}
use Rattle.rules.specs.Slices.{family_bytes}
use Rattle.rule_laws.proofs.Packing.{family_length}
use Rattle.families.specs.Parts.{HasPart, family_at, with_family}
use Rattle.families.proofs.Parts.{with_own}
use Rattle.pair_tests.proofs.take_family.Goals as goal

-- the bytes of a part are those of its family
part_bytes : (bytes : List ℕ) (part : ℕ) → HasPart bytes part → ((i : ℕ) → get_or bytes i 0 < 256)
    → take 128 (drop (128 * part) bytes) ≡ family_bytes (family_at bytes part)
unfolding with_family
part_bytes bytes part has fit =
    let before = take (128 * part) bytes in
    let family = family_bytes (family_at bytes part) in
    let behind = drop (128 * part + 128) bytes in
    ap (λ (bs : List ℕ). take 128 (drop (128 * part) bs)) (with_own bytes part has fit ∙ append_assoc before family behind)
    ∙ ap (take 128) (drop_at before (family ++ behind) (128 * part) (length-take-le (128 * part) bytes (omega arith)))
    ∙ take_at family behind 128 (family_length (family_at bytes part))

pub returns : goal.returns
unfolding with_family
returns c =
    let args = c.args in
    let scratch = args.scratch.now in
    let into = 128 * args.into in
    let from = 128 * args.from in
    let family = family_bytes (family_at args.work.now args.from) in
    let many = sym (family_length (family_at args.work.now args.from)) in
    let long : (from + 128) - from ≡ 128 = omega arith in
    let copied : c.copy_from_slice.new.self ≡ family =
    rw long at c.copy_from_slice.ensures.after
    ∙ part_bytes args.work.now args.from c.requires.1 (λ i. (c.type_inv.work i).fits) in
    put_mid-paste into ((into + 128) - into) scratch _ family 128 copied (omega arith) many
    ∙ paste_all scratch into family 128 many
    ∙ sym (append_assoc (take into scratch) family (drop (into + 128) scratch))
