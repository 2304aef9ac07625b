-- `read_words::block_of` meets its contract: each line says nothing, a record more, or what was expected instead.
-- Assumes nothing.
use Rattle.std.proofs.Common.{◌≡◌, length, take, arith, rules}
use lib.ListN.{length-take}
use Rattle.rules.specs.Records.{most_record}
use Rattle.read_words.proofs.Lines.{reached_first, reached_last, reached_nothing, reached_wrong, reached_record}
use Rattle.read_words.proofs.block_of.Goals as goal

pub loop-at-init : goal.loop-at-init
loop-at-init c = (search rules, search rules, reached_first _ _ _)

pub returns-in-Err : goal.returns-in-Err
returns-in-Err c = reached_wrong c.loop-at.invariant.2 _ _ _ c.next_line-place.ensures.line c.in-Err.ensures.0

pub loop-at-preserved-in-Ok-None : goal.loop-at-preserved-in-Ok-None
loop-at-preserved-in-Ok-None c =
    let told = rw c.in-Ok-None.field-0-is at c.in-Ok-None.ensures in
    (search rules, search rules, reached_nothing c.loop-at.invariant.2 _ _ c.next_line-place.ensures.line told.0)

pub loop-at-preserved : goal.loop-at-preserved
loop-at-preserved c =
    let told = rw c.in-Ok-Some.field-0-is at c.in-Ok-Some.ensures in
    let size = c.in-Ok-Some.size in
    let whole : length c.record_of.new.bytes ≡ most_record = search rules in
    let long : length (take size c.record_of.new.bytes) ≡ size = omega (arith, length-take size c.record_of.new.bytes, told.few) in (
      search rules,
      search rules,
      rw (c.put_record-count.ensures.end, c.put_record-count.ensures.bytes, c.put_line.ensures, c.in-Ok-Some.size-is, long)
          (reached_record c.loop-at.invariant.2 _ _ c.next_line-place.ensures.line _ _ told (search rules) (search rules)),
    )

pub returns : goal.returns
returns c = rw c.max.ensures (reached_last c.loop-at.invariant.2 c.loop-at-test.false)
