-- `edit_lines::by_words` meets its contract: the first words of edits are tried in their order. Assumes nothing.
use Rattle.std.proofs.Common.{sym, ◌∙◌}
use Rattle.rules.specs.Listing.{word}
use Rattle.edit_lines.specs.Asks.{asked}
use Rattle.edit_lines.proofs.by_words.Goals as goal

pub returns-in_default-clause-asks : goal.returns-in_default-clause-asks
unfolding asked
returns-in_default-clause-asks c = rw c.in_default.ensures

pub returns-then-is_word-clause-asks : goal.returns-then-is_word-clause-asks
unfolding asked word
returns-then-is_word-clause-asks c = rw (c.in-Some.ensures.next, sym c.is_word.ensures ∙ c.if-is_word.true) c.added.ensures.asks

pub returns-then-is_word-2-clause-asks : goal.returns-then-is_word-2-clause-asks
unfolding asked word
returns-then-is_word-2-clause-asks c = rw (c.in-Some.ensures.next, sym c.is_word.ensures ∙ c.if-is_word.false, sym c.is_word-else-is_word.ensures ∙ c.if-is_word-2.true) (c.removed.ensures.asks _)

pub returns-then-is_word-3-clause-asks : goal.returns-then-is_word-3-clause-asks
unfolding asked word
returns-then-is_word-3-clause-asks c = rw (c.in-Some.ensures.next, sym c.is_word.ensures ∙ c.if-is_word.false, sym c.is_word-else-is_word.ensures ∙ c.if-is_word-2.false, sym c.is_word-else-is_word-2.ensures ∙ c.if-is_word-3.true) (c.named.ensures.asks _)

pub returns-then-is_word-4-clause-asks : goal.returns-then-is_word-4-clause-asks
unfolding asked word
returns-then-is_word-4-clause-asks c = rw (c.in-Some.ensures.next, sym c.is_word.ensures ∙ c.if-is_word.false, sym c.is_word-else-is_word.ensures ∙ c.if-is_word-2.false, sym c.is_word-else-is_word-2.ensures ∙ c.if-is_word-3.false, sym c.is_word-else-is_word-3.ensures ∙ c.if-is_word-4.true) (c.unless_more.ensures.asks _)

pub returns-then-is_word-5-clause-asks : goal.returns-then-is_word-5-clause-asks
unfolding asked word
returns-then-is_word-5-clause-asks c = rw (c.in-Some.ensures.next, sym c.is_word.ensures ∙ c.if-is_word.false, sym c.is_word-else-is_word.ensures ∙ c.if-is_word-2.false, sym c.is_word-else-is_word-2.ensures ∙ c.if-is_word-3.false, sym c.is_word-else-is_word-3.ensures ∙ c.if-is_word-4.false, sym c.is_word-else-is_word-4.ensures ∙ c.if-is_word-5.true) (c.unless_more-then-is_word-5.ensures.asks _)

pub returns-else-is_word-5-clause-asks : goal.returns-else-is_word-5-clause-asks
unfolding asked word
returns-else-is_word-5-clause-asks c = rw (c.in-Some.ensures.next, sym c.is_word.ensures ∙ c.if-is_word.false, sym c.is_word-else-is_word.ensures ∙ c.if-is_word-2.false, sym c.is_word-else-is_word-2.ensures ∙ c.if-is_word-3.false, sym c.is_word-else-is_word-3.ensures ∙ c.if-is_word-4.false, sym c.is_word-else-is_word-4.ensures ∙ c.if-is_word-5.false)
