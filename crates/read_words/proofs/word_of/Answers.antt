-- `read_words::word_of` meets its contract: the forms by number are those of the code's list. Assumes nothing.
use Rattle.std.proofs.Common.{◌≡◌, ap, sym, ◌∙◌}
use Rattle.read_words.specs.Meaning.{name_of}
use Rattle.read_words.proofs.Forms.{form_there, form_beyond}
use Rattle.read_words.proofs.word_of.Goals as goal

pub returns-then-at-lt10-clause-named : goal.returns-then-at-lt10-clause-named
returns-then-at-lt10-clause-named c =
    rw (← c.from-at.ensures) (c.word.ensures.named ∙ ap name_of (sym (form_there _ _ c.if-at-lt10.true)))

pub returns-else-at-lt10-clause-named : goal.returns-else-at-lt10-clause-named
unfolding name_of
returns-else-at-lt10-clause-named c = rw (← c.from-at.ensures) (ap name_of (sym (form_beyond _ c.if-at-lt10.false)))
