-- `telgouin::files::has_words` meets its contract: what is compared is the name from its fourth letter from the end on.
-- Assumes nothing.
use Rattle.std.proofs.Common.{ℕ, ap, ◌∙◌, drop}
use Rattle.rules.specs.Listing.{word}
use Rattle.scanner.specs.Words.{same}
use Rattle.scanner.proofs.Scans.{to_the_end}
use Rattle.telgouin.specs.Files.{has_words}
use Rattle.telgouin.proofs.files.has_words.Goals as goal

pub returns : goal.returns
unfolding has_words word
returns c =
    rw to_the_end at c.is_word.ensures ∙ ap (λ (k : ℕ). same (drop k c.args.name.now) (word ".txt")) c.saturating_sub-from.ensures
