-- `listing_text::listing_of` meets its contract: the numbers of every block fit, and then its text is put.
-- Assumes nothing.
use borrow.Author.Rules.{rules}
use Rattle.std.specs.Prelude.{IsTrue}
use Rattle.listing_text.proofs.Numbers.{block_fits}
use Rattle.listing_text.proofs.listing_of.Goals as goal

pub returns-then-not-fits-clause-appended : goal.returns-then-not-fits-clause-appended
returns-then-not-fits-clause-appended c = λ n rest f e found w.
    let fitting : IsTrue c.fits.result = c.fits.ensures.1 (block_fits n f _ e _ found) in cc

pub put_answer-requires : goal.put_answer-requires
put_answer-requires c =
    let (variables, nodes, settled, glitch) = c.fits.ensures.0 c.if-not-fits.false in
    (search rules, variables, nodes, search (rules, nodes), settled, glitch)
