-- `telgouin_listing` writes the listing of the bytes that were read, which is that of the whole file (`read_first`), and
-- there is room for it.
use Rattle.std.proofs.Common.{◌≡◌, ◌≤◌, ℕ, List, length, take, ap, refl, true, ◌∙◌, arith}
use borrow.Author.Tests.{le-leb}
use lib.Dec.{leb}
use lib.Seq.{take_at}
use Rattle.rules.specs.Checks.{read}
use Rattle.rules.specs.Listing.{text_of, listing, shown, most_input}
use Rattle.rule_laws.proofs.Reading.{read_first}
use Rattle.listing.proofs.list_file.Goals as goal

-- the listing of a file's first bytes, at the front of the text, is that of the file
first_listed : (front file before after : List ℕ) (r : ℕ) → front ≡ take most_input file → r ≡ length (listing front) → r ≤ length before
    → after ≡ shown (listing front) before → take r after ≡ listing file
unfolding listing shown
first_listed front file before after r is_front size room is-after =
    let fits : leb (length (text_of (read front))) (length before) ≡ true = le-leb (length (text_of (read front))) (length before) (omega arith) in
    rw (is-after, fits, size) (take_at (text_of (read front)) _ _ refl ∙ rw is_front (ap text_of (read_first file)))

pub returns-clause-listed : goal.returns-clause-listed
returns-clause-listed c = λ file is_front.
    let told = c.telgouin_listing.ensures in
    first_listed _ file _ _ _ is_front told.size (omega (arith, told.most)) told.text
