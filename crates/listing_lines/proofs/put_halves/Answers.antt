-- `listing_lines::put_halves` meets its contract: for each half its name, and behind that what it says.
-- Assumes nothing.
use Prim.Native.Nat.{ℕ}
use mathlib.Core.Path.{◌≡◌, refl}
use mathlib.Core.List.{List, ◌++◌}
use Rattle.rules.specs.Families.{Finding, clear, suspect_at}
use Rattle.rules.specs.Listing.{word, line, half_line}
use Rattle.listing_lines.specs.Text.{found_text}
use Rattle.listing_lines.proofs.Text.{appended_more}
use Rattle.listing_lines.proofs.put_halves.Goals as goal

-- a half's line: its name, and what it says behind that
half_text : (name : List ℕ) (found : Finding) → half_line name found ≡ name ++ found_text found
unfolding line half_line found_text
half_text name clear = refl
half_text name (suspect_at i A) = refl

pub returns : goal.returns
unfolding word
returns c =
    rw (half_text (word "settled") _, half_text (word "glitch") _)
    (appended_more
    (appended_more c.put_word-first.ensures c.put_finding-next.ensures.appended)
    (appended_more c.put_word-second.ensures c.put_finding.ensures.appended))
