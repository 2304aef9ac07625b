-- `listing_text::telgouin_listing` meets its contract: the listing stands at the front of an array that has room for
-- every one, and it is copied to a slice that is not shorter. Assumes nothing.
use Rattle.std.proofs.Common.{◌≡◌, ℕ, ◌<◌, ◌≤◌, List, ◌++◌, length, take, drop, arith}
use borrow.Author.Tests.{le-leb, lt-leb}
use Rattle.rules.specs.Listing.{shown}
use Rattle.listing_lines.specs.Text.{Appended}
use Rattle.listing_text.proofs.telgouin_listing.Goals as goal

-- a text at the front of a slice
module _ {before after : List ℕ} {count : ℕ} {text : List ℕ} (a : Appended before after 0 count text) (slice : List ℕ) where
  size : count ≡ length text
  size = omega (arith, a.place)

  -- is shown by copying it, if it fits
  copied : (front : List ℕ) → front ≡ take count after → count ≤ length slice → front ++ drop count slice ≡ shown text slice
  unfolding shown
  copied front is h = rw (is, a.bytes, size, le-leb (length text) (length slice) (omega (arith, size)))

  not_copied : length slice < count → slice ≡ shown text slice
  unfolding shown
  not_copied h = rw (lt-leb (length text) (length slice) (omega (arith, size)))

pub returns-then-count-text-clause-text : goal.returns-then-count-text-clause-text
returns-then-count-text-clause-text c = copied c.put_listing-count.ensures _ _ c.copy_from_slice.ensures.after c.if-count-text.true

pub returns-else-count-text-clause-text : goal.returns-else-count-text-clause-text
returns-else-count-text-clause-text c = not_copied c.put_listing-count.ensures _ c.if-count-text.false
