-- `listing_lines::put_word` meets its contract: the bytes that are copied to the place are the word. Assumes nothing.
use Rattle.std.proofs.Common.{refl, rules}
use Rattle.std.proofs.lemmas.Slice.{overwrites}
use borrow.Rule.Slice.PartMut.{same_len_mid}
use Rattle.listing_lines.proofs.put_word.Goals as goal

pub returns : goal.returns
returns c = record {
  place = refl;
  bytes = search (rules, overwrites);
  beyond = search (rules, overwrites);
  long = search (rules, same_len_mid);
}
