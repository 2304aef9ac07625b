-- `listing_text::put_listing` meets its contract: the work bytes and the number of entries have room for every netlist,
-- so what is examined is what is read, and the work bytes hold its families. Assumes nothing.
use Rattle.std.proofs.Common.{ℕ}
use lib.ListN.{length-replicate}
use Rattle.rules.specs.Checks.{most_work}
use Rattle.rules.specs.Listing.{text_of, listing}
use Rattle.listing_text.proofs.Checked.{refused_read, checked, obeys}
use Rattle.listing_text.proofs.put_listing.Goals as goal

pub returns-in-Err : goal.returns-in-Err
unfolding listing text_of
returns-in-Err c =
    let e = rw c.in-Err.is at c.examine.ensures.reply in
    rw (refused_read _ _ (length-replicate {A = ℕ} most_work 0) c.in-Err.refusal e) c.put_refusal.ensures

pub returns-in-Ok : goal.returns-in-Ok
unfolding listing text_of
returns-in-Ok c =
    let e = rw c.in-Ok.is at c.examine.ensures.reply in
    let value = rw c.in-Ok.is at c.examine.ensures.netlist in
    let checks = checked _ _ (length-replicate {A = ℕ} most_work 0) c.in-Ok.examined e value c.examine.ensures.work in
    rw checks.is_read (c.listing_of.ensures.appended checks.netlist _ (obeys checks) checks.is_value checks.found checks.is_work)
