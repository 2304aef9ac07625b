-- `scanner::next_line` meets its contract: a scan finds the end of the line, and the next one is behind its line feed.
-- Assumes nothing.
use Rattle.std.proofs.Common.{◌+◌, length, arith, refl, sym, ◌∙◌}
use lib.ListN.{drop_of_length-le}
use Rattle.scanner.proofs.Scans.{stops, stops_nowhere}
use Rattle.scanner.proofs.Lines.{line_feed, line_found}
use Rattle.scanner.proofs.next_line.Goals as goal

pub returns-in-Some : goal.returns-in-Some
returns-in-Some c =
    let (long, inside) = stops line_feed c.args.text.now c.args.at _ c.in-Some.ensures in
    line_found _ _ _ _ (omega arith, omega arith) (omega arith) (omega arith) refl

pub returns-in-None : goal.returns-in-None
returns-in-None c =
    let long = stops_nowhere line_feed c.args.text.now c.args.at c.in-None.ensures in
    let end = length c.args.text.now in
    line_found _ _ _ _ (omega arith, omega arith) (omega arith) (omega arith)
    (drop_of_length-le _ {i = end} (omega arith) ∙ sym (drop_of_length-le _ {i = end + 1} (omega arith)))
