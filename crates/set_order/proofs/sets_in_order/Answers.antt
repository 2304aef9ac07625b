-- `set_order::sets_in_order` meets its contract: antt computes that the table is the order, the whole list at once.
-- Assumes nothing.
use mathlib.Core.Path.{refl}
use Rattle.set_order.specs.Order.{sets_with, sets_with_fewer, report_order}
use Rattle.set_order.proofs.sets_in_order.Goals as goal

pub returns : goal.returns
unfolding report_order sets_with_fewer sets_with
returns c = refl
