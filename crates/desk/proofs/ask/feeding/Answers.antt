-- `desk::ask::feeding` meets its contract: the outcome is that of the query. Assumes nothing.
use Rattle.std.proofs.Common.{ap}
use Rattle.desk.proofs.ask.feeding.Goals as goal

pub returns : goal.returns
returns c = ap (λ given. given.outcome) c.feeding_points-reply.ensures
