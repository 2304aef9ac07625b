-- `desk::ask::member` meets its contract: the outcome is that of the query. Assumes nothing.
use Rattle.std.proofs.Common.{ap}
use Rattle.desk.proofs.ask.member.Goals as goal

pub returns : goal.returns
returns c = ap (λ given. given.outcome) c.memberships-reply.ensures
