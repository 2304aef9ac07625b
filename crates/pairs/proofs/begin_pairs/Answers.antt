-- `pairs::begin_pairs` meets its contract: no pair was looked at. Assumes nothing.
use mathlib.Core.Path.{refl, sym}
use Rattle.rules.specs.Records.{empty}
use Rattle.netlists.proofs.Netlists.{value_count}
use Rattle.pairs.proofs.Underway.{by_findings, begins}
use Rattle.pairs.proofs.begin_pairs.Goals as goal

pub returns-in-Err : goal.returns-in-Err
returns-in-Err c =
    rw c.in-Err.is (λ bytes entries limit before work replied value held.
    begins bytes entries limit before _ work _ _ _ replied value held (sym (value_count empty refl)) (λ f e. cc))

pub returns-in-Ok : goal.returns-in-Ok
returns-in-Ok c =
    rw c.in-Ok.is (λ bytes entries limit before work replied value held.
    begins bytes entries limit before _ work _ _ _ replied value held refl (by_findings _ _ c.single_or_none.ensures))
