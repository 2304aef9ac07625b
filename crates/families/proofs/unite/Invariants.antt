-- `families::unite` meets its contract. The loop's invariant: the part's first j bytes are those of the union,
-- and all else is as it was (`Filled`), so that each byte read is one at entry. Assumes nothing.
use Rattle.rules.specs.Lists.{union}
use Rattle.families.specs.Parts.{family_at}
use Rattle.families.proofs.Filling.{Filled}
use Rattle.families.proofs.unite.Given as goal

abbrev pub invariant-loop-j : goal.invariant-loop-j
invariant-loop-j l = Filled l.initial.work l.into (union (family_at l.initial.work l.from) (family_at l.initial.work l.into)) l.j l.work
