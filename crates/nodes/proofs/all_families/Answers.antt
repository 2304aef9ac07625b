-- `nodes::all_families` meets its contract: of no nodes the families are done. Assumes nothing.
use mathlib.Core.Path.{refl}
use native.Mathlib.Omega.{arith}
use Rattle.rules.specs.Slices.{work_bytes}
use Rattle.nodes.proofs.all_families.Goals as goal

pub families_from-requires : goal.families_from-requires
unfolding work_bytes
families_from-requires c = (c.requires, omega arith, λ n e. refl)
