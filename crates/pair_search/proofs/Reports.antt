-- Over the bytes of a netlist's families what a pair reports is the rules': products and reports see only which sets
-- are in the families. Assumes nothing.
use Prim.Native.Nat.{ℕ, ◌<◌}
use mathlib.Core.Path.{◌≡◌}
use mathlib.Core.List.{List, ◌++◌}
use lib.ListN.{length}
use Rattle.rules.specs.Records.{Netlist, WellFormed}
use Rattle.rules.specs.Families.{families}
use Rattle.rules.specs.Slices.{work_bytes}
use Rattle.families.proofs.Work.{alike_product, glitch_there}
use Rattle.suspect_sets.proofs.Sets.{reported_same}
use Rattle.pair_tests.specs.Tests.{report_of_parts}
use Rattle.pair_search.specs.Pairs.{Pair, pair_family, pair_report}
use Rattle.pair_search.specs.Work.{report_between, report_in}

pub report_there : (n : Netlist) → WellFormed n → (rest : List ℕ) (p : Pair) → p.i < length n.nodes → p.j < length n.nodes
    → report_in n.variables (work_bytes (families n) ++ rest) p ≡ pair_report n p
unfolding report_of_parts report_between report_in pair_report pair_family
report_there n formed rest p h l =
    reported_same n.variables _ _
    (alike_product (glitch_there n formed rest p.i h) (glitch_there n formed rest p.j l)).same
