-- `pair_tests::pair_set` meets its contract: the two families stand in bytes of their own, and their
-- product behind them. Assumes nothing.
use Prim.Native.Nat.{ℕ}
use mathlib.Core.Path.{ap, ◌∙◌}
use mathlib.Core.List.{List}
use lib.ListN.{replicate, length-replicate}
use Rattle.rules.specs.Families.{product, reported}
use Rattle.families.specs.Parts.{family_at, with_family}
use Rattle.pair_tests.specs.Tests.{report_of_parts}
use Rattle.pair_tests.proofs.Scratch.{scratch_report}
use Rattle.pair_tests.proofs.pair_set.Goals as goal

pub returns-clause-reported : goal.returns-clause-reported
unfolding report_of_parts
returns-clause-reported c =
    λ variables by.
    let args = c.args in
    let first = c.take_family.ensures in
    let second = c.take_family-2.ensures in
    let made = c.multiply.ensures in
    c.first_suspect.ensures.reported variables by
    ∙ ap (λ (bytes : List ℕ). reported variables (family_at bytes 2))
    (made
    ∙ ap (λ (bytes : List ℕ). with_family bytes 2 (product (family_at bytes 0) (family_at bytes 1)))
    (second ∙ ap (λ (bytes : List ℕ). with_family bytes 1 (family_at args.second.now args.q)) first))
    ∙ scratch_report (replicate 384 0) args.first.now args.p args.second.now args.q (length-replicate {A = ℕ} 384 0) variables
