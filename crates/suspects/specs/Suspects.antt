-- What a scan of the work bytes finds. Cited by the contracts of this crate. Assumes nothing.
use Rattle.std.specs.Prelude.{ℕ, ◌+◌, ◌*◌, ◌≤◌, ◌<◌, List, length, drop}
use Rattle.std.proofs.Math.Option.{Option}
use Rattle.rules.specs.Lists.{tabulate}
use Rattle.rules.specs.Records.{Netlist, most_sets}
use Rattle.rules.specs.Families.{Finding, marks, lowest}
use Rattle.rules.specs.declared.Half.{Half}
use Rattle.rules.specs.declared.Half.TheVariants.{Clear, Suspect}
use Rattle.families.specs.Parts.{family_at}

-- what the nodes report of one layer of the work bytes (settled 0, glitch 1)
unfoldable pub reports_in : Netlist → (layer : ℕ) → List ℕ → List (Option ℕ)
reports_in n layer bytes =
    marks n.variables n.nodes (tabulate (λ i. family_at bytes (2 * i + layer)) (length n.nodes))

-- what a scan from a node on finds: the lowest one that reports a set, and that set
unfoldable pub found_from : (from : ℕ) → List (Option ℕ) → Finding
found_from from reports = lowest from (drop from reports)

-- whatever is scanned: what is found is a node from `from` on, of so many, and a set
abbrev pub Within : (from count : ℕ) → Half → Type 0
Within from count Clear = Unit {0}
Within from count (Suspect i A) = (from ≤ i) × (i < count) × (A < most_sets)
