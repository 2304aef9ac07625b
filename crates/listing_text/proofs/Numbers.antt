-- The numbers of every block fit the lines of a listing. Assumes nothing.
use Prim.Native.Nat.{ℕ, ◌≤◌, ◌<◌}
use mathlib.Core.Path.{◌≡◌, sym, ap}
use native.Mathlib.Omega.{arith}
use Rattle.rules.specs.declared.Half.{Half}
use Rattle.rules.specs.declared.Half.TheVariants.{Clear, Suspect}
use Rattle.rules.specs.declared.Answer.{Answer}
use Rattle.rules.specs.Records.{Netlist, WellFormed, most_variables, most_nodes, most_sets}
use Rattle.rules.specs.Families.{Finding, suspect_at, Findings, findings}
use Rattle.rules.specs.Paper.{finding_of, findings_of}
use Rattle.rule_laws.proofs.Listing.{settled_names, glitch_names}
use Rattle.netlists.specs.declared.Netlist as Value
use Rattle.netlists.specs.Netlists.{flat_of}
use Rattle.netlists.proofs.Netlists.{value_variables, value_count}
use Rattle.listing_lines.specs.Text.{Short}

-- a half names one of the nodes, and a set of the variables, that there may be
named_short : (half : Half) (found : Finding) (nodes : ℕ) → nodes ≤ most_nodes → finding_of half ≡ found
    → ((i A : ℕ) → found ≡ suspect_at i A → (i < nodes) × (A < most_sets)) → Short half
unfolding Short
named_short Clear found nodes few e names = tt
named_short (Suspect i A) found nodes few e names =
    let (node, set) = names i A (sym e) in (omega arith, set)

pub block_fits : (n : Netlist) → WellFormed n → (value : Value.Netlist) → value ≡ flat_of n → (answer : Answer) → findings_of answer ≡ findings n
    → (value.variables ≤ most_variables) × (value.count ≤ most_nodes) × Short answer.settled × Short answer.glitch
block_fits n obeys value is answer found = (
  omega (arith, value_variables n is, obeys.few_variables),
  omega (arith, value_count n is, obeys.few_nodes),
  named_short answer.settled _ _ obeys.few_nodes (ap (λ (f : Findings). f.settled) found) (settled_names n obeys),
  named_short answer.glitch _ _ obeys.few_nodes (ap (λ (f : Findings). f.glitch) found) (glitch_names n obeys),
)
