-- `suspect_sets::first_suspect` meets its contract. Where the part and the map have no set in common,
-- none is suspect (`none_suspect`). The loop's invariant: the sets at the places passed are not suspect members.
-- Assumes nothing.
use Prim.Native.Nat.{ℕ, ◌<◌}
use mathlib.Core.Path.{◌≡◌}
use mathlib.Core.Bool.{false, ◌&&◌}
use mathlib.Core.List.{List}
use Rattle.rules.specs.Lists.{member}
use Rattle.rules.specs.Records.{Class}
use Rattle.rules.specs.Families.{suspect}
use Rattle.families.specs.Parts.{family_at}
use Rattle.set_order.specs.Order.{set_at}
use Rattle.suspect_sets.specs.Sets.{ByClass}
use Rattle.suspect_sets.proofs.first_suspect.Given as goal

abbrev pub invariant-loop-set : goal.invariant-loop-set
invariant-loop-set l =
    (variables : List Class) → ByClass l.classes variables
    → (k : ℕ) → k < l.set-index → (suspect variables (set_at k) && member (set_at k) (family_at l.work l.part)) ≡ false
