-- Calls of which `Kept` is false, so that what it says of each part is not empty: a refusal that alters the work bytes,
-- a node record or the state, and slices whose length a call alters, whatever it replies. Assumes nothing.
use Rattle.std.specs.Prelude.{Err}
use Prim.Native.Nat.{ℕ}
use mathlib.Core.Path.{◌≡◌, refl, ap}
use mathlib.Core.List.{List, ◌∷◌}
use native.Mathlib.Omega.{arith}
use lib.ListN.{get_or}
use Rattle.rules.specs.declared.NodeRecord.{NodeRecord}
use Rattle.rules.specs.declared.Refusal.{Refusal}
use Rattle.rules.specs.Paper.{number_of, place_of}
use Rattle.rules.proofs.BlockOutputs.{fields}
use Rattle.edit_rules.specs.declared.State.{State}
use Rattle.edits.specs.declared.Edited.{Edited}
use Rattle.edits.specs.Edited.{Kept}

-- what a refused edit gives
abbrev refusing : Refusal → State → Edited
refusing r state = record { reply = Err r; state = state }

two_is_not_one : ¬ (◌≡◌ {A = ℕ} 2 1)
two_is_not_one e = omega arith

module _ (state : State) (r : Refusal) (nodes : List NodeRecord) (work : List ℕ) where
  -- a work byte
  pub work_altered : ¬ Kept state (refusing r state) nodes nodes (1 ∷ work) (2 ∷ work)
  work_altered kept = two_is_not_one (ap (λ (w : List ℕ). get_or w 0 0) (kept.refused (number_of r) (place_of r) refl).2)

  -- a mark
  pub record_altered : ¬ Kept state (refusing r state) (fields 3 0 0 0 0 1 ∷ nodes) (fields 3 0 0 0 0 2 ∷ nodes) work work
  record_altered kept =
      two_is_not_one (ap (λ (ns : List NodeRecord). (get_or ns 0 (fields 0 0 0 0 0 0)).glitch) (kept.refused (number_of r) (place_of r) refl).1)

  -- the number of nodes in the state
  abbrev counting : ℕ → State
  counting count = record { variables = state.variables; classes = state.classes; count = count }

  pub state_altered : ¬ Kept (counting 1) (refusing r (counting 2)) nodes nodes work work
  state_altered kept = two_is_not_one (ap (λ (s : State). s.count) (kept.refused (number_of r) (place_of r) refl).0)

  -- a slice that is shorter than it was
  pub entry_lost : (given : Edited) → ¬ Kept state given (fields 3 0 0 0 0 0 ∷ nodes) nodes work work
  entry_lost given kept = omega (arith, kept.entries)

  pub byte_lost : (given : Edited) → ¬ Kept state given nodes nodes (0 ∷ work) work
  byte_lost given kept = omega (arith, kept.bytes)
