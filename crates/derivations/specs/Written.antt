-- A derivation that is being written: what the functions are handed, and how far the steps have come.
-- Cited by the contracts of this crate. Assumes nothing.
use Rattle.std.specs.Prelude.{Result}
use Rattle.rules.specs.declared.Refusal.{Refusal}
use Rattle.std.specs.Prelude.{ℕ, ◌+◌, ◌*◌, ◌≤◌, ◌<◌, ◌≡◌, Option, None, Some, List, [], ◌∷◌, ◌++◌, T, length, take}
use Rattle.rules.specs.Records as R
use Rattle.rules.specs.Families.{families}
use Rattle.rules.specs.Checks.{Outcome, answered, and_then, judged, read, node_check, number_check, most_work}
use Rattle.rules.specs.Slices.{work_bytes}
use Rattle.netlists.specs.declared.Netlist.{Netlist}
use Rattle.netlists.specs.Netlists.{flat_of, Formed}
use Rattle.listing_lines.specs.Text.{Appended}
use Rattle.derivation_steps.specs.declared.Claim.{Claim}
use Rattle.derivation_steps.specs.declared.Way.{Way}
use Rattle.derivation_steps.specs.declared.Way.TheVariants.{Own, Operand, Empty, First, Second, Both}
use Rattle.derivation_rules.specs.Derivations.{Step, step_size, steps_out, claimed, derived, explainable, most_steps, steps_reply, steps_after, Certificate}
use Rattle.derivation_steps.specs.Meaning.{claim_of}
use Rattle.derivations.specs.Meaning.{derived_of}

-- work bytes that hold the families of a netlist by value, and have room for those of every netlist
pub record Known (value : Netlist) (work : List ℕ) : Type 0 where
  pub formed : Formed value
  pub rest : List ℕ
  pub held : work ≡ work_bytes (families formed.netlist) ++ rest
  pub size : length work ≡ most_work

-- a claim of a node below the bound that is true of a netlist
pub record Held (value : Netlist) (bound : ℕ) (c : Claim) : Type 0 where
  pub below : c.node < bound
  pub true : (n : R.Netlist) → value ≡ flat_of n → T (claimed (families n) (claim_of c))

-- each of the claims that a way needs
abbrev pub HeldEach : Netlist → (bound : ℕ) → Way → Type 0
HeldEach value bound Own = Unit
HeldEach value bound (Operand c) = Held value bound c
HeldEach value bound Empty = Unit
HeldEach value bound (First c) = Held value bound c
HeldEach value bound (Second c) = Held value bound c
HeldEach value bound (Both c d) = Held value bound c × Held value bound d

-- Steps go behind the first `at` steps of a slice that takes `room` steps: where they fit they stand there,
-- and `next` says how many steps stand in all; where they do not, it says none.
pub record Written (before after : List ℕ) (at room : ℕ) (next : Option ℕ) (steps : List Step) : Type 0 where
  pub fits : at + length steps ≤ room
      → (next ≡ Some (at + length steps)) × Appended before after (step_size * at) (step_size * (at + length steps)) (steps_out steps)
  pub over : room < at + length steps → next ≡ None

-- the netlist in which the set of the node's family is derived in so many steps at most, or the refusal:
-- 12, 13, 16, and last 15
unfoldable pub derivable_in : R.Netlist → (node layer set room : ℕ) → Outcome R.Netlist
derivable_in n i k A room = and_then (judged (node_check i n ∷ number_check A n ∷ []) n) (explainable i k A room)

-- netlist bytes that are read as a netlist by value
pub record ReadAs (value : Netlist) (bytes : List ℕ) : Type 0 where
  pub netlist : R.Netlist
  pub is : read bytes ≡ answered netlist
  pub same : value ≡ flat_of netlist

-- What comes of a set of a node's family, where an outcome says whether there is a derivation of at most `room` steps:
-- the reply, and the steps at the front of a slice.
pub record Told (outcome : Outcome R.Netlist) (node layer set room : ℕ) (r : Result ℕ Refusal) (slice : List ℕ) : Type 0 where
  pub reply : derived_of r ≡ and_then outcome (λ n. answered (length (derived n node layer set)))
  pub few : (n : R.Netlist) → outcome ≡ answered n → length (derived n node layer set) ≤ room
  pub bytes : (n : R.Netlist) → outcome ≡ answered n
      → take (step_size * length (derived n node layer set)) slice ≡ steps_out (derived n node layer set)

-- what comes of a set of a node's family: the reply, and the slice at exit, of all netlist bytes that are read as a netlist
-- by value
pub record Derives (value : Netlist) (node layer set : ℕ) (before after : List ℕ) (r : Result ℕ Refusal) : Type 0 where
  pub reply : (bytes : List ℕ) → ReadAs value bytes → derived_of r ≡ steps_reply bytes node layer set (length before)
  pub steps : (bytes : List ℕ) → ReadAs value bytes → after ≡ steps_after bytes node layer set before
  pub follows : (bytes : List ℕ) → ReadAs value bytes → (count : ℕ) → derived_of r ≡ answered count
      → Certificate bytes node layer set count after
  pub most : (count : ℕ) → derived_of r ≡ answered count → count ≤ most_steps
