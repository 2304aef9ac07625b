-- What the parts of the work bytes hold: parts 2 × i and 2 × i + 1 hold just the sets of the two families of node i,
-- and as many. By the bits of the bytes, which are those of every set below 1,024; a family has no other.
-- Assumes nothing.
use Prim.Native.Nat.{ℕ, ◌+◌, ◌*◌, ◌/◌, ◌%◌, ◌^◌, ◌≤◌, ◌<◌}
use mathlib.Core.Path.{◌≡◌, sym, ◌∙◌}
use mathlib.Core.Logic.{⊎_elim}
use mathlib.Core.List.{List, ◌++◌}
use native.Mathlib.Omega.{arith}
use lib.Dec.{T}
use lib.ListN.{length, get_or, get_or-append}
use Rattle.rules.specs.Lists.{member}
use Rattle.rules.specs.Records.{Netlist, WellFormed, odd, most_sets}
use Rattle.rules.specs.Families.{Family, product, Families, constant, families, families_at}
use Rattle.rules.specs.Slices.{work_bytes}
use Rattle.rule_laws.proofs.Tests.{same_test, lt_or_le}
use Rattle.rule_laws.proofs.Lists.{product_holds}
use Rattle.rule_laws.proofs.Members.{All}
use Rattle.rule_laws.proofs.Once.{once, same_length, settled_once, glitch_once}
use Rattle.rule_laws.proofs.Bounds.{product_cases, families_small}
use Rattle.rule_laws.proofs.Packing.{work_length, settled_bit, glitch_bit}
use Rattle.rule_laws.proofs.Exit.{families_length}
use Rattle.families.specs.Parts.{HasPart, holds_at, family_at, with_family}
use Rattle.families.proofs.Parts.{member_at, below_at, once_at, with_here}

-- families with the same sets
pub record Alike (F G : Family) : Type 0 where
  pub same : (A : ℕ) → member A F ≡ member A G

-- products see only which sets are in the families
pub alike_product : {F G F' G' : Family} → Alike F F' → Alike G G' → Alike (product F G) (product F' G')
alike_product {F} {G} {F'} {G'} p q = record {
  same = λ C.
      same_test (member C (product F G)) (member C (product F' G'))
      (through F G F' G' p.same q.same C) (through F' G' F G (λ A. sym (p.same A)) (λ A. sym (q.same A)) C);
}
  where
    through : (F G F' G' : Family) → ((A : ℕ) → member A F ≡ member A F') → ((A : ℕ) → member A G ≡ member A G') → (C : ℕ)
        → T (member C (product F G)) → T (member C (product F' G'))
    through F G F' G' p q C t =
        let (A, B, a, b, e) = product_cases F G C t in
        rw e (product_holds F' G' A B (rw (p A) at a) (rw (q B) at b))

-- families of sets of ten variables
abbrev Small : Family → Type 0
Small = All (λ A. A < most_sets)

-- a part whose bits are those of such a family
part_alike : (bytes : List ℕ) (part : ℕ) (F : Family) → ((A : ℕ) → A < most_sets → holds_at bytes part A ≡ member A F) → Small F
    → Alike (family_at bytes part) F
part_alike bytes part F bit small = record {
  same = λ A.
      ⊎_elim (λ l. member_at bytes part A l ∙ bit A l)
      (λ l.
      same_test (member A (family_at bytes part)) (member A F) (λ t. absurd (omega (arith, below_at bytes part A t)))
      (λ t. absurd (omega (arith, small A t))))
      (lt_or_le A most_sets);
}

-- so a part to which it was written
pub written_alike : (bytes : List ℕ) (part : ℕ) (F : Family) → HasPart bytes part → All (λ A. A < most_sets) F
    → Alike (family_at (with_family bytes part F) part) F
written_alike bytes part F has small =
    part_alike (with_family bytes part F) part F
    (λ A l. sym (member_at (with_family bytes part F) part A l) ∙ with_here bytes part F has A l) small

-- as many sets, where the family lists each once
part_size : (bytes : List ℕ) (part : ℕ) (F : Family) → T (once F) → Alike (family_at bytes part) F → length (family_at bytes part) ≡ length F
part_size bytes part F t h = same_length (family_at bytes part) F (once_at bytes part) t h.same

-- ---- the bytes of some nodes' families, whatever stands behind

module _ (Fs : List Families) (rest : List ℕ) where
  -- a part that starts at byte k of them
  front_alike : (part k : ℕ) (F : Family) → 128 * part ≡ k → k + 128 ≤ 256 * length Fs
      → ((A : ℕ) → A < most_sets → odd (get_or (work_bytes Fs) (k + A / 8) 0 / 2 ^ (A % 8)) ≡ member A F) → Small F
      → Alike (family_at (work_bytes Fs ++ rest) part) F
  unfolding holds_at
  front_alike part k F e fits bit small =
      part_alike (work_bytes Fs ++ rest) part F
      (λ A l. rw (e, get_or-append (work_bytes Fs) rest 0 (k + A / 8) (omega (arith, work_length Fs))) (bit A l))
      small

  pub settled_alike : (i : ℕ) → i < length Fs → Small (get_or Fs i constant).settled
      → Alike (family_at (work_bytes Fs ++ rest) (2 * i)) (get_or Fs i constant).settled
  settled_alike i h = front_alike (2 * i) (256 * i) _ (omega arith) (omega arith) (λ A. settled_bit Fs i A h)

  pub glitch_alike : (i : ℕ) → i < length Fs → Small (get_or Fs i constant).glitch
      → Alike (family_at (work_bytes Fs ++ rest) (2 * i + 1)) (get_or Fs i constant).glitch
  glitch_alike i h = front_alike (2 * i + 1) (256 * i + 128) _ (omega arith) (omega arith) (λ A. glitch_bit Fs i A h)

-- ---- those of a netlist's families

module _ (n : Netlist) (formed : WellFormed n) (rest : List ℕ) (i : ℕ) (h : i < length n.nodes) where
  there : i < length (families n)
  there = omega (arith, families_length n)

  pub settled_there : Alike (family_at (work_bytes (families n) ++ rest) (2 * i)) (families_at n i).settled
  unfolding families_at
  settled_there = settled_alike (families n) rest i there (families_small n formed i).0

  pub glitch_there : Alike (family_at (work_bytes (families n) ++ rest) (2 * i + 1)) (families_at n i).glitch
  unfolding families_at
  glitch_there = glitch_alike (families n) rest i there (families_small n formed i).1

  -- the number of sets in each part, which `families::size` gives, is that of the rules' family
  pub settled_size : length (family_at (work_bytes (families n) ++ rest) (2 * i)) ≡ length (families_at n i).settled
  settled_size = part_size _ (2 * i) _ (settled_once n i) settled_there

  pub glitch_size : length (family_at (work_bytes (families n) ++ rest) (2 * i + 1)) ≡ length (families_at n i).glitch
  glitch_size = part_size _ (2 * i + 1) _ (glitch_once n i) glitch_there
