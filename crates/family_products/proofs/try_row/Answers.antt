-- `family_products::try_row` meets its contract. The loop's invariant: the differences with the sets passed are in the
-- part, all else is as it was, and as many pairs are counted. Assumes nothing.
use Prim.Native.Nat.{ℕ, ◌+◌, ◌<◌}
use mathlib.Core.Path.{◌≡◌, sym, ap, ◌∙◌}
use mathlib.Core.Bool.{Bool, ◌||◌, or_comm, or_assoc, or-false}
use mathlib.Core.List.{List, [], ◌∷◌, map, map-append}
use native.Mathlib.Nat.{le_refl}
use native.Mathlib.Numerals.{add-one}
use native.Mathlib.Omega.{arith}
use lib.Bits.{bit_xor}
use lib.Dec.{eqb}
use lib.ListN.{length, get_or, take}
use lib.Seq.{take-suc, take_all}
use Rattle.rules.specs.Lists.{member, insert, union}
use Rattle.rule_laws.proofs.Lists.{member_insert, member_union}
use Rattle.families.specs.Parts.{HasPart, family_at, with_family}
use Rattle.families.proofs.Parts.{with_own, with_same, with_one}
use Rattle.families.proofs.Present.{member_append}
use Rattle.family_products.proofs.try_row.Invariants.{partial}
use Rattle.family_products.proofs.try_row.Goals as goal

-- one more of them
row_next : (start work : List ℕ) (into A : ℕ) (others : List ℕ) (j : ℕ) → HasPart start into → j < length others → work ≡ partial start into A others j
    → with_family work into (insert (bit_xor A (get_or others j 0)) (family_at work into)) ≡ partial start into A others (j + 1)
unfolding member
row_next start work into A others j has h e =
    with_one start work into _ has e (bit_xor A (get_or others j 0))
    ∙ with_same start into _ _
    (λ B l.
    rw (
      add-one j,
      take-suc others j 0 h,
      map-append (bit_xor A) (take j others) (get_or others j 0 ∷ []),
      member_insert,
      member_union,
      member_union,
      member_append,
      or-false,
    )
    (sym (or_assoc (eqb B (bit_xor A (get_or others j 0))) (member B (map (bit_xor A) (take j others))) (member B (family_at start into)))
    ∙ ap (λ (b : Bool). b || member B (family_at start into)) (or_comm (eqb B (bit_xor A (get_or others j 0))) (member B (map (bit_xor A) (take j others))))))

pub loop-other-init : goal.loop-other-init
unfolding union
loop-other-init c =
    let args = c.args in
    record { tried = omega arith; made = with_own args.work.now args.into c.requires.0 (λ i. (c.type_inv.work i).fits) }

pub try_pair-tried-requires : goal.try_pair-tried-requires
try_pair-tried-requires c = (omega (arith, c.requires.0), c.requires.1, c.requires.2 c.loop-other.other-index, omega arith)

pub loop-other-preserved : goal.loop-other-preserved
loop-other-preserved c =
    let args = c.args in
    record {
      tried = omega (arith, c.try_pair-tried.ensures.tried);
      made =
          c.try_pair-tried.ensures.made
          ∙ row_next args.work.now c.loop-other.work args.into args.set args.others.now c.loop-other.other-index c.requires.0 (omega arith) c.loop-other.invariant.made;
    }

pub returns : goal.returns
returns c =
    let others = c.args.others.now in
    let all : c.loop-other.other-index ≡ length others = omega arith in
    record {
      made = rw (take_all (length others) others (le_refl (length others))) at (rw all at c.loop-other.invariant.made);
      tried = rw all at c.loop-other.invariant.tried;
    }
