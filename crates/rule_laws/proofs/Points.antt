-- Points on which patterns are looked at: what a pattern asks of points taken together, and the law of fewer points.
-- The count of a pattern is the sum of the counts of its two extensions at a further point; so where the counts agree
-- on some points, they agree on any points that are all among them. Assumes nothing.
use Prim.Native.Nat.{ℕ, ◌+◌}
use mathlib.Core.Path.{◌≡◌, refl, sym, ap, ap₂, ◌∙◌, subst}
use mathlib.Core.Logic.{◌⊎◌, inl, inr}
use mathlib.Core.Bool.{Bool, true, false, cond, ◌&&◌, ◌||◌, beq, and-true, and_assoc, and_comm, and_self_left}
use mathlib.Core.List.{List, [], ◌∷◌}
use native.Mathlib.Omega.{arith}
use lib.Dec.{T, eqb, eqb_refl}
use lib.ListN.{get_or}
use Rattle.rules.specs.Lists.{digit, member, insert, union, count}
use Rattle.rules.specs.Records.{mask, Netlist}
use Rattle.rules.specs.Values.{values, how_many, settings, make, Pattern, matches, giving, CountsAgree}
use Rattle.rule_laws.proofs.Lists.{member_head, member_tail, member_cases, count_ext}
use Rattle.rule_laws.proofs.Members.{All}

-- ---- patterns on points taken together

-- a point that is among them already asks nothing more
pub matches_member : (settled : List Bool) (i : ℕ) (points : List ℕ) (z : Pattern) → T (member i points)
    → matches settled points z ≡ (beq (get_or settled i false) (z i) && matches settled points z)
unfolding matches
matches_member settled i [] z t = absurd (unfold member in t)
matches_member settled i (j ∷ points) z t = go (member_cases i j points t) (matches_member settled i points z)
  where
    named : ℕ → Bool
    named k = beq (get_or settled k false) (z k)

    past : (a b c : Bool) → c ≡ (a && c) → (b && c) ≡ (a && (b && c))
    past true b c e = refl
    past false true c e = e
    past false false c e = refl

    go : (i ≡ j) ⊎ T (member i points) → (T (member i points) → matches settled points z ≡ (named i && matches settled points z))
        → (named j && matches settled points z) ≡ (named i && (named j && matches settled points z))
    go (inl e) rest =
        subst (λ (k : ℕ). (named j && matches settled points z) ≡ (named k && (named j && matches settled points z))) (sym e)
        (sym (and_self_left (named j) (matches settled points z)))
    go (inr m) rest = past (named i) (named j) (matches settled points z) (rest m)

-- nor do points that are all among them already
pub matches_among : (settled : List Bool) (P Q : List ℕ) (z : Pattern) → All (λ i. T (member i P)) Q
    → matches settled P z ≡ (matches settled P z && matches settled Q z)
unfolding matches
matches_among settled P [] z among = sym (and-true (matches settled P z))
matches_among settled P (i ∷ Q) z among =
    matches_among settled P Q z (λ j m. among j (member_tail j i Q m))
    ∙ ap (λ (b : Bool). b && matches settled Q z)
    (matches_member settled i P z (among i (member_head i Q)) ∙ and_comm (beq (get_or settled i false) (z i)) (matches settled P z))
    ∙ and_assoc (matches settled P z) (beq (get_or settled i false) (z i)) (matches settled Q z)

matches_insert : (settled : List Bool) (i : ℕ) (points : List ℕ) (z : Pattern)
    → matches settled (insert i points) z ≡ (beq (get_or settled i false) (z i) && matches settled points z)
unfolding insert matches
matches_insert settled i points z = go (member i points) (matches_member settled i points z)
  where
    one : Bool
    one = beq (get_or settled i false) (z i)

    go : (b : Bool) → (T b → matches settled points z ≡ (one && matches settled points z))
        → matches settled (cond b points (i ∷ points)) z ≡ (one && matches settled points z)
    go true e = e tt
    go false e = refl

pub matches_union : (settled : List Bool) (P Q : List ℕ) (z : Pattern) → matches settled (union P Q) z ≡ (matches settled P z && matches settled Q z)
unfolding union matches
matches_union settled [] Q z = refl
matches_union settled (i ∷ P) Q z =
    matches_insert settled i (union P Q) z
    ∙ ap (λ (b : Bool). beq (get_or settled i false) (z i) && b) (matches_union settled P Q z)
    ∙ sym (and_assoc (beq (get_or settled i false) (z i)) (matches settled P z) (matches settled Q z))

-- ---- a further point

-- the pattern that gives point i the value b
unfoldable pub extension : (i : ℕ) → Bool → Pattern → Pattern
extension i b z j = cond (eqb i j) b (z j)

-- which gives other points what it gave them
matches_elsewhere : (settled : List Bool) (i : ℕ) (b : Bool) (points : List ℕ) (z : Pattern) → member i points ≡ false
    → matches settled points (extension i b z) ≡ matches settled points z
unfolding matches member extension
matches_elsewhere settled i b [] z other = refl
matches_elsewhere settled i b (j ∷ points) z other =
    ap₂ (λ (c d : Bool). beq (get_or settled j false) c && d) (ap (λ (c : Bool). cond c b (z j)) (neither (eqb i j) (member i points) other).0)
    (matches_elsewhere settled i b points z (neither (eqb i j) (member i points) other).1)
  where
    neither : (a c : Bool) → (a || c) ≡ false → (a ≡ false) × (c ≡ false)
    neither true c e = absurd (subst T e tt)
    neither false c e = (refl, e)

matches_extension : (settled : List Bool) (i : ℕ) (b : Bool) (points : List ℕ) (z : Pattern) → member i points ≡ false
    → matches settled (i ∷ points) (extension i b z) ≡ (beq (get_or settled i false) b && matches settled points z)
unfolding matches extension
matches_extension settled i b points z other =
    ap₂ (λ (c d : Bool). beq (get_or settled i false) c && d) (named (eqb i i) (eqb_refl i)) (matches_elsewhere settled i b points z other)
  where
    named : (c : Bool) → T c → cond c b (z i) ≡ b
    named true t = refl
    named false t = absurd t

-- entries that pass a test, told apart by a bit of each
count_apart {ℓ} : {A : Type ℓ} (bit test : A → Bool) (xs : List A)
    → count test xs ≡ count (λ x. beq (bit x) false && test x) xs + count (λ x. beq (bit x) true && test x) xs
unfolding count
count_apart bit test [] = refl
count_apart bit test (x ∷ xs) = omega (arith, count_apart bit test xs, apart (bit x) (test x))
  where
    apart : (b t : Bool) → digit t ≡ digit (beq b false && t) + digit (beq b true && t)
    apart true true = refl
    apart true false = refl
    apart false true = refl
    apart false false = refl

module _ (n : Netlist) where
  -- The count of a pattern is the sum of the counts of its two extensions at a further point.
  pub two_extensions : (points : List ℕ) (i : ℕ) → member i points ≡ false → (z : Pattern) (p s : List Bool)
      → giving n points z p s ≡ giving n (i ∷ points) (extension i false z) p s + giving n (i ∷ points) (extension i true z) p s
  unfolding giving
  two_extensions points i other z p s =
      count_apart (λ m. get_or (settled m) i false) (λ m. matches (settled m) points z) masks ∙ sym (ap₂ ◌+◌ (extended false) (extended true))
    where
      masks : List (List Bool)
      masks = settings (how_many mask n.variables)

      settled : List Bool → List Bool
      settled m = values n (make n.variables s m p)

      extended : (b : Bool) → count (λ m. matches (settled m) (i ∷ points) (extension i b z)) masks
          ≡ count (λ m. beq (get_or (settled m) i false) b && matches (settled m) points z) masks
      extended b = count_ext _ _ masks (λ m. matches_extension (settled m) i b points z other)

  -- so one point may be left out, and so any points
  one_fewer : (points : List ℕ) (i : ℕ) → CountsAgree n (insert i points) → CountsAgree n points
  unfolding insert CountsAgree
  one_fewer points i = go (member i points) refl
    where
      go : (b : Bool) → member i points ≡ b → CountsAgree n (cond b points (i ∷ points)) → CountsAgree n points
      go true e agree p s t z = agree p s t z
      go false e agree p s t z =
          two_extensions points i e z p s ∙ ap₂ ◌+◌ (agree p s t (extension i false z)) (agree p s t (extension i true z))
          ∙ sym (two_extensions points i e z p t)

  fewer : (P Q : List ℕ) → CountsAgree n (union P Q) → CountsAgree n Q
  unfolding union
  fewer [] Q agree = agree
  fewer (i ∷ P) Q agree = fewer P Q (one_fewer (union P Q) i agree)

  -- Where the counts agree on some points, they agree on any points that are all among them.
  pub agree_among : (P Q : List ℕ) → All (λ i. T (member i P)) Q → CountsAgree n P → CountsAgree n Q
  unfolding CountsAgree
  agree_among P Q among agree = fewer P Q (λ p s t z. same z p s ∙ agree p s t z ∙ sym (same z p t))
    where
      same : (z : Pattern) (p s : List Bool) → giving n (union P Q) z p s ≡ giving n P z p s
      same z p s = unfold giving in (count_ext _ _ _ (λ m. matches_union _ P Q z ∙ sym (matches_among _ P Q z among)))
