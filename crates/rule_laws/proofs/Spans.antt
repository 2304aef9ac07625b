-- What the two families of a node hold, in the dual form: a family spans a value if every weight that is balanced
-- with each set of the family is balanced with the value; it holds a test if every such weight, itself balanced,
-- is balanced on those that pass the test. Because any weight is taken, a product of two functions needs no expansion:
-- the one's fact is used at the other's weight. Assumes nothing.
use Prim.Native.Nat.{ℕ}
use mathlib.Core.Path.{◌≡◌, refl, sym, ap, ◌∙◌}
use mathlib.Core.Bool.{Bool, true, false, not, ◌&&◌, ◌||◌, xor, beq}
use mathlib.Core.List.{List, [], ◌∷◌}
use lib.Bits.{bit_xor}
use lib.Dec.{T}
use Rattle.rules.specs.Lists.{member}
use Rattle.rules.specs.Values.{Assignment, exclusive_or}
use Rattle.rules.specs.Families.{Family, product, spread}
use Rattle.rule_laws.proofs.Lists.{member_head, product_holds, spread_empty, spread_first, spread_second, spread_both}
use Rattle.rule_laws.proofs.Weights.{Sign, plus, minus, nought, twist, keep, twist_twist, twist_swap, keep_twist, keep_keep, Weight, Halves, Balanced, balanced_ext, balanced_halves, balanced_flip, balanced_nought}
use Rattle.rule_laws.proofs.Characters.{exclusive_or_difference, exclusive_or_empty}

-- a sign with a symmetric difference is the sign with the one set and then the other
with_difference : (A B : ℕ) (x : Assignment) (v : Sign) → twist (exclusive_or (bit_xor A B) x) v ≡ twist (exclusive_or A x) (twist (exclusive_or B x) v)
with_difference A B x v =
    ap (λ (b : Bool). twist b v) (exclusive_or_difference A B x)
    ∙ sym (twist_twist (exclusive_or B x) (exclusive_or A x) v)
    ∙ twist_swap (exclusive_or B x) (exclusive_or A x) v

-- and with the empty set it is the sign itself
with_empty : (x : Assignment) (v : Sign) → twist (exclusive_or 0 x) v ≡ v
with_empty x v = ap (λ (b : Bool). twist b v) (exclusive_or_empty x)

module _ (K L : List Assignment) where
  -- the weight times the character of a set
  abbrev with_set : ℕ → Weight → Weight
  with_set A w = λ x. twist (exclusive_or A x) (w x)

  -- balanced with each set of the family
  abbrev pub Flat : Family → Weight → Type 0
  Flat F w = (A : ℕ) → T (member A F) → Balanced K L (with_set A w)

  abbrev pub Spans : Family → (Assignment → Bool) → Type 0
  Spans F g = (w : Weight) → Flat F w → Balanced K L (λ x. twist (g x) (w x))

  abbrev pub Holds : Family → (Assignment → Bool) → Type 0
  Holds F g = (w : Weight) → Balanced K L w → Flat F w → Balanced K L (λ x. keep (g x) (w x))

  -- ---- values

  pub spans_input : (A : ℕ) → Spans (A ∷ []) (exclusive_or A)
  spans_input A w flat = flat A (member_head A [])

  pub spans_constant : Spans (0 ∷ []) (λ x. false)
  spans_constant w flat = balanced_ext K L _ _ (λ x. with_empty x (w x)) (flat 0 (member_head 0 []))

  pub spans_not : (F : Family) (g : Assignment → Bool) → Spans F g → Spans F (λ x. not (g x))
  spans_not F g sg w flat = balanced_ext K L _ _ (λ x. one (g x) (w x)) (balanced_flip K L _ (sg w flat))
    where
      one : (b : Bool) (v : Sign) → twist true (twist b v) ≡ twist (not b) v
      one true plus = refl
      one true minus = refl
      one true nought = refl
      one false v = refl

  -- a weight that is balanced with each set of the product is balanced with both values together
  spans_both : (F G : Family) (g h : Assignment → Bool) → Spans F g → Spans G h
      → (w : Weight) → ((A B : ℕ) → T (member A F) → T (member B G) → Balanced K L (with_set (bit_xor A B) w))
      → Balanced K L (λ x. twist (h x) (twist (g x) (w x)))
  spans_both F G g h sg sh w both =
      sh (λ x. twist (g x) (w x))
      (λ B inG.
      balanced_ext K L _ _ (λ x. twist_swap (g x) (exclusive_or B x) (w x))
      (sg (with_set B w)
      (λ A inF.
      balanced_ext K L _ _
      (λ x. with_difference A B x (w x))
      (both A B inF inG))))

  pub spans_xor : (F G : Family) (g h : Assignment → Bool) → Spans F g → Spans G h → Spans (product F G) (λ x. xor (g x) (h x))
  spans_xor F G g h sg sh w flat =
      balanced_ext K L _ _ (λ x. twist_twist (h x) (g x) (w x))
      (spans_both F G g h sg sh w (λ A B inF inG. flat (bit_xor A B) (product_holds F G A B inF inG)))

  -- twice (-1) to the power of an AND is 1 and the two values' signs, less their product
  pub spans_and : (F G : Family) (g h : Assignment → Bool) → Spans F g → Spans G h → Spans (spread F G) (λ x. g x && h x)
  spans_and F G g h sg sh w flat =
      balanced_halves K L _ w (λ x. twist (g x) (w x)) (λ x. twist (h x) (w x)) (λ x. twist true (twist (h x) (twist (g x) (w x))))
      (λ x. one (g x) (h x) (w x))
      (balanced_ext K L _ _ (λ x. with_empty x (w x)) (flat 0 (spread_empty F G)))
      (sg w (λ A inF. flat A (spread_first F G A inF)))
      (sh w (λ B inG. flat B (spread_second F G B inG)))
      (balanced_flip K L _ (spans_both F G g h sg sh w (λ A B inF inG. flat (bit_xor A B) (spread_both F G A B inF inG))))
    where
      one : (a b : Bool) (v : Sign) → Halves (twist (a && b) v) v (twist a v) (twist b v) (twist true (twist b (twist a v)))
      one true true plus = refl
      one true true minus = refl
      one true true nought = refl
      one true false plus = refl
      one true false minus = refl
      one true false nought = refl
      one false true plus = refl
      one false true minus = refl
      one false true nought = refl
      one false false plus = refl
      one false false minus = refl
      one false false nought = refl

  -- an OR is the NOT of an AND of NOTs
  pub spans_or : (F G : Family) (g h : Assignment → Bool) → Spans F g → Spans G h → Spans (spread F G) (λ x. g x || h x)
  spans_or F G g h sg sh w flat =
      balanced_ext K L _ _ (λ x. ap (λ (b : Bool). twist b (w x)) (one (g x) (h x)))
      (spans_not (spread F G) (λ x. not (g x) && not (h x)) (spans_and F G (λ x. not (g x)) (λ x. not (h x)) (spans_not F g sg) (spans_not G h sh)) w flat)
    where
      one : (a b : Bool) → not (not a && not b) ≡ (a || b)
      one true b = refl
      one false true = refl
      one false false = refl

  -- ---- patterns

  pub holds_nothing : (F : Family) → Holds F (λ x. true)
  holds_nothing F w b flat = b

  pub holds_more : (F G : Family) (g : Assignment → Bool) → ((A : ℕ) → T (member A F) → T (member A G)) → Holds F g → Holds G g
  holds_more F G g more hg w b flat = hg w b (λ A inF. flat A (more A inF))

  -- one feeding point: twice the test of a value is 1 and the value's sign, or less it
  pub holds_point : (F : Family) (g : Assignment → Bool) (z : Bool) → Spans F g → Holds F (λ x. beq (g x) z)
  holds_point F g z sg w b flat =
      balanced_halves K L _ w (λ x. twist z (twist (g x) (w x))) (λ x. nought) (λ x. nought) (λ x. one (g x) z (w x))
      b (signed z) (balanced_nought K L) (balanced_nought K L)
    where
      signed : (c : Bool) → Balanced K L (λ x. twist c (twist (g x) (w x)))
      signed true = balanced_flip K L _ (sg w flat)
      signed false = sg w flat

      one : (a c : Bool) (v : Sign) → Halves (keep (beq a c) v) v (twist c (twist a v)) nought nought
      one true true plus = refl
      one true true minus = refl
      one true true nought = refl
      one true false plus = refl
      one true false minus = refl
      one true false nought = refl
      one false true plus = refl
      one false true minus = refl
      one false true nought = refl
      one false false plus = refl
      one false false minus = refl
      one false false nought = refl

  -- the patterns of both operands together
  pub holds_both : (F G : Family) (g h : Assignment → Bool) → Holds F g → Holds G h → Holds (spread F G) (λ x. g x && h x)
  holds_both F G g h hg hh w b flat =
      balanced_ext K L _ _ (λ x. keep_keep (g x) (h x) (w x))
      (hh (λ x. keep (g x) (w x)) (hg w b (λ A inF. flat A (spread_first F G A inF)))
      (λ B inG.
      balanced_ext K L _ _ (λ x. keep_twist (g x) (exclusive_or B x) (w x))
      (hg (with_set B w) (flat B (spread_second F G B inG))
      (λ A inF.
      balanced_ext K L _ _
      (λ x. with_difference A B x (w x))
      (flat (bit_xor A B) (spread_both F G A B inF inG))))))
