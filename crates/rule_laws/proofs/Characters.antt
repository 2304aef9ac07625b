-- The exclusive-or of a set's variables under symmetric difference, and over all mask settings:
-- with a mask in the set it is 0 as often as 1, and with no secret in it, it does not see the secrets.
-- Both by induction on the variables. Assumes nothing.
use Prim.Native.Nat.{ℕ, zero, suc, ◌+◌, ◌/◌, ◌%◌, ◌<◌}
use mathlib.Core.Path.{◌≡◌, refl, sym, ap, ap₂, ◌∙◌, subst}
use mathlib.Core.Logic.{◌⊎◌, inl, inr}
use mathlib.Core.Bool.{Bool, true, false, not, ◌&&◌, ◌||◌, xor, beq, and-false, not-not}
use mathlib.Core.List.{List, [], ◌∷◌}
use native.Mathlib.Nat.{zero-add, mod-lt, zero-lt-suc, add_comm}
use native.Mathlib.Numerals.{one-add}
use native.Mathlib.Omega.{arith}
use lib.Bits.{bit_xor, xor_shr, xor_mod}
use lib.Dec.{T, eqb}
use Rattle.rules.specs.Lists.{count}
use Rattle.rules.specs.Records.{Class, secret, mask, public, odd}
use Rattle.rules.specs.Values.{Assignment, exclusive_or, same, how_many, settings, next, others, make}
use Rattle.rules.specs.Families.{holds}
use Rattle.rule_laws.proofs.Tests.{same_bit, both, each}
use Rattle.rule_laws.proofs.Lists.{count_ext}
use Rattle.rule_laws.proofs.Settings.{settings_more}

-- ---- symmetric difference

-- a remainder by 2 is 0 or 1
bit : (n : ℕ) → n < 2 → (n ≡ 0) ⊎ (n ≡ 1)
bit zero h = inl refl
bit (suc zero) h = inr refl
bit (suc (suc n)) h = absurd (omega arith)

odd_xor : (A B : ℕ) → odd (bit_xor A B) ≡ xor (odd A) (odd B)
unfolding xor
odd_xor A B = ap (λ (n : ℕ). eqb n 1) (xor_mod A B 1) ∙ go (A % 2) (B % 2) (bit (A % 2) (mod-lt A two)) (bit (B % 2) (mod-lt B two))
  where
    two : zero < 2
    two = zero-lt-suc 1

    go : (a b : ℕ) → (a ≡ 0) ⊎ (a ≡ 1) → (b ≡ 0) ⊎ (b ≡ 1) → eqb (bit_xor a b) 1 ≡ xor (eqb a 1) (eqb b 1)
    go a b (inl p) (inl q) = rw (p, q) refl
    go a b (inl p) (inr q) = rw (p, q) refl
    go a b (inr p) (inl q) = rw (p, q) refl
    go a b (inr p) (inr q) = rw (p, q) refl

-- `xor` is associative and commutative, and `&&` distributes over it: five bits, regrouped,
-- by a test that antt computes
regroups : (a b x y z : Bool) → Bool
regroups a b x y z = beq (xor (xor a b && x) (xor y z)) (xor (xor (a && x) y) (xor (b && x) z))

regroup : (a b x y z : Bool) → xor (xor a b && x) (xor y z) ≡ xor (xor (a && x) y) (xor (b && x) z)
unfolding xor regroups
regroup a b x y z =
    same_bit _ _
    (each (λ z. regroups a b x y z)
    (each (λ y. both (λ z. regroups a b x y z))
    (each (λ x. both (λ y. both (λ z. regroups a b x y z)))
    (each (λ b. both (λ x. both (λ y. both (λ z. regroups a b x y z))))
    (each (λ a. both (λ b. both (λ x. both (λ y. both (λ z. regroups a b x y z))))) tt a)
    b)
    x)
    y)
    z)

-- the exclusive-or of a symmetric difference is that of the two
pub exclusive_or_difference : (A B : ℕ) (x : Assignment) → exclusive_or (bit_xor A B) x ≡ xor (exclusive_or A x) (exclusive_or B x)
unfolding exclusive_or xor
exclusive_or_difference A B [] = refl
exclusive_or_difference A B (b ∷ x) =
    ap₂ (λ (o r : Bool). xor (o && b) r) (odd_xor A B) (ap (λ (s : ℕ). exclusive_or s x) (xor_shr A B 1) ∙ exclusive_or_difference (A / 2) (B / 2) x)
    ∙ regroup (odd A) (odd B) b (exclusive_or (A / 2) x) (exclusive_or (B / 2) x)

pub exclusive_or_empty : (x : Assignment) → exclusive_or 0 x ≡ false
unfolding exclusive_or xor
exclusive_or_empty [] = refl
exclusive_or_empty (b ∷ x) = ap (λ (r : Bool). xor false r) (exclusive_or_empty x)

-- ---- over all mask settings

pub false_xor : (b : Bool) → xor false b ≡ b
unfolding xor
false_xor true = refl
false_xor false = refl

true_xor : (b : Bool) → xor true b ≡ not b
unfolding xor
true_xor true = refl
true_xor false = refl

-- A set with no secret in it: the secrets do not matter.
pub no_secret : (variables : List Class) (A : ℕ) (s t m p : List Bool) → T (not (holds secret variables A))
    → exclusive_or A (make variables s m p) ≡ exclusive_or A (make variables t m p)
unfolding holds make exclusive_or same
no_secret [] A s t m p h = refl
no_secret (secret ∷ variables) A s t m p h = go (odd A) (no_secret variables (A / 2) (others s) (others t) m p) h
  where
    go : (o : Bool)
        → (T (not (holds secret variables (A / 2))) → exclusive_or (A / 2) (make variables (others s) m p) ≡ exclusive_or (A / 2) (make variables (others t) m p))
        → T (not (o && true || holds secret variables (A / 2)))
        → xor (o && next s) (exclusive_or (A / 2) (make variables (others s) m p)) ≡ xor (o && next t) (exclusive_or (A / 2) (make variables (others t) m p))
    go true rest h = absurd h
    go false rest h = ap (xor false) (rest h)
no_secret (mask ∷ variables) A s t m p h =
    ap (xor (odd A && next m)) (no_secret variables (A / 2) s t (others m) p (rw (and-false (odd A)) at h))
no_secret (public ∷ variables) A s t m p h =
    ap (xor (odd A && next p)) (no_secret variables (A / 2) s t m (others p) (rw (and-false (odd A)) at h))

-- a test passes as often as it fails
abbrev Evenly : (List Bool → Bool) → ℕ → Type 0
Evenly test k = count test (settings k) ≡ count (λ m. not (test m)) (settings k)

-- and so it does after a fixed bit
evenly_after : (c : Bool) (test : List Bool → Bool) (k : ℕ) → Evenly test k → Evenly (λ m. xor c (test m)) k
evenly_after false test k e =
    count_ext _ test (settings k) (λ m. false_xor (test m))
    ∙ e
    ∙ count_ext (λ m. not (test m)) _ (settings k) (λ m. ap not (sym (false_xor (test m))))
evenly_after true test k e =
    count_ext _ (λ m. not (test m)) (settings k) (λ m. true_xor (test m))
    ∙ sym e
    ∙ count_ext test _ (settings k) (λ m. sym (not-not (test m)) ∙ ap not (sym (true_xor (test m))))

-- A test is met evenly over one mask more if that mask flips it, or if it is met evenly whatever the mask is.
evenly_mask : (o : Bool) (test : List Bool → Bool) (k : ℕ) → (T (not o) → Evenly test k) → Evenly (λ m. xor (o && next m) (test (others m))) (suc k)
unfolding next others
evenly_mask true test k e =
    settings_more _ k
    ∙ ap₂ ◌+◌ (count_ext _ test (settings k) (λ m. false_xor (test m))) (count_ext _ (λ m. not (test m)) (settings k) (λ m. true_xor (test m)))
    ∙ add_comm (count test (settings k)) (count (λ m. not (test m)) (settings k))
    ∙ sym
    (settings_more (λ m. not (xor (next m) (test (others m)))) k
    ∙ ap₂ ◌+◌
    (count_ext _ (λ m. not (test m)) (settings k) (λ m. ap not (false_xor (test m))))
    (count_ext _ test (settings k) (λ m. ap not (true_xor (test m)) ∙ not-not (test m))))
evenly_mask false test k e =
    let even : Evenly (λ m. xor false (test m)) k = evenly_after false test k (e tt) in
    settings_more _ k ∙ ap₂ ◌+◌ even even ∙ sym (settings_more (λ m. not (xor false (test (others m)))) k)

-- A set with a mask in it: its exclusive-or is 1 for as many mask settings as it is 0.
pub masked : (variables : List Class) (A : ℕ) (s p : List Bool) → T (holds mask variables A)
    → Evenly (λ m. exclusive_or A (make variables s m p)) (how_many mask variables)
unfolding holds make exclusive_or same how_many count
masked [] A s p h = absurd h
masked (secret ∷ variables) A s p h =
    subst (λ (k : ℕ). Evenly (λ m. exclusive_or A (make (secret ∷ variables) s m p)) k) (sym (zero-add (how_many mask variables)))
    (evenly_after (odd A && next s) _ (how_many mask variables) (masked variables (A / 2) (others s) p (rw (and-false (odd A)) at h)))
masked (mask ∷ variables) A s p h =
    subst (λ (k : ℕ). Evenly (λ m. exclusive_or A (make (mask ∷ variables) s m p)) k) (sym (one-add (how_many mask variables)))
    (evenly_mask (odd A) (λ m. exclusive_or (A / 2) (make variables s m p)) (how_many mask variables)
    (λ even. masked variables (A / 2) s p (not_here (odd A) (holds mask variables (A / 2)) even h)))
  where
    not_here : (o b : Bool) → T (not o) → T (o && true || b) → T b
    not_here true b e h = absurd e
    not_here false b e h = h
masked (public ∷ variables) A s p h =
    subst (λ (k : ℕ). Evenly (λ m. exclusive_or A (make (public ∷ variables) s m p)) k) (sym (zero-add (how_many mask variables)))
    (evenly_after (odd A && next p) _ (how_many mask variables) (masked variables (A / 2) s (others p) (rw (and-false (odd A)) at h)))
