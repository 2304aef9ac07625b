-- Laws of lists that hold each number once: what is in them after `insert`, `union`, `product` and `spread`, some of it
-- also as equations; and of counts. Assumes nothing.
use Prim.Native.Nat.{ℕ, zero, suc, ◌+◌, ◌*◌, ◌/◌, ◌%◌, ◌<◌, ◌≤◌}
use mathlib.Core.Path.{◌≡◌, refl, sym, ap, ap₂, ◌∙◌, subst, fun_ext}
use mathlib.Core.Logic.{◌⊎◌, inl, inr, ⊎_elim}
use mathlib.Core.Bool.{Bool, true, false, cond, ◌||◌, or_assoc}
use mathlib.Core.List.{List, [], ◌∷◌, ◌++◌, map}
use native.Mathlib.Nat.{zero-add, mul-zero, mul-suc, div-add-mod'}
use native.Mathlib.Omega.{arith}
use lib.Arith.{bin_ind}
use lib.Bits.{bit_xor, differ, xor_step, xor_shr, xor_mod}
use lib.Dec.{T, eqb, eqb→eq, eqb_refl}
use lib.ListN.{length}
use Rattle.rules.specs.Lists.{digit, member, insert, union, count}
use Rattle.rule_laws.proofs.Tests.{or_left, or_right, or_cases, same_test}
use Rattle.rules.specs.Families.{Family, product, spread}

pub member_head : (x : ℕ) (ys : List ℕ) → T (member x (x ∷ ys))
unfolding member
member_head x ys = or_left (eqb x x) (member x ys) (eqb_refl x)

pub member_tail : (x y : ℕ) (ys : List ℕ) → T (member x ys) → T (member x (y ∷ ys))
unfolding member
member_tail x y ys t = or_right (eqb x y) (member x ys) t

-- what is in a list with y in front is y or in the list
pub member_cases : (x y : ℕ) (ys : List ℕ) → T (member x (y ∷ ys)) → (x ≡ y) ⊎ T (member x ys)
unfolding member
member_cases x y ys t = go (or_cases (eqb x y) (member x ys) t)
  where
    go : T (eqb x y) ⊎ T (member x ys) → (x ≡ y) ⊎ T (member x ys)
    go (inl e) = inl (eqb→eq x y e)
    go (inr m) = inr m

-- the same of `insert`
pub insert_new : (x : ℕ) (ys : List ℕ) → T (member x (insert x ys))
unfolding insert
insert_new x ys = go (member x ys) refl
  where
    go : (b : Bool) → member x ys ≡ b → T (member x (cond b ys (x ∷ ys)))
    go true e = subst T (sym e) tt
    go false e = member_head x ys

pub insert_old : (x y : ℕ) (ys : List ℕ) → T (member x ys) → T (member x (insert y ys))
unfolding insert
insert_old x y ys t = go (member y ys)
  where
    go : (b : Bool) → T (member x (cond b ys (y ∷ ys)))
    go true = t
    go false = member_tail x y ys t

pub insert_cases : (x y : ℕ) (ys : List ℕ) → T (member x (insert y ys)) → (x ≡ y) ⊎ T (member x ys)
unfolding insert
insert_cases x y ys = go (member y ys)
  where
    go : (b : Bool) → T (member x (cond b ys (y ∷ ys))) → (x ≡ y) ⊎ T (member x ys)
    go true t = inr t
    go false t = member_cases x y ys t

-- and of `union`
pub union_left : (x : ℕ) (xs ys : List ℕ) → T (member x xs) → T (member x (union xs ys))
unfolding union
union_left x [] ys t = absurd (unfold member in t)
union_left x (y ∷ xs) ys t = go (member_cases x y xs t) (union_left x xs ys)
  where
    go : (x ≡ y) ⊎ T (member x xs) → (T (member x xs) → T (member x (union xs ys))) → T (member x (insert y (union xs ys)))
    go (inl e) rest = subst (λ (z : ℕ). T (member z (insert y (union xs ys)))) (sym e) (insert_new y (union xs ys))
    go (inr m) rest = insert_old x y (union xs ys) (rest m)

pub union_right : (x : ℕ) (xs ys : List ℕ) → T (member x ys) → T (member x (union xs ys))
unfolding union
union_right x [] ys t = t
union_right x (y ∷ xs) ys t = insert_old x y (union xs ys) (union_right x xs ys t)

pub union_cases : (x : ℕ) (xs ys : List ℕ) → T (member x (union xs ys)) → T (member x xs) ⊎ T (member x ys)
unfolding union
union_cases x [] ys t = inr t
union_cases x (y ∷ xs) ys t = go (insert_cases x y (union xs ys) t) (union_cases x xs ys)
  where
    old : T (member x xs) ⊎ T (member x ys) → T (member x (y ∷ xs)) ⊎ T (member x ys)
    old (inl m) = inl (member_tail x y xs m)
    old (inr m) = inr m

    go : (x ≡ y) ⊎ T (member x (union xs ys)) → (T (member x (union xs ys)) → T (member x xs) ⊎ T (member x ys))
        → T (member x (y ∷ xs)) ⊎ T (member x ys)
    go (inl e) rest = inl (subst (λ (z : ℕ). T (member z (y ∷ xs))) (sym e) (member_head y xs))
    go (inr m) rest = old (rest m)

-- ---- membership as equations

pub member_insert : (x y : ℕ) (ys : List ℕ) → member x (insert y ys) ≡ (eqb x y || member x ys)
unfolding member
member_insert x y ys =
    same_test (member x (insert y ys)) (member x (y ∷ ys))
    (λ t. ⊎_elim (λ e. subst (λ (z : ℕ). T (member z (y ∷ ys))) (sym e) (member_head y ys)) (member_tail x y ys) (insert_cases x y ys t))
    (λ t. ⊎_elim (λ e. subst (λ (z : ℕ). T (member z (insert y ys))) (sym e) (insert_new y ys)) (insert_old x y ys) (member_cases x y ys t))

pub member_union : (x : ℕ) (xs ys : List ℕ) → member x (union xs ys) ≡ (member x xs || member x ys)
unfolding member union
member_union x [] ys = refl
member_union x (y ∷ xs) ys =
    rw (member_insert x y (union xs ys), member_union x xs ys) (sym (or_assoc (eqb x y) (member x xs) (member x ys)))

-- ---- symmetric differences

-- the difference with A, taken twice, changes nothing
pub xor_twice : (A B : ℕ) → bit_xor A (bit_xor A B) ≡ B
xor_twice =
    bin_ind (λ A. (B : ℕ) → bit_xor A (bit_xor A B) ≡ B) (λ B. refl)
    (λ A ih B.
    xor_step A (bit_xor A B)
    ∙ rw (xor_shr A B 1, xor_mod A B 1, ih (B / 2), last (A % 2) (B % 2) (omega arith) (omega arith)) (div-add-mod' B 2))
  where
    last : (a b : ℕ) → a < 2 → b < 2 → differ a (bit_xor a b) ≡ b
    last zero b p q = refl
    last (suc zero) zero p q = refl
    last (suc zero) (suc zero) p q = refl
    last (suc zero) (suc (suc b)) p q = absurd (omega arith)
    last (suc (suc a)) b p q = absurd (omega arith)

-- what is in a family shifted by A is the difference of A and what is in the family
pub member_shift : (A B : ℕ) (F : Family) → member B (map (bit_xor A) F) ≡ member (bit_xor A B) F
unfolding member
member_shift A B [] = refl
member_shift A B (C ∷ F) = ap₂ ◌||◌ moved (member_shift A B F)
  where
    eq_test : {x y : ℕ} → x ≡ y → T (eqb x y)
    eq_test {x} {y} e = subst (λ (z : ℕ). T (eqb x z)) e (eqb_refl x)

    moved : eqb B (bit_xor A C) ≡ eqb (bit_xor A B) C
    moved = same_test (eqb B (bit_xor A C)) (eqb (bit_xor A B) C)
        (λ t. eq_test (ap (bit_xor A) (eqb→eq B (bit_xor A C) t) ∙ xor_twice A C))
        (λ t. eq_test (sym (xor_twice A B) ∙ ap (bit_xor A) (eqb→eq (bit_xor A B) C t)))

-- ---- products

shifted : (A B : ℕ) (G : Family) → T (member B G) → T (member (bit_xor A B) (map (bit_xor A) G))
shifted A B [] t = absurd (unfold member in t)
shifted A B (C ∷ G) t = go (member_cases B C G t) (shifted A B G)
  where
    go : (B ≡ C) ⊎ T (member B G) → (T (member B G) → T (member (bit_xor A B) (map (bit_xor A) G)))
        → T (member (bit_xor A B) (bit_xor A C ∷ map (bit_xor A) G))
    go (inl e) rest =
        subst (λ (z : ℕ). T (member (bit_xor A z) (bit_xor A C ∷ map (bit_xor A) G))) (sym e)
        (member_head (bit_xor A C) (map (bit_xor A) G))
    go (inr m) rest = member_tail (bit_xor A B) (bit_xor A C) (map (bit_xor A) G) (rest m)

-- the symmetric difference of one from F and one from G is in their product, however often it arises
pub product_holds : (F G : Family) (A B : ℕ) → T (member A F) → T (member B G) → T (member (bit_xor A B) (product F G))
unfolding product
product_holds [] G A B t u = absurd (unfold member in t)
product_holds (C ∷ F) G A B t u = go (member_cases A C F t) (λ m. product_holds F G A B m u)
  where
    go : (A ≡ C) ⊎ T (member A F) → (T (member A F) → T (member (bit_xor A B) (product F G)))
        → T (member (bit_xor A B) (union (map (bit_xor C) G) (product F G)))
    go (inl e) rest =
        subst (λ (z : ℕ). T (member (bit_xor z B) (union (map (bit_xor C) G) (product F G)))) (sym e)
        (union_left (bit_xor C B) (map (bit_xor C) G) (product F G) (shifted C B G u))
    go (inr m) rest = union_right (bit_xor A B) (map (bit_xor C) G) (product F G) (rest m)

-- ---- the empty set, both families and their product

pub spread_first : (F G : Family) (A : ℕ) → T (member A F) → T (member A (spread F G))
unfolding spread
spread_first F G A t = insert_old A 0 _ (union_left A F _ t)

pub spread_second : (F G : Family) (B : ℕ) → T (member B G) → T (member B (spread F G))
unfolding spread
spread_second F G B t = insert_old B 0 _ (union_right B F _ (union_left B G _ t))

pub spread_both : (F G : Family) (A B : ℕ) → T (member A F) → T (member B G) → T (member (bit_xor A B) (spread F G))
unfolding spread
spread_both F G A B t u =
    insert_old (bit_xor A B) 0 _ (union_right (bit_xor A B) F _ (union_right (bit_xor A B) G _ (product_holds F G A B t u)))

pub spread_empty : (F G : Family) → T (member 0 (spread F G))
unfolding spread
spread_empty F G = insert_new 0 _

-- ---- counts

pub digit_small : (b : Bool) → digit b ≤ 1
digit_small true = omega arith
digit_small false = omega arith

pub count_append {ℓ} : {A : Type ℓ} (test : A → Bool) (xs ys : List A) → count test (xs ++ ys) ≡ count test xs + count test ys
unfolding count
count_append test [] ys = sym (zero-add (count test ys))
count_append test (x ∷ xs) ys = omega (arith, count_append test xs ys)

pub count_map {ℓ κ} : {A : Type ℓ} {B : Type κ} (test : B → Bool) (f : A → B) (xs : List A) → count test (map f xs) ≡ count (λ x. test (f x)) xs
unfolding count
count_map test f [] = refl
count_map test f (x ∷ xs) = ap (λ (k : ℕ). digit (test (f x)) + k) (count_map test f xs)

pub count_ext {ℓ} : {A : Type ℓ} (test other : A → Bool) (xs : List A) → ((x : A) → test x ≡ other x) → count test xs ≡ count other xs
count_ext {A = A} test other xs h = ap (λ (t : A → Bool). count t xs) (fun_ext h)

-- a test that does not look at the entry passes all of them or none
pub count_constant {ℓ} : {A : Type ℓ} (b : Bool) (s : List A) → count (λ (x : A). b) s ≡ digit b * length s
unfolding count
count_constant b [] = sym (mul-zero (digit b))
count_constant b (x ∷ s) = rw (count_constant b s) (omega (arith, mul-suc (digit b) (length s)))
