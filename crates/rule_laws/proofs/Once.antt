-- Each is listed once: no feeding point of a node is listed twice, and no set in either of its families.
-- `insert` and `union` keep that, and a product has it whatever its factors. Such lists of the same numbers are equally
-- long, and n numbers below n that are listed once are all of them. Assumes nothing.
use Prim.Native.Nat.{ℕ, suc, ◌≤◌, ◌<◌}
use mathlib.Core.Path.{◌≡◌, refl, sym, subst}
use mathlib.Core.Logic.{◌⊎◌, inl, inr, ⊎_elim}
use mathlib.Core.Bool.{Bool, true, false, cond, not, ◌&&◌}
use mathlib.Core.List.{List, [], ◌∷◌, map}
use native.Mathlib.Nat.{le_antisymm}
use native.Mathlib.Omega.{arith}
use lib.Bits.{bit_xor}
use lib.Dec.{T, T_not}
use lib.ListN.{length, get_or}
use Rattle.rules.specs.Lists.{member, insert, union, tabulate}
use Rattle.rules.specs.Records.{input, Netlist, set_of}
use Rattle.rules.specs.Values.{feeding}
use Rattle.rules.specs.Families.{Family, product, families_at}
use Rattle.rule_laws.proofs.Tests.{pass, and_left, and_right}
use Rattle.rule_laws.proofs.Lists.{member_head, member_tail, member_cases}
use Rattle.rule_laws.proofs.Members.{All, all_front, entry_member}
use Rattle.rule_laws.proofs.Entries.{each_feeding, each_family}
use Rattle.rule_laws.proofs.Packing.{tabulate_length, tabulate_at}

-- no number is in the list twice
unfoldable pub once : List ℕ → Bool
once [] = true
once (x ∷ xs) = not (member x xs) && once xs

pub single_once : (x : ℕ) → T (once (x ∷ []))
unfolding once member
single_once x = tt

pub insert_once : (x : ℕ) (ys : List ℕ) → T (once ys) → T (once (insert x ys))
unfolding once insert
insert_once x ys t = go (member x ys) refl
  where
    go : (b : Bool) → member x ys ≡ b → T (once (cond b ys (x ∷ ys)))
    go true e = t
    go false e = rw e t

pub union_once : (xs ys : List ℕ) → T (once ys) → T (once (union xs ys))
unfolding union
union_once [] ys t = t
union_once (x ∷ xs) ys t = insert_once x (union xs ys) (union_once xs ys t)

pub product_once : (F G : Family) → T (once (product F G))
unfolding product
product_once [] G = unfold once in tt
product_once (A ∷ F) G = union_once (map (bit_xor A) G) (product F G) (product_once F G)

-- ---- how long such lists are

-- what is in a list is x or in the rest, once x is out of it
take_out : (x : ℕ) (ys : List ℕ) → T (member x ys)
    → (rest : List ℕ) × (length ys ≡ suc (length rest)) × All (λ y. (y ≡ x) ⊎ T (member y rest)) ys
take_out x [] t = absurd (unfold member in t)
take_out x (y ∷ ys) t =
    ⊎_elim (λ e. (ys, refl, all_front (λ z. (z ≡ x) ⊎ T (member z ys)) y ys (inl (sym e)) (λ z m. inr m)))
    (λ m.
    let (rest, shorter, others) = take_out x ys m in (
      y ∷ rest,
      omega arith,
      all_front (λ z. (z ≡ x) ⊎ T (member z (y ∷ rest))) y ys (inr (member_head y rest))
          (λ z u. ⊎_elim inl (λ r. inr (member_tail z y rest r)) (others z u)),
    ))
    (member_cases x y ys t)

-- a list that holds each once is no longer than any that holds all of them
no_longer : (xs ys : List ℕ) → T (once xs) → All (λ x. T (member x ys)) xs → length xs ≤ length ys
unfolding once
no_longer [] ys t h = omega arith
no_longer (x ∷ xs) ys t h =
    let (rest, shorter, others) = take_out x ys (h x (member_head x xs)) in
    let new = T_not (member x xs) (and_left (not (member x xs)) (once xs) t) in
    omega (
      arith,
      no_longer xs rest (and_right (not (member x xs)) (once xs) t)
          (λ z m. ⊎_elim (λ e. absurd (new (rw e at m))) (λ r. r) (others z (h z (member_tail z x xs m)))),
    )

pub same_length : (xs ys : List ℕ) → T (once xs) → T (once ys) → ((x : ℕ) → member x xs ≡ member x ys) → length xs ≡ length ys
same_length xs ys t u same =
    le_antisymm (no_longer xs ys t (λ x m. subst T (same x) m)) (no_longer ys xs u (λ x m. subst T (sym (same x)) m))

-- n numbers below n, each listed once, are all numbers below n: with one that is not among them
-- they would be more than n
pub all_below : (n : ℕ) (xs : List ℕ) → T (once xs) → All (λ x. x < n) xs → length xs ≡ n → (y : ℕ) → y < n → T (member y xs)
unfolding once
all_below n xs t low e y h = pass (go (member y xs) refl)
  where
    among : (x : ℕ) → x < n → T (member x (tabulate (λ i. i) n))
    among x l =
        subst (λ (z : ℕ). T (member z (tabulate (λ i. i) n))) (tabulate_at (λ i. i) n x 0 l)
        (entry_member (tabulate (λ i. i) n) 0 x (omega (arith, tabulate_length (λ i. i) n)))

    go : (b : Bool) → member y xs ≡ b → member y xs ≡ true
    go true f = f
    go false f =
        let more = no_longer (y ∷ xs) (tabulate (λ i. i) n) (rw f t)
        (all_front (λ x. T (member x (tabulate (λ i. i) n))) y xs (among y h) (λ x m. among x (low x m))) in
        absurd (omega (arith, tabulate_length (λ i. i) n))

-- ---- feeding points and families

-- each feeding point of a node is listed once
pub feeding_once : (n : Netlist) (i : ℕ) → T (once (feeding n i))
feeding_once n =
    each_feeding n (λ i F. T (once F)) record {
      stays = λ m i F h t. t;
      empty = unfold once in tt;
      alone = λ i h point. single_once i;
      joined = λ i F G t u. union_once F G u;
    }

families_once : (n : Netlist) (i : ℕ) → T (once (families_at n i).settled) × T (once (families_at n i).glitch)
families_once n =
    each_family n (λ F. T (once F)) record {
      empty = single_once 0;
      alone = λ i h. single_once (set_of (get_or n.nodes i (input 0)));
      added = λ F t. insert_once 0 F t;
      joined = λ F G t u. union_once F G u;
      multiplied = λ F G t u. product_once F G;
    }

-- each set of a node's settled family is listed once, and each of its glitch family
pub settled_once : (n : Netlist) (i : ℕ) → T (once (families_at n i).settled)
settled_once n i = (families_once n i).0

pub glitch_once : (n : Netlist) (i : ℕ) → T (once (families_at n i).glitch)
glitch_once n i = (families_once n i).1
