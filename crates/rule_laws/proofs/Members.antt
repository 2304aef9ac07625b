-- A property of all that is in a list: of the empty list, and after a number in front, `insert`, `union`
-- and `map`; and of each entry. Each entry is in the list, and what is in it is an entry. Assumes nothing.
use Prim.Native.Nat.{ℕ, zero, suc, ◌<◌}
use mathlib.Core.Path.{◌≡◌, sym, subst}
use mathlib.Core.Logic.{⊎_elim}
use mathlib.Core.List.{List, [], ◌∷◌, map}
use native.Mathlib.Omega.{arith}
use lib.Dec.{T}
use lib.ListN.{length, get_or}
use Rattle.rules.specs.Lists.{member, insert, union}
use Rattle.rule_laws.proofs.Lists.{member_head, member_tail, member_cases, insert_cases, union_cases}

-- all that is in the list has the property
abbrev pub All : (ℕ → Type 0) → List ℕ → Type 0
All P xs = (x : ℕ) → T (member x xs) → P x

module _ (P : ℕ → Type 0) where
  pub all_none : All P []
  all_none x t = absurd (unfold member in t)

  pub all_front : (y : ℕ) (ys : List ℕ) → P y → All P ys → All P (y ∷ ys)
  all_front y ys p q x t = ⊎_elim (λ e. subst P (sym e) p) (q x) (member_cases x y ys t)

  pub all_single : (y : ℕ) → P y → All P (y ∷ [])
  all_single y p = all_front y [] p all_none

  pub all_insert : (y : ℕ) (ys : List ℕ) → P y → All P ys → All P (insert y ys)
  all_insert y ys p q x t = ⊎_elim (λ e. subst P (sym e) p) (q x) (insert_cases x y ys t)

  pub all_union : (xs ys : List ℕ) → All P xs → All P ys → All P (union xs ys)
  all_union xs ys p q x t = ⊎_elim (p x) (q x) (union_cases x xs ys t)

  -- what each becomes has it
  pub all_map : (f : ℕ → ℕ) (xs : List ℕ) → All (λ x. P (f x)) xs → All P (map f xs)
  all_map f [] h = all_none
  all_map f (x ∷ xs) h = all_front (f x) (map f xs) (h x (member_head x xs)) (all_map f xs (λ y t. h y (member_tail y x xs t)))

  -- each entry has it, and so has what stands for an entry beyond the last
  pub all_at : (xs : List ℕ) (d : ℕ) → All P xs → P d → (i : ℕ) → P (get_or xs i d)
  all_at [] d p q i = q
  all_at (x ∷ xs) d p q zero = p x (member_head x xs)
  all_at (x ∷ xs) d p q (suc i) = all_at xs d (λ y t. p y (member_tail y x xs t)) q i

-- each entry is in the list
pub entry_member : (xs : List ℕ) (d i : ℕ) → i < length xs → T (member (get_or xs i d) xs)
entry_member [] d i h = absurd (omega arith)
entry_member (x ∷ xs) d zero h = member_head x xs
entry_member (x ∷ xs) d (suc i) h = member_tail (get_or xs i d) x xs (entry_member xs d i (omega arith))

-- and what is in it is an entry
pub member_entry : (xs : List ℕ) (d x : ℕ) → T (member x xs) → (i : ℕ) × (i < length xs) × (get_or xs i d ≡ x)
member_entry [] d x t = absurd (unfold member in t)
member_entry (y ∷ xs) d x t =
    ⊎_elim (λ e. (0, omega arith, sym e)) (λ m. let (i, h, e) = member_entry xs d x m in (suc i, omega arith, e)) (member_cases x y xs t)
