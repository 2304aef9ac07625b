-- Runs of stores to a list, of which those past its end do nothing. Assumes nothing.
use Prim.Native.Nat.{ℕ, suc, ◌+◌, ◌-◌, ◌≤◌, min}
use mathlib.Core.Path.{◌≡◌, refl, sym, ap, ◌∙◌}
use mathlib.Core.List.{List, [], ◌∷◌, ◌++◌}
use native.Mathlib.Decide.{dec_le}
use native.Mathlib.Nat.{add-zero, zero-add}
use native.Mathlib.Numerals.{unary_clauses}
use native.Mathlib.Omega.{arith}
use lib.ListN.{length, take, drop, set, length-set, length-take}
use lib.Seq.{sets, set_out, length-sets, sets-eq, take_all, take-nil}

-- two runs, one behind the other, are one
sets_append : (l : List ℕ) (i : ℕ) (xs ys : List ℕ) → sets (sets l i xs) (i + length xs) ys ≡ sets l i (xs ++ ys)
sets_append l i [] ys = rw add-zero
sets_append l i (x ∷ xs) ys =
    let next : i + length (x ∷ xs) ≡ suc i + length xs = omega arith in
    rw next (sets_append (set l i x) (suc i) xs ys)

-- a run that starts past the end does nothing, so it may start at the end as well
sets_out : (l : List ℕ) (i : ℕ) (xs : List ℕ) → length l ≤ i → sets l i xs ≡ l
sets_out l i [] h = refl
sets_out l i (x ∷ xs) h = sets_out (set l i x) (suc i) xs (omega (arith, length-set l i x)) ∙ set_out l i x h

pub sets_cut : (l : List ℕ) (i : ℕ) (xs : List ℕ) → sets l (min i (length l)) xs ≡ sets l i xs
sets_cut l i xs = either (dec_le i (length l))
  where
    either : Dec (i ≤ length l) → sets l (min i (length l)) xs ≡ sets l i xs
    either (yes h) = let inside : min i (length l) ≡ i = omega arith in rw inside
    either (no h) = sets_out l (min i (length l)) xs (omega arith) ∙ sym (sets_out l i xs (omega arith))

-- a run from the front on, as far as there is room, and beyond it what was there
sets_behind : (x : ℕ) (l : List ℕ) (i : ℕ) (xs : List ℕ) → sets (x ∷ l) (suc i) xs ≡ x ∷ sets l i xs
sets_behind x l i [] = refl
sets_behind x l i (y ∷ ys) = sets_behind x (set l i y) (suc i) ys

pub sets_front : (l xs : List ℕ) → let n = min (length xs) (length l) in
    sets l 0 xs ≡ take n xs ++ drop n l
sets_front l [] = simp unary_clauses
sets_front [] (x ∷ xs) = simp unary_clauses (sets_out [] 0 (x ∷ xs) (omega arith))
sets_front (y ∷ l) (x ∷ xs) = simp unary_clauses (sets_behind x l 0 xs ∙ ap (◌∷◌ x) (sets_front l xs))

-- a run behind another from the front on, that starts where there is room no more, or at its end
pub sets_next : (l own xs : List ℕ) (count : ℕ) → count ≡ min (length own) (length l) → sets (sets l 0 own) count xs ≡ sets l 0 (own ++ xs)
sets_next l own xs count e =
    let cut : count ≡ min (length own) (length (sets l 0 own)) = omega (arith, length-sets l 0 own) in
    rw cut (sets_cut (sets l 0 own) (length own) xs ∙ rw zero-add at (sets_append l 0 own xs))

-- a run, as far as there is room
sets_room : (l : List ℕ) (i : ℕ) (xs : List ℕ) → sets l i xs ≡ sets l i (take (length l - i) xs)
sets_room l i [] = simp take-nil
sets_room l i (x ∷ xs) = go (dec_le (length l) i) (sets_room (set l i x) (suc i) xs)
  where
    go : Dec (length l ≤ i) → sets (set l i x) (suc i) xs ≡ sets (set l i x) (suc i) (take (length (set l i x) - suc i) xs)
        → sets l i (x ∷ xs) ≡ sets l i (take (length l - i) (x ∷ xs))
    go (yes out) more =
        let none : length l - i ≡ 0 = omega arith in
        rw none (sets_out l i (x ∷ xs) out)
    go (no within) more =
        let room : length l - i ≡ suc (length (set l i x) - suc i) = omega (arith, length-set l i x) in
        rw room more

pub sets_copied : (l : List ℕ) (i n : ℕ) (xs : List ℕ) → i ≤ length l → n ≡ min (length xs) (length l - i)
    → take i l ++ take n xs ++ drop (i + n) l ≡ sets l i xs
sets_copied l i n xs h e = go (dec_le (length xs) (length l - i))
  where
    long : length (take n xs) ≡ n
    long = omega (arith, length-take n xs)

    front : sets l i (take n xs) ≡ take i l ++ take n xs ++ drop (i + n) l
    front = rw long at (sets-eq (take n xs) l i (omega (arith, long)))

    go : Dec (length xs ≤ length l - i) → take i l ++ take n xs ++ drop (i + n) l ≡ sets l i xs
    go (yes all) = sym front ∙ ap (λ (ys : List ℕ). sets l i ys) (take_all n xs (omega arith))
    go (no more) =
        let room : n ≡ length l - i = omega arith in
        sym front ∙ rw room (sym (sets_room l i xs))
