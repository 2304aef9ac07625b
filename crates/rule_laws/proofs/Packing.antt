-- The work slice: set A of a family is bit A mod 8 of byte A / 8 of its 128 bytes, and a node has 256 of them, settled
-- before glitch. By induction on the bits of a byte, on the entries of a table, and on the nodes. Assumes nothing.
use Prim.Native.Nat.{ℕ, zero, suc, ◌+◌, ◌*◌, ◌/◌, ◌%◌, ◌^◌, ◌<◌}
use mathlib.Core.Path.{◌≡◌, refl, sym, ap, ap₂, ◌∙◌}
use mathlib.Core.Logic.{◌⊎◌, inl, inr}
use mathlib.Core.List.{List, [], ◌∷◌, ◌++◌, map, map-append}
use native.Mathlib.Nat.{add-zero, zero-add, add-suc, suc-add, add_assoc, div-one, div-add-mod, eq-or-lt_of_le, le_of_suc-le-suc}
use native.Mathlib.Numerals.{add-one}
use native.Mathlib.Omega.{arith}
use lib.ListN.{length, get_or, replicate, length-append, replicate-append-replicate, get_or-append}
use lib.Seq.{get_or-append-add, get_or_at, ext_get_or}
use Rattle.rules.specs.Lists.{member, tabulate}
use Rattle.rules.specs.Records.{odd, most_sets}
use Rattle.rules.specs.Families.{Family, Families, constant}
use Rattle.rules.specs.Slices.{packed, family_bytes, node_bytes, work_bytes}
use Rattle.rules.proofs.Each.{Each, each_append, each_at}
use Rattle.rule_laws.proofs.Sets.{lowest_bit, other_bits, one_more_below, same_number}

-- ---- the entries f 0, f 1, .. of a table

module _ {ℓ} {A : Type ℓ} where
  pub tabulate_length : (f : ℕ → A) (n : ℕ) → length (tabulate f n) ≡ n
  unfolding tabulate
  tabulate_length f zero = refl
  tabulate_length f (suc n) = omega (arith, length-append (tabulate f n) (f n ∷ []), tabulate_length f n)

  pub tabulate_at : (f : ℕ → A) (n i : ℕ) (d : A) → i < n → get_or (tabulate f n) i d ≡ f i
  unfolding tabulate
  tabulate_at f zero i d h = absurd (omega arith)
  tabulate_at f (suc n) i d h = go (eq-or-lt_of_le (le_of_suc-le-suc h)) (tabulate_at f n i d)
    where
      go : (i ≡ n) ⊎ (i < n) → (i < n → get_or (tabulate f n) i d ≡ f i) → get_or (tabulate f n ++ (f n ∷ [])) i d ≡ f i
      go (inl e) before = rw e (get_or_at (tabulate f n) (f n) [] d n (tabulate_length f n))
      go (inr l) before = get_or-append (tabulate f n) (f n ∷ []) d i (omega (arith, tabulate_length f n)) ∙ before l

  pub tabulate_same : (f g : ℕ → A) (n : ℕ) → ((i : ℕ) → i < n → f i ≡ g i) → tabulate f n ≡ tabulate g n
  unfolding tabulate
  tabulate_same f g zero h = refl
  tabulate_same f g (suc n) h =
      ap₂ {C = List A} (λ l x. l ++ (x ∷ [])) (tabulate_same f g n (λ i l. h i (omega arith))) (h n (omega arith))

  -- a list by its entries
  tabulate_entries : (xs : List A) (d : A) → tabulate (λ i. get_or xs i d) (length xs) ≡ xs
  tabulate_entries xs d =
      ext_get_or d (tabulate (λ i. get_or xs i d) (length xs)) xs (tabulate_length (λ i. get_or xs i d) (length xs)) (λ i h.
      tabulate_at (λ i. get_or xs i d) (length xs) i d (omega (arith, tabulate_length (λ i. get_or xs i d) (length xs))))

  pub tabulate_constant : (a : A) (n : ℕ) → tabulate (λ i. a) n ≡ replicate n a
  unfolding tabulate
  tabulate_constant a zero = refl
  tabulate_constant a (suc n) = rw (tabulate_constant a n) (replicate-append-replicate n 1 a ∙ ap (λ k. replicate k a) (add-one n))

tabulate_map {ℓ κ} : {A : Type ℓ} {B : Type κ} (f : A → B) (g : ℕ → A) (n : ℕ) → map f (tabulate g n) ≡ tabulate (λ i. f (g i)) n
unfolding tabulate
tabulate_map f g zero = refl
tabulate_map f g (suc n) = map-append f (tabulate g n) (g n ∷ []) ∙ ap (λ zs. zs ++ (f (g n) ∷ [])) (tabulate_map f g n)

-- what is made of each entry
pub tabulate_made {ℓ κ μ} : {A : Type ℓ} {B : Type κ} {C : Type μ} (f : A → C) (g : ℕ → A) (h : B → C) (xs : List B) (d : B) {n : ℕ} → length xs ≡ n
    → ((i : ℕ) → f (g i) ≡ h (get_or xs i d)) → map f (tabulate g n) ≡ map h xs
tabulate_made f g h xs d e each =
    tabulate_map f g _
    ∙ tabulate_same _ _ _ (λ i l. each i)
    ∙ rw (← e) (sym (tabulate_map h (λ i. get_or xs i d) (length xs)) ∙ ap (map h) (tabulate_entries xs d))

tabulate_each {ℓ} : {A : Type ℓ} (P : A → Type 0) (f : ℕ → A) (n : ℕ) → ((i : ℕ) → P (f i)) → Each P (tabulate f n)
unfolding tabulate
tabulate_each P f zero h = tt
tabulate_each P f (suc n) h = each_append P (tabulate f n) (f n ∷ []) (tabulate_each P f n h) (h n, tt)

-- ---- a byte's worth: n bits, bit i for the set A + i

packed_bit : (F : Family) (A n i : ℕ) → i < n → odd (packed F A n / 2 ^ i) ≡ member (A + i) F
unfolding packed
packed_bit F A zero i h = absurd (omega arith)
packed_bit F A (suc n) zero h = rw (div-one, lowest_bit, add-zero)
packed_bit F A (suc n) (suc i) h = rw (other_bits, packed_bit F (A + 1) n i (omega arith), add-one, suc-add, add-suc)

packed_below : (F : Family) (A n : ℕ) → packed F A n < 2 ^ n
unfolding packed
packed_below F A zero = omega arith
packed_below F A (suc n) = one_more_below (member A F) (packed F (A + 1) n) n (packed_below F (A + 1) n)

-- ---- a family in 128 bytes

pub family_length : (F : Family) → length (family_bytes F) ≡ 128
unfolding family_bytes
family_length F = tabulate_length (λ j. packed F (8 * j) 8) 128

-- set A is bit A mod 8 of byte A / 8
pub family_bit : (F : Family) (A : ℕ) → A < most_sets → odd (get_or (family_bytes F) (A / 8) 0 / 2 ^ (A % 8)) ≡ member A F
unfolding family_bytes
family_bit F A h =
    rw (tabulate_at (λ j. packed F (8 * j) 8) 128 (A / 8) 0 (omega arith), packed_bit F (8 * (A / 8)) 8 (A % 8) (omega arith), div-add-mod)

-- only membership counts
pub family_same : (F G : Family) → ((A : ℕ) → A < most_sets → member A F ≡ member A G) → family_bytes F ≡ family_bytes G
unfolding family_bytes
family_same F G h = tabulate_same _ _ 128 (λ j l. packed_same (8 * j) 8 (λ i m. h (8 * j + i) (omega arith)))
  where
    packed_same : (A n : ℕ) → ((i : ℕ) → i < n → member (A + i) F ≡ member (A + i) G) → packed F A n ≡ packed G A n
    packed_same A n same =
        same_number n (packed F A n) (packed G A n) (packed_below F A n) (packed_below G A n)
        (λ i l. packed_bit F A n i l ∙ same i l ∙ sym (packed_bit G A n i l))

-- ---- 256 bytes a node

node_length : (F : Families) → length (node_bytes F) ≡ 256
unfolding node_bytes
node_length F = simp (length-append, family_length)

pub work_length : (Fs : List Families) → length (work_bytes Fs) ≡ 256 * length Fs
unfolding work_bytes
work_length [] = refl
work_length (F ∷ Fs) = omega (arith, length-append (node_bytes F) (work_bytes Fs), node_length F, work_length Fs)

-- the bytes of node i begin at byte 256 × i
work_at : (Fs : List Families) (i j : ℕ) → i < length Fs → j < 256
    → get_or (work_bytes Fs) (256 * i + j) 0 ≡ get_or (node_bytes (get_or Fs i constant)) j 0
unfolding work_bytes
work_at [] i j h l = absurd (omega arith)
work_at (F ∷ Fs) zero j h l = rw (zero-add j) (get_or-append (node_bytes F) (work_bytes Fs) 0 j (omega (arith, node_length F)))
work_at (F ∷ Fs) (suc i) j h l =
    rw (past F i j) (get_or-append-add (node_bytes F) (work_bytes Fs) (256 * i + j) 0 ∙ work_at Fs i j (omega arith) l)
  where
    past : (F : Families) (i j : ℕ) → 256 * suc i + j ≡ length (node_bytes F) + (256 * i + j)
    past F i j = omega (arith, node_length F)

-- 128 of them for the settled family, then 128 for the glitch family
settled_at : (F : Families) (j : ℕ) → j < 128 → get_or (node_bytes F) j 0 ≡ get_or (family_bytes F.settled) j 0
unfolding node_bytes
settled_at F j h = get_or-append (family_bytes F.settled) (family_bytes F.glitch) 0 j (omega (arith, family_length F.settled))

glitch_at : (F : Families) (j : ℕ) → get_or (node_bytes F) (128 + j) 0 ≡ get_or (family_bytes F.glitch) j 0
unfolding node_bytes
glitch_at F j = rw (← family_length F.settled) (get_or-append-add (family_bytes F.settled) (family_bytes F.glitch) j 0)

-- set A of node i is bit A mod 8 of byte 256 × i + A / 8 for its settled family, and 128 bytes on for its glitch family
pub settled_bit : (Fs : List Families) (i A : ℕ) → i < length Fs → A < most_sets
    → odd (get_or (work_bytes Fs) (256 * i + A / 8) 0 / 2 ^ (A % 8)) ≡ member A (get_or Fs i constant).settled
settled_bit Fs i A h l = rw (work_at Fs i (A / 8) h (omega arith), settled_at (get_or Fs i constant) (A / 8) (omega arith)) (family_bit _ A l)

pub glitch_bit : (Fs : List Families) (i A : ℕ) → i < length Fs → A < most_sets
    → odd (get_or (work_bytes Fs) (256 * i + 128 + A / 8) 0 / 2 ^ (A % 8)) ≡ member A (get_or Fs i constant).glitch
glitch_bit Fs i A h l =
    rw (add_assoc (256 * i) 128 (A / 8), work_at Fs i (128 + A / 8) h (omega arith), glitch_at (get_or Fs i constant) (A / 8)) (family_bit _ A l)

-- ---- each byte is a byte

abbrev Byte : ℕ → Type 0
Byte b = b < 256

family_byte : (F : Family) → Each Byte (family_bytes F)
unfolding family_bytes
family_byte F = tabulate_each Byte (λ j. packed F (8 * j) 8) 128 (λ j. packed_below F (8 * j) 8)

pub family_below : (F : Family) (j : ℕ) → get_or (family_bytes F) j 0 < 256
family_below F = each_at Byte (family_bytes F) 0 (family_byte F) (omega arith)
