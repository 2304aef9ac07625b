-- A part of a slice of families: its members are its bits, each listed once and at most 1,024 in all,
-- and `with_family` writes one part and sees membership alone. By the entries of the slice, outside the part and in it;
-- what a part holds, by induction on the number of sets looked at. Assumes nothing.
use Prim.Native.Nat.{ℕ, zero, suc, ◌+◌, ◌*◌, ◌-◌, ◌/◌, ◌%◌, ◌^◌, ◌≤◌, ◌<◌}
use mathlib.Core.Path.{◌≡◌, refl, sym, ap, ◌∙◌}
use mathlib.Core.Logic.{◌⊎◌, inl, inr, ⊎_elim}
use mathlib.Core.Bool.{Bool, true, false, cond}
use mathlib.Core.List.{List, [], ◌∷◌, ◌++◌, append_assoc}
use native.Mathlib.Nat.{eq-or-lt_of_le, le_of_suc-le-suc, add-sub_of_le}
use native.Mathlib.Omega.{arith}
use borrow.Rule.Slice.PartMut.{put_mid}
use lib.Dec.{T}
use lib.ListN.{length, get_or, take, drop, length-append, length-take, length-drop, get_or-append}
use lib.Seq.{drop-drop, get_or-append-add, get_or-take, get_or-drop, length-take-le, ext_get_or}
use Rattle.rules.specs.Lists.{member, insert, union}
use Rattle.rules.specs.Records.{odd, most_sets}
use Rattle.rules.specs.Families.{Family}
use Rattle.rules.specs.Slices.{family_bytes}
use Rattle.rule_laws.proofs.Tests.{same_test, lt_or_le}
use Rattle.rule_laws.proofs.Lists.{member_head, member_tail, member_cases, member_union}
use Rattle.rule_laws.proofs.Members.{All, all_none, all_front}
use Rattle.rule_laws.proofs.Once.{once}
use Rattle.rule_laws.proofs.Packing.{family_length, family_bit, family_below, family_same}
use Rattle.rule_laws.proofs.Sets.{same_number}
use Rattle.families.specs.Parts.{HasPart, holds_at, sets_under, family_at, with_family}

-- ---- the members of a part

module _ (bytes : List ℕ) (part : ℕ) where
  -- those of the sets below k are below k
  pub sets_below : (k : ℕ) → All (λ A. A < k) (sets_under bytes part k)
  unfolding sets_under
  sets_below zero = all_none (λ A. A < zero)
  sets_below (suc k) = go (holds_at bytes part k) (λ A t. let h : A < k = sets_below k A t in omega arith)
    where
      go : (b : Bool) → All (λ A. A < suc k) (sets_under bytes part k)
          → All (λ A. A < suc k) (cond b (k ∷ sets_under bytes part k) (sets_under bytes part k))
      go true rest = all_front (λ A. A < suc k) k (sets_under bytes part k) (omega arith) rest
      go false rest = rest

  -- so k is none of them
  not_yet : (k : ℕ) → member k (sets_under bytes part k) ≡ false
  not_yet k = same_test (member k (sets_under bytes part k)) false (λ t. let l : k < k = sets_below k k t in omega arith) absurd

  -- and they are those whose bits are set
  member_below : (k A : ℕ) → A < k → member A (sets_under bytes part k) ≡ holds_at bytes part A
  unfolding sets_under
  member_below zero A h = absurd (omega arith)
  member_below (suc k) A h = go (holds_at bytes part k) refl (eq-or-lt_of_le (le_of_suc-le-suc h)) (member_below k A)
    where
      F : Family
      F = sets_under bytes part k

      go : (b : Bool) → holds_at bytes part k ≡ b → (A ≡ k) ⊎ (A < k) → (A < k → member A F ≡ holds_at bytes part A)
          → member A (cond b (k ∷ F) F) ≡ holds_at bytes part A
      go true e (inl p) rest = rw (p, e) (same_test (member k (k ∷ F)) true (λ t. tt) (λ t. member_head k F))
      go true e (inr l) rest =
          same_test (member A (k ∷ F)) (member A F) (λ t. ⊎_elim (λ p. absurd (omega arith)) (λ m. m) (member_cases A k F t)) (member_tail A k F)
          ∙ rest l
      go false e (inl p) rest = rw (p, e, not_yet k)
      go false e (inr l) rest = rest l

  -- each is listed once
  once_below : (k : ℕ) → T (once (sets_under bytes part k))
  unfolding once sets_under
  once_below zero = tt
  once_below (suc k) = go (holds_at bytes part k) (once_below k)
    where
      go : (b : Bool) → T (once (sets_under bytes part k)) → T (once (cond b (k ∷ sets_under bytes part k) (sets_under bytes part k)))
      go true rest = rw (not_yet k) rest
      go false rest = rest

  -- and there are at most k
  pub length_below : (k : ℕ) → length (sets_under bytes part k) ≤ k
  unfolding sets_under
  length_below zero = omega arith
  length_below (suc k) = go (holds_at bytes part k) (length_below k)
    where
      go : (b : Bool) → length (sets_under bytes part k) ≤ k → length (cond b (k ∷ sets_under bytes part k) (sets_under bytes part k)) ≤ suc k
      go true rest = omega arith
      go false rest = omega arith

  pub member_at : (A : ℕ) → A < most_sets → member A (family_at bytes part) ≡ holds_at bytes part A
  unfolding family_at
  member_at A h = member_below most_sets A h

  pub below_at : (A : ℕ) → T (member A (family_at bytes part)) → A < most_sets
  unfolding family_at
  below_at A t = sets_below most_sets A t

  pub once_at : T (once (family_at bytes part))
  unfolding family_at
  once_at = once_below most_sets

  pub length_at : length (family_at bytes part) ≤ most_sets
  unfolding family_at
  length_at = length_below most_sets

-- parts with the same bits hold the same family
sets_same : (bytes other : List ℕ) (part k : ℕ) → ((A : ℕ) → A < k → holds_at bytes part A ≡ holds_at other part A)
    → sets_under bytes part k ≡ sets_under other part k
unfolding sets_under
sets_same bytes other part zero h = refl
sets_same bytes other part (suc k) h = rw (h k (omega arith), sets_same bytes other part k (λ A l. h A (omega arith)))

-- ---- the bytes of a part

-- there are 128
pub bytes_length : (bytes : List ℕ) (part k : ℕ) → HasPart bytes part → k ≡ 128 → length (take k (drop (128 * part) bytes)) ≡ 128
bytes_length bytes part k has e =
    rw e (length-take-le 128 (drop (128 * part) bytes) (omega (arith, length-drop (128 * part) bytes)))

pub bytes_at : (bytes : List ℕ) (part k j : ℕ) → k ≡ 128 → j < 128
    → get_or (take k (drop (128 * part) bytes)) j 0 ≡ get_or bytes (128 * part + j) 0
bytes_at bytes part k j e h = get_or-take k (drop (128 * part) bytes) j 0 (omega arith) ∙ get_or-drop (128 * part) bytes j 0

-- ---- the entries once a family is written to a part

-- past the first n entries
past : (xs ys : List ℕ) (n j : ℕ) → length xs ≡ n → get_or (xs ++ ys) (n + j) 0 ≡ get_or ys j 0
past xs ys n j e = rw (← e) (get_or-append-add xs ys j 0)

-- outside the part
abbrev Outside : (part j : ℕ) → Type 0
Outside part j = (j < 128 * part) ⊎ (128 * part + 128 ≤ j)

module _ (bytes : List ℕ) (part : ℕ) (F : Family) (has : HasPart bytes part) where
  pub with_length : length (with_family bytes part F) ≡ length bytes
  unfolding with_family
  with_length = simp (length-append, length-take, length-drop, family_length) (omega arith)

  head_length : length (take (128 * part) bytes) ≡ 128 * part
  head_length = length-take-le (128 * part) bytes (omega arith)

  part_length : length (take (128 * part) bytes ++ family_bytes F) ≡ 128 * part + 128
  part_length = omega (arith, length-append (take (128 * part) bytes) (family_bytes F), head_length, family_length F)

  with_in : (j : ℕ) → j < 128 → get_or (with_family bytes part F) (128 * part + j) 0 ≡ get_or (family_bytes F) j 0
  unfolding with_family
  with_in j h =
      get_or-append (take (128 * part) bytes ++ family_bytes F) (drop (128 * part + 128) bytes) 0 (128 * part + j) (omega (arith, part_length))
      ∙ past (take (128 * part) bytes) (family_bytes F) (128 * part) j head_length

  with_out : (j : ℕ) → Outside part j → get_or (with_family bytes part F) j 0 ≡ get_or bytes j 0
  unfolding with_family
  with_out j (inl l) =
      get_or-append (take (128 * part) bytes ++ family_bytes F) (drop (128 * part + 128) bytes) 0 j (omega (arith, part_length))
      ∙ get_or-append (take (128 * part) bytes) (family_bytes F) 0 j (omega (arith, head_length))
      ∙ get_or-take (128 * part) bytes j 0 l
  with_out j (inr l) =
      rw (← (add-sub_of_le l))
      (past (take (128 * part) bytes ++ family_bytes F) (drop (128 * part + 128) bytes) (128 * part + 128) (j - (128 * part + 128)) part_length
      ∙ get_or-drop (128 * part + 128) bytes (j - (128 * part + 128)) 0)

  pub with_here : (A : ℕ) → A < most_sets → member A (family_at (with_family bytes part F) part) ≡ member A F
  unfolding holds_at
  with_here A h = rw (member_at (with_family bytes part F) part A h, with_in (A / 8) (omega arith)) (family_bit F A h)

-- ---- laws of writing a part

-- only membership counts
pub with_same : (bytes : List ℕ) (part : ℕ) (F G : Family) → ((A : ℕ) → A < most_sets → member A F ≡ member A G)
    → with_family bytes part F ≡ with_family bytes part G
unfolding with_family
with_same bytes part F G h = rw (family_same F G h)

-- another part is as it was
pub with_there : (bytes : List ℕ) (part other : ℕ) (F : Family) → HasPart bytes part → (other ≡ part → ⊥)
    → family_at (with_family bytes part F) other ≡ family_at bytes other
unfolding holds_at family_at
with_there bytes part other F has ne =
    sets_same (with_family bytes part F) bytes other most_sets
    (λ A h.
    ap (λ (b : ℕ). odd (b / 2 ^ (A % 8)))
    (with_out bytes part F has (128 * other + A / 8) (apart (A / 8) (lt_or_le other part) (omega arith))))
  where
    apart : (j : ℕ) → (other < part) ⊎ (part ≤ other) → j < 128 → Outside part (128 * other + j)
    apart j (inl l) h = inl (omega arith)
    apart j (inr l) h = inr (omega (arith, ne))

-- A list of bytes is that with the family in the part if it has the same length, the same bytes outside the part,
-- and in the part bytes, whose bits are the family's.
pub written : (before after : List ℕ) (part : ℕ) (F : Family) → HasPart before part → length after ≡ length before
    → ((j : ℕ) → Outside part j → get_or after j 0 ≡ get_or before j 0)
    → ((j : ℕ) → j < 128 → get_or after (128 * part + j) 0 < 256)
    → ((A : ℕ) → A < most_sets → holds_at after part A ≡ member A F)
    → after ≡ with_family before part F
unfolding holds_at
written before after part F has len out byte bit =
    ext_get_or 0 after (with_family before part F) (len ∙ sym (with_length before part F has))
    (λ i l. at i (lt_or_le i (128 * part)) (lt_or_le i (128 * part + 128)))
  where
    outside : (i : ℕ) → Outside part i → get_or after i 0 ≡ get_or (with_family before part F) i 0
    outside i o = out i o ∙ sym (with_out before part F has i o)

    -- bit w of byte j is for set 8 × j + w
    same : (j w : ℕ) → j < 128 → w < 8 → odd (get_or after (128 * part + j) 0 / 2 ^ w) ≡ odd (get_or (family_bytes F) j 0 / 2 ^ w)
    same j w h l =
        let byte_of : (8 * j + w) / 8 ≡ j = omega arith in
        let bit_of : (8 * j + w) % 8 ≡ w = omega arith in
        rw (byte_of, bit_of) at (bit (8 * j + w) (omega arith) ∙ sym (family_bit F (8 * j + w) (omega arith)))

    inside : (j : ℕ) → j < 128 → get_or after (128 * part + j) 0 ≡ get_or (with_family before part F) (128 * part + j) 0
    inside j h =
        same_number 8 (get_or after (128 * part + j) 0) (get_or (family_bytes F) j 0) (byte j h) (family_below F j) (λ w l. same j w h l)
        ∙ sym (with_in before part F has j h)

    at : (i : ℕ) → (i < 128 * part) ⊎ (128 * part ≤ i) → (i < 128 * part + 128) ⊎ (128 * part + 128 ≤ i)
        → get_or after i 0 ≡ get_or (with_family before part F) i 0
    at i (inl p) q = outside i (inl p)
    at i (inr p) (inl q) = rw (← (add-sub_of_le p)) (inside (i - 128 * part) (omega arith))
    at i (inr p) (inr q) = outside i (inr q)

-- a part to which what it holds is written is as it was
pub with_own : (bytes : List ℕ) (part : ℕ) → HasPart bytes part → ((i : ℕ) → get_or bytes i 0 < 256) → bytes ≡ with_family bytes part (family_at bytes part)
with_own bytes part has low =
    written bytes bytes part (family_at bytes part) has refl (λ j o. refl) (λ j h. low (128 * part + j)) (λ A h. sym (member_at bytes part A h))

-- bytes in the place of a part's write a family if they are the family's,
pub put_family : (bytes ys : List ℕ) (part k : ℕ) (F : Family) → k ≡ 128 → ys ≡ family_bytes F → put_mid (128 * part) k bytes ys ≡ with_family bytes part F
unfolding with_family
put_family bytes ys part k F e y =
    rw (e, y, drop-drop 128 (128 * part) bytes) (sym (append_assoc (take (128 * part) bytes) (family_bytes F) (drop (128 * part + 128) bytes)))

-- and those of a part are its family's
pub own_bytes : (bytes : List ℕ) (part k : ℕ) → HasPart bytes part → k ≡ 128 → ((i : ℕ) → get_or bytes i 0 < 256)
    → take k (drop (128 * part) bytes) ≡ family_bytes (family_at bytes part)
own_bytes bytes part k has e low =
    ext_get_or 0 _ _ (bytes_length bytes part k has e ∙ sym (family_length (family_at bytes part)))
    (λ j l.
    let h : j < 128 = omega (arith, bytes_length bytes part k has e) in
    bytes_at bytes part k j e h
    ∙ ap (λ (xs : List ℕ). get_or xs (128 * part + j) 0) (with_own bytes part has low)
    ∙ with_in bytes part (family_at bytes part) has j h)

-- a second write to the part
pub with_twice : (bytes : List ℕ) (part : ℕ) (F G : Family) → HasPart bytes part
    → with_family (with_family bytes part F) part G ≡ with_family bytes part G
unfolding holds_at
with_twice bytes part F G has =
    written bytes (with_family first part G) part G has (with_length first part G still ∙ with_length bytes part F has)
    (λ j o. with_out first part G still j o ∙ with_out bytes part F has j o)
    (λ j h. rw (with_in first part G still j h) (family_below G j))
    (λ A h. rw (with_in first part G still (A / 8) (omega arith)) (family_bit G A h))
  where
    first : List ℕ
    first = with_family bytes part F

    still : HasPart first part
    still = omega (arith, with_length bytes part F has)

-- more sets in a part that was written: those of any family, one set, and those of another part
pub with_more : (bytes : List ℕ) (part : ℕ) (F G : Family) → HasPart bytes part
    → with_family (with_family bytes part F) part (union G (family_at (with_family bytes part F) part)) ≡ with_family bytes part (union G F)
with_more bytes part F G has =
    with_twice bytes part F _ has
    ∙ with_same bytes part _ _ (λ A h. rw (member_union A G F, member_union, with_here bytes part F has A h))

module _ (bytes after : List ℕ) (part : ℕ) (F : Family) (has : HasPart bytes part) (e : after ≡ with_family bytes part F) where
  pub with_one : (A : ℕ) → with_family after part (insert A (family_at after part)) ≡ with_family bytes part (insert A F)
  unfolding union
  with_one A = rw e (with_more bytes part F (A ∷ []) has)

  pub with_other : (other : ℕ) → (other ≡ part → ⊥)
      → with_family after part (union (family_at after other) (family_at after part)) ≡ with_family bytes part (union (family_at bytes other) F)
  with_other other ne = rw (e, with_there bytes part other F has ne) (with_more bytes part F (family_at bytes other) has)
