-- A list without an entry: what stands before that one and behind it. And an array whose entries become those of
-- another, one after the other, as a loop leaves it: of any entries, so that nodes, marks and operands cite one law.
-- Assumes nothing.
use Prim.Native.Nat.{ℕ, zero, suc, ◌+◌, ◌-◌, ◌≤◌, ◌<◌, min}
use mathlib.Core.Path.{◌≡◌, refl, ◌∙◌}
use mathlib.Core.Logic.{⊎_elim}
use mathlib.Core.List.{List, [], ◌∷◌}
use native.Mathlib.Omega.{arith}
use lib.ListN.{length, get_or, take, drop, set, length-append, length-take, length-drop, length-set}
use lib.Seq.{ext_get_or, get_or-set_same, get_or-set_other}
use Rattle.rules.specs.Lists.{without}
use Rattle.rule_laws.proofs.Tests.{lt_or_le}
use Rattle.rule_laws.proofs.Turns.{one_more}

-- ---- a list without an entry

module _ {A : Type 0} (d : A) where
  pub without_before : (i : ℕ) (xs : List A) (k : ℕ) → k < i → get_or (without i xs) k d ≡ get_or xs k d
  unfolding without
  without_before zero xs k h = absurd (omega arith)
  without_before (suc i) [] k h = refl
  without_before (suc i) (x ∷ xs) zero h = refl
  without_before (suc i) (x ∷ xs) (suc k) h = without_before i xs k (omega arith)

  pub without_behind : (i : ℕ) (xs : List A) (k : ℕ) → i ≤ k → get_or (without i xs) k d ≡ get_or xs (suc k) d
  unfolding without
  without_behind zero [] k h = refl
  without_behind zero (x ∷ xs) k h = refl
  without_behind (suc i) [] k h = refl
  without_behind (suc i) (x ∷ xs) zero h = absurd (omega arith)
  without_behind (suc i) (x ∷ xs) (suc k) h = without_behind i xs k (omega arith)

pub without_count : {A : Type 0} (i : ℕ) (xs : List A) → length (without i xs) ≡ min i (length xs) + (length xs - suc i)
unfolding without
without_count i xs = omega (arith, length-append (take i xs) (drop (suc i) xs), length-take i xs, length-drop (suc i) xs)

-- ---- an array that becomes another

module _ {A : Type 0} (rest : A) (old new : List A) where
  -- the entries up to i are the new ones, and the others still the old
  pub record Becoming (now : List A) (i : ℕ) : Type 0 where
    pub many : length now ≡ length old
    pub done : (k : ℕ) → k < i → get_or now k rest ≡ get_or new k rest
    pub left : (k : ℕ) → i ≤ k → get_or now k rest ≡ get_or old k rest

  -- at first, where those before i stay
  pub none_done : (i : ℕ) → ((k : ℕ) → k < i → get_or old k rest ≡ get_or new k rest) → Becoming old i
  none_done i same = record { many = refl; done = same; left = λ k h. refl }

  -- one entry more
  pub next_done : (now : List A) (i : ℕ) (e : A) → i < length old → e ≡ get_or new i rest → Becoming now i → Becoming (set now i e) (i + 1)
  next_done now i e h is b = record {
    many = length-set now i e ∙ b.many;
    done =
        one_more (λ k. get_or (set now i e) k rest ≡ get_or new k rest) i (λ k l. get_or-set_other now i k e rest (λ s. omega arith) ∙ b.done k l)
        (get_or-set_same now i e rest (omega (arith, b.many)) ∙ is);
    left = λ k l. get_or-set_other now i k e rest (λ s. omega arith) ∙ b.left k (omega arith);
  }

  -- at last, where those from i on stay
  pub all_done : (now : List A) (i : ℕ) → length old ≡ length new → ((k : ℕ) → i ≤ k → get_or old k rest ≡ get_or new k rest) → Becoming now i → now ≡ new
  all_done now i same stay b = ext_get_or rest now new (b.many ∙ same) (λ k h. ⊎_elim (b.done k) (λ l. b.left k l ∙ stay k l) (lt_or_le k i))
