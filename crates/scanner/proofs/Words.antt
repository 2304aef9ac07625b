-- The words of a line from a place on, as a loop takes them: one that two scans find, and those behind it.
-- Assumes nothing.
use Prim.Native.Nat.{ℕ, suc, ◌+◌, ◌-◌, ◌≤◌, ◌<◌}
use mathlib.Core.Path.{◌≡◌, refl, sym, ap, ◌∙◌}
use mathlib.Core.Bool.{Bool, true, false, not, cond, false≢true, or-true}
use mathlib.Core.List.{List, [], ◌∷◌, ◌++◌, append-nil, append_assoc}
use native.Mathlib.Omega.{arith}
use native.Mathlib.Nat.{add-zero}
use borrow.Author.Tests.{eqb-true, ne_eqb}
use lib.Dec.{eqb}
use lib.ListN.{length, get_or, take, drop, length-take, length-drop, drop_of_length-le}
use lib.Seq.{drop-drop, get_or-drop}
use Rattle.std.specs.List.{position_or_len}
use Rattle.scanner.specs.Scans.{part, NextWord, IsWord}
use Rattle.scanner.proofs.Scans.{one_add}
use Rattle.scanner.specs.Words.{closed, is_blank, starts_comment, ends_word, words_behind, words}

-- ---- one word

-- a word that has begun goes on up to the first blank or comment
abbrev GoesOn : (begun line : List ℕ) → Type 0
GoesOn begun line =
    let end = position_or_len ends_word line in
    words_behind begun line ≡ closed (begun ++ take end line) ++ words (drop end line)

goes_on_at : (begun : List ℕ) (letter : ℕ) (line : List ℕ) → GoesOn (begun ++ (letter ∷ [])) line → (c b : Bool) → starts_comment letter ≡ c
    → is_blank letter ≡ b → GoesOn begun (letter ∷ line)
unfolding words_behind words closed
goes_on_at begun letter line more true b e f = simp (e, or-true, append-nil)
goes_on_at begun letter line more false true e f = simp (e, f, append-nil)
goes_on_at begun letter line more false false e f = rw (e, f, one_add) (more ∙ rw append_assoc)

goes_on : (line begun : List ℕ) → GoesOn begun line
unfolding words_behind words closed
goes_on [] begun = simp append-nil
goes_on (letter ∷ line) begun = goes_on_at begun letter line (goes_on line (begun ++ (letter ∷ []))) _ _ refl refl

-- the first word of a line starts at the first letter that is no blank, unless that starts a comment
abbrev pub starts_word : ℕ → Bool
starts_word letter = not (is_blank letter)

abbrev Starts : (line : List ℕ) → Type 0
Starts line =
    let found = drop (position_or_len starts_word line) line in
    let end = position_or_len ends_word found in
    words line ≡ closed (take end found) ++ cond (eqb end 0) [] (words (drop end found))

no_comment : (letter : ℕ) (c : Bool) → starts_comment letter ≡ c → is_blank letter ≡ true → c ≡ false
no_comment letter true e f = absurd (false≢true (rw (eqb-true letter 35 e) at f))
no_comment letter false e f = refl

starts_at : (letter : ℕ) (line : List ℕ) → Starts line → (c b : Bool) → starts_comment letter ≡ c → is_blank letter ≡ b → Starts (letter ∷ line)
unfolding words_behind words closed
starts_at letter line more c true e f = rw (e ∙ no_comment letter c e f, f, one_add) more
starts_at letter line more true false e f = rw (e, f, e, f)
starts_at letter line more false false e f = rw (e, f, e, f, one_add, ne_eqb (suc (position_or_len ends_word line)) 0 (λ z. omega arith)) (goes_on line (letter ∷ []))

starts : (line : List ℕ) → Starts line
unfolding words_behind words closed
starts [] = refl
starts (letter ∷ line) = starts_at letter line (starts line) _ _ refl refl

closed_some : (word : List ℕ) → 0 < length word → closed word ≡ word ∷ []
unfolding closed
closed_some [] h = absurd (omega arith)
closed_some (letter ∷ letters) h = refl

-- the next word, of a line that is scanned from a place on
module _ (line : List ℕ) (at from long : ℕ) (blank : from ≡ at + position_or_len starts_word (drop at line)) (end : long ≡ position_or_len ends_word (drop from line)) where
  found_word : words (drop at line) ≡ closed (take long (drop from line)) ++ cond (eqb long 0) [] (words (drop (from + long) line))
  found_word =
      let there : drop (position_or_len starts_word (drop at line)) (drop at line) ≡ drop from line = rw blank (drop-drop _ at line) in
      (rw there at (starts (drop at line))) ∙ rw (← end, drop-drop)

  -- a comment, or the end
  pub none_found : long ≡ 0 → words (drop at line) ≡ []
  unfolding closed
  none_found e = rw e at found_word

  pub one_found : (long ≡ 0 → ⊥) → from + long ≤ length line → NextWord line at from (from + long)
  one_found e h =
      let long_is : from + long - from ≡ long = omega arith in
      record {
        forward = omega arith;
        ordered = omega arith;
        within = h;
        next = rw long_is (rw (ne_eqb long 0 e, closed_some (take long (drop from line)) (omega (arith, length-take {A = ℕ}, length-drop {A = ℕ}))) at found_word);
      }

pub no_word : (line : List ℕ) (at : ℕ) → position_or_len starts_word (drop at line) ≡ length line - at → words (drop at line) ≡ []
unfolding words words_behind closed
no_word line at e =
    rw (e, drop_of_length-le (drop at line) {i = length line - at} (omega (arith, length-drop at line))) at (starts (drop at line))

-- the words from a place on are those behind the first k
module _ (line : List ℕ) (at k : ℕ) (passed : drop k (words line) ≡ words (drop at line)) where
  pub few_words : words (drop at line) ≡ [] → length (words line) ≤ k
  few_words none = omega (arith, length-drop k (words line), ap length (passed ∙ none))

  module _ (from to : ℕ) (w : NextWord line at from to) where
    next_passed : drop k (words line) ≡ part from to line ∷ words (drop to line)
    next_passed = passed ∙ w.next

    pub word_here : IsWord line k from to
    word_here =
        let first : get_or (drop k (words line)) 0 [] ≡ part from to line = ap (λ (l : List (List ℕ)). get_or l 0 []) next_passed in
        record {
          ordered = w.ordered;
          within = w.within;
          counted = omega (arith, length-drop k (words line), ap length next_passed);
          word = sym first ∙ get_or-drop k (words line) 0 [] ∙ rw add-zero;
        }

    pub word_passed : drop (k + 1) (words line) ≡ words (drop to line)
    word_passed = sym (drop-drop 1 k (words line)) ∙ ap (drop 1) next_passed
