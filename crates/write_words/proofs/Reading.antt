-- What the definitions of blocks in words read where words and lines are written so: a number's digits are that number,
-- a line ends at its line feed, and its words are the fields that were parted by blanks. Assumes nothing.
use Prim.Native.Nat.{ℕ, ◌+◌, ◌*◌, ◌-◌, ◌^◌, ◌≤◌, ◌<◌}
use mathlib.Core.Path.{◌≡◌, refl, sym, ap, ◌∙◌}
use mathlib.Core.Logic.{◌⊎◌, inl, inr}
use mathlib.Core.Bool.{Bool, true, false, not, ◌&&◌, ◌||◌}
use mathlib.Core.List.{List, [], ◌∷◌, ◌++◌, append-nil, append_assoc}
use native.Mathlib.Omega.{arith}
use lib.Dec.{T, ltb, eqb, ltb→lt}
use lib.ListN.{length, length-append}
use borrow.Author.Tests.{lt-ltb, le-leb, ne_eqb}
use Rattle.rules.specs.Listing.{decimal, line}
use Rattle.rules.proofs.Each.{Each, each_append}
use Rattle.rule_laws.proofs.Tests.{lt_or_le, and_left, and_right}
use Rattle.rule_laws.proofs.Decimal.{decimal_less, decimal_more, stands_for, decimal_value, Digit, decimal_digits}
use Rattle.std.proofs.Common.{Some}
use Rattle.scanner.specs.Numbers.{are_digits, value_behind, number_behind, number_in, cut}
use Rattle.scanner.specs.Words.{closed, lines_behind, is_blank, starts_comment, words_behind, words}

-- ---- numbers

all_digits : (s : List ℕ) → Each Digit s → are_digits s ≡ true
unfolding are_digits
all_digits [] e = refl
all_digits (d ∷ s) e = rw (le-leb 48 d e.0.0, le-leb d 57 e.0.1) (all_digits s e.1)

value_stands : (s : List ℕ) (before : ℕ) → value_behind before s ≡ stands_for s before
unfolding value_behind
value_stands [] before = refl
value_stands (d ∷ s) before = value_stands s (before * 10 + (d - 48))

decimal_some : (x : ℕ) → 0 < length (decimal x)
decimal_some x = go (lt_or_le x 10)
  where
    go : (x < 10) ⊎ (10 ≤ x) → 0 < length (decimal x)
    go (inl l) = rw (decimal_less x l) (omega arith)
    go (inr l) = rw (decimal_more x l, length-append) (omega arith)

number_decimal : (x : ℕ) → x < 2 ^ 64 → number_in (decimal x) ≡ Some x
unfolding number_in number_behind
number_decimal x h =
    rw (ne_eqb (length (decimal x)) 0 (λ e. omega (arith, decimal_some x)), all_digits _ (decimal_digits x), value_stands (decimal x) 0, decimal_value x, lt-ltb x (2 ^ 64) h)

-- as a number below a limit
pub cut_decimal : (limit x : ℕ) → x < limit → limit ≤ 2 ^ 64 → cut limit (number_in (decimal x)) ≡ x
unfolding cut
cut_decimal limit x h l = rw (number_decimal x (omega arith)) (omega arith)

-- ---- lines and words

-- a letter that ends no word and no line
abbrev pub Plain : ℕ → Type 0
Plain letter = (eqb letter 10 ≡ false) × (starts_comment letter ≡ false) × (is_blank letter ≡ false)

-- a word of such letters
abbrev pub Field : List ℕ → Type 0
Field letters = (0 < length letters) × Each Plain letters

-- a word that antt knows, by a computed test, and the digits of a number
unfoldable pub plainly : List ℕ → Bool
plainly [] = true
plainly (x ∷ s) = not (eqb x 10 || (starts_comment x || is_blank x)) && plainly s

none_of : (a b c : Bool) → T (not (a || (b || c))) → (a ≡ false) × (b ≡ false) × (c ≡ false)
none_of true b c t = absurd t
none_of false true c t = absurd t
none_of false false true t = absurd t
none_of false false false t = (refl, refl, refl)

pub known : (s : List ℕ) → T (ltb 0 (length s) && plainly s) → Field s
unfolding plainly
known s t = (ltb→lt 0 (length s) (and_left (ltb 0 (length s)) (plainly s) t), letters s (and_right (ltb 0 (length s)) (plainly s) t))
  where
    letters : (s : List ℕ) → T (plainly s) → Each Plain s
    letters [] t = tt
    letters (x ∷ s) t =
        let ends = eqb x 10 || (starts_comment x || is_blank x) in
        (none_of (eqb x 10) (starts_comment x) (is_blank x) (and_left (not ends) (plainly s) t), letters s (and_right (not ends) (plainly s) t))

pub decimal_field : (x : ℕ) → Field (decimal x)
decimal_field x = (decimal_some x, digits (decimal x) (decimal_digits x))
  where
    digits : (s : List ℕ) → Each Digit s → Each Plain s
    digits [] h = tt
    digits (d ∷ s) h =
        let other : (k : ℕ) → (d ≡ k → ⊥) → eqb d k ≡ false = λ k. ne_eqb d k in
        ((other 10 (λ e. omega arith), other 35 (λ e. omega arith), rw (other 32 (λ e. omega arith), other 9 (λ e. omega arith), other 13 (λ e. omega arith))), digits s h.1)

-- a line without its line feed
unfoldable pub bare : List (List ℕ) → List ℕ
bare [] = []
bare (field ∷ []) = field
bare (field ∷ other ∷ fields) = field ++ (32 ∷ bare (other ∷ fields))

pub line_bare : (fields : List (List ℕ)) (rest : List ℕ) → line fields ++ rest ≡ bare fields ++ (10 ∷ rest)
unfolding line bare
line_bare [] rest = refl
line_bare (field ∷ []) rest = append_assoc field _ rest
line_bare (field ∷ other ∷ fields) rest =
    append_assoc field _ rest ∙ rw (line_bare (other ∷ fields) rest) (sym (append_assoc field _ _))

-- it has no line feed
lineless : (s : List ℕ) → Each Plain s → Each (λ letter. eqb letter 10 ≡ false) s
lineless [] h = tt
lineless (x ∷ s) h = (h.0.0, lineless s h.1)

pub bare_lineless : (fields : List (List ℕ)) → Each Field fields → Each (λ letter. eqb letter 10 ≡ false) (bare fields)
unfolding bare
bare_lineless [] h = tt
bare_lineless (field ∷ []) h = lineless field h.0.1
bare_lineless (field ∷ other ∷ fields) h =
    each_append _ field _ (lineless field h.0.1) (refl, bare_lineless (other ∷ fields) h.1)

-- a line of a text
pub line_read : (begun s rest : List ℕ) → Each (λ letter. eqb letter 10 ≡ false) s → lines_behind begun (s ++ (10 ∷ rest)) ≡ (begun ++ s) ∷ lines_behind [] rest
unfolding lines_behind
line_read begun [] rest h = rw append-nil
line_read begun (x ∷ s) rest h = rw (h.0, lines_behind) (line_read (begun ++ (x ∷ [])) s rest h.1 ∙ rw append_assoc)

-- the words of a line
word_read : (begun s rest : List ℕ) → Each Plain s → words_behind begun (s ++ rest) ≡ words_behind (begun ++ s) rest
unfolding words_behind
word_read begun [] rest h = rw append-nil
word_read begun (x ∷ s) rest h = rw (h.0.1, h.0.2, words_behind) (word_read (begun ++ (x ∷ [])) s rest h.1 ∙ rw append_assoc)

closed_some : (s : List ℕ) → 0 < length s → closed s ≡ s ∷ []
unfolding closed
closed_some [] h = absurd (omega arith)
closed_some (x ∷ s) h = refl

pub words_read : (fields : List (List ℕ)) → Each Field fields → words (bare fields) ≡ fields
unfolding words bare words_behind closed
words_read [] h = refl
words_read (field ∷ []) h = ap words (sym (append-nil field)) ∙ word_read [] field [] h.0.1 ∙ closed_some field h.0.0
words_read (field ∷ other ∷ fields) h =
    word_read [] field _ h.0.1 ∙ rw (closed_some field h.0.0) (ap (◌∷◌ field) (words_read (other ∷ fields) h.1))
