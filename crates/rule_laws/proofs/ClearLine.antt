-- What the listing's last line means: it reads `glitch clear` exactly when the checker answers clear for glitching
-- signals. Else the listing ends in a number, so its last byte before the line feed is a digit, which that
-- of `clear` is not. Assumes nothing.
use Prim.Native.Nat.{ℕ, ◌+◌, ◌-◌, ◌/◌, ◌%◌, ◌≤◌, ◌<◌}
use mathlib.Core.Path.{◌≡◌, refl, sym, ap, ◌∙◌}
use mathlib.Core.Logic.{◌⊎◌, inl, inr, ◌↔◌}
use mathlib.Core.List.{List, [], ◌∷◌, ◌++◌, append_assoc}
use native.Mathlib.Nat.{le_refl}
use native.Mathlib.Omega.{arith}
use lib.ListN.{length, get_or, length-append}
use lib.Seq.{append_snoc, get_or_at}
use Rattle.rules.specs.Records.{Netlist, most_nodes}
use Rattle.rules.specs.Families.{families, Finding, clear, suspect_at, findings}
use Rattle.rules.specs.Checks.{Outcome, answered, refused, and_then, read, most_work}
use Rattle.rules.specs.Slices.{reply}
use Rattle.rules.specs.Listing.{word, decimal, line, node_lines, half_line, netlist_text, text_of, listing}
use Rattle.rules.specs.Demands.{GlitchClear, OneProbe, EndsClear}
use Rattle.rule_laws.proofs.Tests.{lt_or_le}
use Rattle.rule_laws.proofs.Room.{admitted_all}
use Rattle.rule_laws.proofs.Decimal.{decimal_less, decimal_more, Digit}
use Rattle.rule_laws.proofs.Probe.{one_probe}

-- ---- how a text ends

-- the byte before the last
abbrev ending : List ℕ → ℕ
ending s = get_or s (length s - 2) 0

ending_is : (front : List ℕ) (d : ℕ) → ending (front ++ (d ∷ 10 ∷ [])) ≡ d
ending_is front d = get_or_at front d (10 ∷ []) 0 _ (omega (arith, length-append front (d ∷ 10 ∷ [])))

same_ending : (xs ys : List ℕ) (d e : ℕ) → xs ++ (d ∷ 10 ∷ []) ≡ ys ++ (e ∷ 10 ∷ []) → d ≡ e
same_ending xs ys d e same = sym (ending_is xs d) ∙ ap ending same ∙ ending_is ys e

-- a text that ends in a digit and a line feed
record EndsDigit (s : List ℕ) : Type 0 where
  front : List ℕ
  last : ℕ
  is_digit : Digit last
  ends : s ≡ front ++ (last ∷ 10 ∷ [])

behind : (xs s : List ℕ) → EndsDigit s → EndsDigit (xs ++ s)
behind xs s d = record { front = xs ++ d.front; last = d.last; is_digit = d.is_digit; ends = rw (d.ends, append_assoc) }

-- a number does, and so does a line whose last field is one
decimal_ends : (x : ℕ) → EndsDigit (decimal x ++ (10 ∷ []))
decimal_ends x = go (lt_or_le x 10)
  where
    go : (x < 10) ⊎ (10 ≤ x) → EndsDigit (decimal x ++ (10 ∷ []))
    go (inl h) = record { front = []; last = 48 + x; is_digit = omega arith; ends = rw (decimal_less x h) }
    go (inr h) = record { front = decimal (x / 10); last = 48 + x % 10; is_digit = omega arith; ends = rw (decimal_more x h, append_assoc) }

line_ends : (fields : List (List ℕ)) (x : ℕ) → EndsDigit (line (fields ++ (decimal x ∷ [])))
unfolding line
line_ends [] x = decimal_ends x
line_ends (field ∷ []) x = behind field _ (behind (32 ∷ []) _ (line_ends [] x))
line_ends (field ∷ other ∷ fields) x = behind field _ (behind (32 ∷ []) _ (line_ends (other ∷ fields) x))

-- the line `glitch clear` does not: it ends in the letter r, which is 114
abbrev clear_line : List ℕ
clear_line = line (word "glitch" ∷ word "clear" ∷ [])

clear_ends : (s text : List ℕ) → EndsDigit s → s ≡ text ++ clear_line → ⊥
unfolding line word
clear_ends s text d e =
    let clea = word "glitch" ++ (32 ∷ word "clea") in
    let same = same_ending d.front (text ++ clea) d.last 114 (sym d.ends ∙ e ∙ sym (append_assoc text clea _)) in
    absurd (omega (arith, same, d.is_digit.1))

-- ---- the last line

-- the lines above those of the halves
abbrev above : Netlist → List ℕ
above n =
    line (word "vars" ∷ decimal (length n.variables) ∷ word "nodes" ∷ decimal (length n.nodes) ∷ [])
    ++ node_lines 0 n.nodes (families n)

-- a glitch half whose line ends so is clear
half_says : (f : Finding) (before text : List ℕ) → before ++ half_line (word "glitch") f ≡ text ++ clear_line → f ≡ clear
unfolding half_line
half_says clear before text e = refl
half_says (suspect_at i A) before text e =
    absurd (clear_ends _ text (behind before _ (line_ends (word "glitch" ∷ decimal i ∷ []) A)) e)

text_says : (o : Outcome Netlist) (text : List ℕ) → text_of o ≡ text ++ clear_line → GlitchClear (and_then o (λ n. answered (findings n)))
unfolding text_of netlist_text GlitchClear and_then
text_says (refused k p) text e = absurd (clear_ends _ text (line_ends (word "refused" ∷ decimal k ∷ []) p) e)
text_says (answered n) text e = half_says (findings n).glitch (above n ++ half_line (word "settled") (findings n).settled) text e

-- a line ends in a line feed
feeds : (fields : List (List ℕ)) → (front : List ℕ) × (line fields ≡ front ++ (10 ∷ []))
unfolding line
feeds [] = ([], refl)
feeds (field ∷ []) = (field, refl)
feeds (field ∷ other ∷ fields) =
    let (front, e) = feeds (other ∷ fields) in (field ++ (32 ∷ front), rw (e, append_assoc))

half_feeds : (name : List ℕ) (f : Finding) → (front : List ℕ) × (half_line name f ≡ front ++ (10 ∷ []))
unfolding half_line
half_feeds name clear = feeds _
half_feeds name (suspect_at i A) = feeds _

text_said : (o : Outcome Netlist) → GlitchClear (and_then o (λ n. answered (findings n)))
    → (before : List ℕ) × (text_of o ≡ before ++ (10 ∷ clear_line))
unfolding text_of netlist_text half_line GlitchClear and_then
text_said (refused k p) c = absurd c
text_said (answered n) c =
    let (front, e) = half_feeds (word "settled") (findings n).settled in
    (above n ++ front, rw (c, e) (simp append_assoc))

-- slices of so many entries and bytes refuse no netlist
reply_read : (bytes : List ℕ) → reply bytes most_nodes most_work ≡ and_then (read bytes) (λ n. answered (findings n))
unfolding reply
reply_read bytes = rw (admitted_all bytes most_nodes most_work (le_refl _) (le_refl _))

-- Where the listing ends in the line `glitch clear` the checker answers clear for glitching signals,
clear_line_says : (bytes text : List ℕ) → listing bytes ≡ text ++ line (word "glitch" ∷ word "clear" ∷ [])
    → GlitchClear (reply bytes most_nodes most_work)
unfolding listing
clear_line_says bytes text e = rw (reply_read bytes) (text_says (read bytes) text e)

-- and where the checker answers so that is the listing's last line.
clear_line_said : (bytes : List ℕ) → GlitchClear (reply bytes most_nodes most_work) → EndsClear bytes
unfolding listing
clear_line_said bytes c =
    let (before, e) = text_said (read bytes) (rw (reply_read bytes) at c) in
    record { before = before; ends = e }

pub clear_line_lem : (bytes : List ℕ) → EndsClear bytes ↔ GlitchClear (reply bytes most_nodes most_work)
clear_line_lem bytes =
    (λ s. clear_line_says bytes (s.before ++ (10 ∷ [])) (s.ends ∙ sym (append_snoc s.before 10 _)), clear_line_said bytes)

-- So where the listing's last line reads `glitch clear`, one probe on any gate or register
-- learns nothing of the secrets.
pub clear_line_probe : (bytes : List ℕ) → EndsClear bytes → OneProbe bytes
clear_line_probe bytes s = one_probe bytes most_nodes most_work ((clear_line_lem bytes).0 s)
