-- A text behind the front of a slice: a byte that is stored there is such a text, and two of them,
-- one behind the other, are one. Each function that writes a text is a composition of those that it calls,
-- and an equation between texts. Assumes nothing.
use Prim.Native.Nat.{ℕ, ◌+◌, ◌-◌, ◌<◌}
use mathlib.Core.Path.{◌≡◌, refl, sym, ap, ◌∙◌}
use mathlib.Core.List.{List, [], ◌∷◌, ◌++◌, append-nil, append_assoc}
use native.Mathlib.Numerals.{add-one}
use native.Mathlib.Omega.{arith}
use lib.ListN.{length, take, drop, set, length-append, length-set, take-append-drop}
use lib.Seq.{take-suc-set, drop-set-lt, drop-drop}
use Rattle.listing_lines.specs.Text.{Appended}

-- the empty text is written by doing nothing
pub appended_none : (slice : List ℕ) (at : ℕ) → Appended slice slice at at []
appended_none slice at = record { place = omega arith; bytes = sym (append-nil (take at slice)); beyond = refl; long = refl }

-- a byte is written by storing it
pub appended_byte : (slice : List ℕ) (at byte : ℕ) → at < length slice → Appended slice (set slice at byte) at (at + 1) (byte ∷ [])
appended_byte slice at byte h = record {
  place = refl;
  bytes = rw add-one (take-suc-set slice at byte h);
  beyond = drop-set-lt (at + 1) slice at byte (omega arith);
  long = length-set slice at byte;
}

-- two texts, one behind the other
pub appended_more : {before between after : List ℕ} {at next end : ℕ} {first second : List ℕ} → Appended before between at next first
    → Appended between after next end second → Appended before after at end (first ++ second)
appended_more {before} {between} {after} {at} {next} {end} {first} {second} a b =
    let over : next + (end - next) ≡ end = omega (arith, b.place) in
    record {
      place = omega (arith, length-append first second);
      bytes = b.bytes ∙ ap (λ (front : List ℕ). front ++ second) a.bytes ∙ append_assoc (take at before) first second;
      beyond =
          b.beyond ∙ rw (← over) (sym (drop-drop (end - next) next between) ∙ ap (drop (end - next)) a.beyond ∙ drop-drop (end - next) next before);
      long = b.long ∙ a.long;
    }

-- one byte more, at the text's end
pub appended_next : {before between : List ℕ} {at end : ℕ} {text : List ℕ} (place next byte : ℕ) → place ≡ end → next ≡ place + 1 → end < length before
    → Appended before between at end text → Appended before (set between place byte) at next (text ++ (byte ∷ []))
appended_next {before} {between} {at} {end} {text} place next byte here there room a =
    rw (here, there, here) (appended_more a (appended_byte between end byte (rw a.long room)))

-- the same text, said otherwise
pub appended_as : {before after : List ℕ} {at next : ℕ} {text other : List ℕ} → text ≡ other → Appended before after at next text
    → Appended before after at next other
appended_as e a = rw e at a

-- a text at the front: how many bytes it has, and that nothing else is changed
pub appended_size : {before after : List ℕ} {next : ℕ} {text : List ℕ} → Appended before after 0 next text → next ≡ length text
appended_size a = omega (arith, a.place)

pub appended_whole : {before after : List ℕ} {next : ℕ} {text : List ℕ} → Appended before after 0 next text → after ≡ text ++ drop next before
appended_whole {before} {after} {next} {text} a =
    sym (take-append-drop next after) ∙ ap (λ (front : List ℕ). front ++ drop next after) a.bytes ∙ ap (λ (rest : List ℕ). text ++ rest) a.beyond
