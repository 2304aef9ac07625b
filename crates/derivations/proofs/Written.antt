-- Steps behind the front of a slice that takes so many: none, one that does not fit, one with others behind it,
-- and two runs of them, one behind the other. Assumes nothing.
use Prim.Native.Nat.{ℕ, ◌+◌, ◌*◌, ◌≤◌, ◌<◌}
use mathlib.Core.Path.{◌≡◌, refl, sym, ap, ◌∙◌}
use Rattle.std.specs.Prelude.{Option, None, Some}
use mathlib.Core.Logic.{◌⊎◌, inl, inr}
use mathlib.Core.List.{List, [], ◌∷◌, ◌++◌, append-nil, append_assoc}
use native.Mathlib.Omega.{arith}
use lib.ListN.{length, length-append}
use Rattle.rule_laws.proofs.Tests.{lt_or_le}
use Rattle.listing_lines.specs.Text.{Appended}
use Rattle.listing_lines.proofs.Text.{appended_none, appended_more, appended_as}
use Rattle.derivation_rules.specs.Derivations.{Step, step_bytes, step_size, steps_out}
use Rattle.derivations.specs.Written.{Written}

-- steps are written one behind the other
pub out_append : (firsts seconds : List Step) → steps_out (firsts ++ seconds) ≡ steps_out firsts ++ steps_out seconds
unfolding steps_out
out_append [] seconds = refl
out_append (s ∷ firsts) seconds = rw (out_append firsts seconds) (sym (append_assoc (step_bytes s) (steps_out firsts) (steps_out seconds)))

-- the same text, from and to places that are said otherwise
appended_at : {before after : List ℕ} {at at' next next' : ℕ} {text : List ℕ} → at ≡ at' → next ≡ next' → Appended before after at next text
    → Appended before after at' next' text
appended_at e f a = rw (e, f) at a

-- those so far, of which there are no more than there is room for
pub written_none : (slice : List ℕ) (at room : ℕ) → at ≤ room → Written slice slice at room (Some at) []
unfolding steps_out
written_none slice at room few = record {
  fits = λ h. (ap Some (omega arith), appended_at refl (omega arith) (appended_none slice (step_size * at)));
  over = λ h. absurd (omega arith);
}

-- there is no room for one more
pub written_full : (slice : List ℕ) (at room : ℕ) (steps : List Step) → room ≤ at → 0 < length steps → Written slice slice at room None steps
written_full slice at room steps full some = record { fits = λ h. absurd (omega arith); over = λ h. refl }

apart : {k : ℕ} → Some k ≡ None → ⊥
apart e = cc

-- two runs of steps, of which the first does not fit
pub written_over : {before after : List ℕ} {at room : ℕ} {firsts : List Step} (seconds : List Step)
    → Written before after at room None firsts
    → Written before after at room None (firsts ++ seconds)
written_over {before} {after} {at} {room} {firsts} seconds a = record {
  fits = λ h. absurd (apart (sym (a.fits (omega (arith, length-append firsts seconds))).0));
  over = λ h. refl;
}

-- two runs of steps
pub written_more : {before between after : List ℕ} {at room next : ℕ} {end : Option ℕ} {firsts seconds : List Step}
    → Written before between at room (Some next) firsts → Written between after next room end seconds
    → Written before after at room end (firsts ++ seconds)
written_more {before} {between} {after} {at} {room} {next} {end} {firsts} {seconds} a b = record {
  fits = λ h.
      let (is, first) = a.fits (omega (arith, length-append firsts seconds)) in
      let n : next ≡ at + length firsts = cc is in
      let (e, second) = b.fits (omega (arith, length-append firsts seconds)) in (
        e ∙ ap Some (omega (arith, length-append firsts seconds)),
        appended_as (sym (out_append firsts seconds))
            (appended_more first (appended_at (omega arith) (omega (arith, length-append firsts seconds)) second)),
      );
  over = λ h. go h (lt_or_le room (at + length firsts));
}
  where
    go : room < at + length (firsts ++ seconds) → (room < at + length firsts) ⊎ (at + length firsts ≤ room) → end ≡ None
    go h (inl over) = absurd (apart (a.over over))
    go h (inr fits) =
        let n : next ≡ at + length firsts = cc (a.fits fits).0 in b.over (omega (arith, length-append firsts seconds))

-- one step that fits, and others behind it
written_one : {before after : List ℕ} {at room : ℕ} (s : Step) → at < room
    → Appended before after (step_size * at) (step_size * (at + 1)) (step_bytes s) → Written before after at room (Some (at + 1)) (s ∷ [])
unfolding steps_out
written_one s h a = record {
  fits = λ _. (refl, appended_as (sym (append-nil (step_bytes s))) a);
  over = λ over. absurd (omega arith);
}

pub written_step : {before between after : List ℕ} {at room : ℕ} {next : Option ℕ} {below : List Step} (s : Step) → at < room
    → Appended before between (step_size * at) (step_size * (at + 1)) (step_bytes s) → Written between after (at + 1) room next below
    → Written before after at room next (s ∷ below)
written_step s h a b = written_more (written_one s h a) b
