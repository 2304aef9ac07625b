-- What comes of a claim: the rows of refusals 12, 13, 16 and 15 passed or not, and the steps that a slice then
-- holds at its front. Assumes nothing.
use Rattle.std.specs.Prelude.{Ok, Err}
use Rattle.rules.specs.Paper.{number_of, place_of}
use Rattle.rules.specs.declared.Refusal.{Refusal}
use Prim.Native.Nat.{ℕ, ◌+◌, ◌*◌, ◌≤◌, ◌<◌}
use mathlib.Core.Path.{◌≡◌, sym, ◌∙◌}
use mathlib.Core.Logic.{◌⊎◌, inl, inr}
use mathlib.Core.Bool.{true, false}
use mathlib.Core.List.{List, [], ◌∷◌}
use native.Mathlib.Nat.{zero-add}
use native.Mathlib.Omega.{arith}
use borrow.Author.Tests.{lt-ltb, le-ltb}
use lib.ListN.{length, take}
use Rattle.std.specs.Prelude.{Option, None, Some}
use Rattle.rules.specs.Records.{Netlist}
use Rattle.rules.specs.Checks.{Outcome, answered, refused, and_then, Check, judged, read, node_check, number_check, queried_with}
use Rattle.rule_laws.proofs.Tests.{lt_or_le}
use Rattle.query_netlists.proofs.Asking.{rows_refuse, rows_pass}
use Rattle.derivation_rules.specs.Derivations.{Step, step_size, steps_out, in_family, derived, set_check, steps_check, explainable, derivable}
use Rattle.derivations.specs.Written.{Written, derivable_in, Told}

-- ---- the rows

module _ (n : Netlist) (i k A room : ℕ) where
  -- those of the node and of the set
  abbrev rows : List Check
  rows = node_check i n ∷ number_check A n ∷ []

  pub judged_refused : (number place : ℕ) → ◌≡◌ {A = Outcome (Unit {0})} (refused number place) (judged rows tt)
      → derivable_in n i k A room ≡ refused number place
  unfolding derivable_in and_then
  judged_refused number place e = rw (rows_refuse rows n number place e)

  pub judged_passed : ◌≡◌ {A = Outcome (Unit {0})} (answered tt) (judged rows tt) → derivable_in n i k A room ≡ explainable i k A room n
  unfolding derivable_in and_then
  judged_passed e = rw (rows_pass rows n e)

  -- and behind a file that is read as the netlist
  pub derivable_in_lem : (file : List ℕ) → read file ≡ answered n → derivable file i k A room ≡ derivable_in n i k A room
  unfolding derivable derivable_in queried_with and_then
  derivable_in_lem file e = rw e

  -- a set that is not in the family
  pub not_in_family : in_family n i k A ≡ false → explainable i k A room n ≡ refused 16 A
  unfolding explainable set_check judged
  not_in_family out = rw out

  module _ (holds : in_family n i k A ≡ true) where
    -- more steps than fit
    pub too_many : room < length (derived n i k A) → explainable i k A room n ≡ refused 15 room
    unfolding explainable set_check steps_check judged
    too_many over = rw (holds, lt-ltb _ _ over)

    pub they_fit : length (derived n i k A) ≤ room → explainable i k A room n ≡ answered n
    unfolding explainable set_check steps_check judged
    they_fit fits = rw (holds, le-ltb _ _ fits)

-- ---- what is told

module _ (outcome : Outcome Netlist) (i k A room : ℕ) (slice : List ℕ) where
  -- a refusal, which says nothing of the slice
  pub told_refused : (refusal : Refusal) → outcome ≡ refused (number_of refusal) (place_of refusal) → Told outcome i k A room (Err refusal) slice
  unfolding and_then
  told_refused refusal is = record {
    reply = rw is;
    few = λ n answer. absurd (apart (sym is ∙ answer));
    bytes = λ n answer. absurd (apart (sym is ∙ answer));
  }
    where
      apart : {n : Netlist} → refused (number_of refusal) (place_of refusal) ≡ answered n → ⊥
      apart e = let no : ◌≡◌ {A = ℕ} 0 1 = cc in absurd (omega arith)

  -- steps that fit, at the front of the slice
  pub told_steps : (n : Netlist) → outcome ≡ answered n
      → length (derived n i k A) ≤ room
      → take (step_size * length (derived n i k A)) slice ≡ steps_out (derived n i k A)
      → Told outcome i k A room (Ok (length (derived n i k A))) slice
  unfolding and_then
  told_steps n is fits written = record {
    reply = rw is;
    few = λ m answer. rw (← one (sym is ∙ answer)) fits;
    bytes = λ m answer. rw (← one (sym is ∙ answer)) written;
  }
    where
      one : {m : Netlist} → answered n ≡ answered m → n ≡ m
      one e = cc

-- ---- steps from the front on

apart : {k : ℕ} → Some k ≡ None → ⊥
apart e = cc

module _ {before after : List ℕ} {room : ℕ} {next : Option ℕ} {steps : List Step} (w : Written before after 0 room next steps) where
  pub over_all : next ≡ None → room < length steps
  over_all none = go (lt_or_le room (length steps))
    where
      go : (room < length steps) ⊎ (length steps ≤ room) → room < length steps
      go (inl l) = l
      go (inr l) = absurd (apart (sym (w.fits (omega arith)).0 ∙ none))

  pub count_all : (count : ℕ) → next ≡ Some count → (length steps ≤ room) × (length steps ≡ count)
  count_all count is = go (lt_or_le room (length steps))
    where
      go : (room < length steps) ⊎ (length steps ≤ room) → (length steps ≤ room) × (length steps ≡ count)
      go (inl l) = absurd (apart (sym is ∙ w.over (omega arith)))
      go (inr l) = let same : 0 + length steps ≡ count = cc (w.fits (omega arith)).0 in (l, omega arith)

  pub bytes_all : length steps ≤ room → take (step_size * length steps) after ≡ steps_out steps
  bytes_all fits = let whole = (w.fits (omega arith)).1.bytes in rw zero-add at whole
