-- `telgouin::editing::run_lines` meets its contract: a turn adds one event to the run so far and uses up one of the
-- turns that are left, so it ends. Assumes nothing.
use Prim.Native.Nat.{ℕ, ◌+◌}
use mathlib.Core.Path.{◌≡◌}
use mathlib.Core.List.{List, [], ◌∷◌, ◌++◌}
use native.Mathlib.Omega.{arith}
use lib.ListN.{length-append}
use Rattle.edit_turns.specs.declared.Turn.{Turn}
use Rattle.edit_turns.specs.Turns.{after_events}
use Rattle.edit_turns.proofs.Runs.{after_more}
use Rattle.telgouin.specs.Editing.{Stepped, Ran}
use Rattle.telgouin.proofs.editing.run_lines.Goals as goal

none_yet : {turn : Turn} {left : ℕ} {work : List ℕ} → Ran turn turn left left work work
unfolding after_events
none_yet = record { events = []; each = omega arith; stands = λ s stands. stands }

one_more : {turn turn' turn'' : Turn} {left left' left'' : ℕ} {work work' work'' : List ℕ} → Ran turn turn' left left' work work' → Stepped turn' turn'' work' work''
    → left'' + 1 ≡ left' → Ran turn turn'' left left'' work work''
one_more ran step less = record {
  events = ran.events ++ (step.event ∷ []);
  each = omega (arith, ran.each, length-append ran.events (step.event ∷ []));
  stands = λ s stands. rw (after_more s ran.events step.event) (step.stands _ (ran.stands s stands));
}

pub loop-last-init : goal.loop-last-init
loop-last-init g c = (none_yet, λ more. c.requires)

pub step-last-requires : goal.step-last-requires
step-last-requires g c = c.loop-last.invariant.1 c.loop-last-test.true

pub loop-last-smaller : goal.loop-last-smaller
loop-last-smaller g c = omega (arith, c.step-last.ensures.left)

pub loop-last-preserved : goal.loop-last-preserved
loop-last-preserved g c = (one_more c.loop-last.invariant.0 c.step-last.ensures.taken c.step-last.ensures.left, c.step-last.ensures.more)

pub returns : goal.returns
returns g c = c.loop-last.invariant.0
