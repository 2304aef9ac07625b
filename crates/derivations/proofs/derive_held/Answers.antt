-- `derive_held` meets its contract: the steps stand at the front of an array that has room for as many as there may be,
-- and are copied to the slice where they fit. Assumes nothing.
use Prim.Native.Nat.{ℕ, ◌*◌, ◌≤◌}
use mathlib.Core.Path.{◌≡◌, sym, ap, ◌∙◌}
use mathlib.Core.List.{List, ◌++◌}
use native.Mathlib.Omega.{arith}
use lib.ListN.{length, take, drop}
use lib.Seq.{length-take-le}
use Rattle.std.proofs.lemmas.Result.{err_from_is_err_and}
use Rattle.rules.specs.Checks.{answered}
use Rattle.derivation_rules.specs.Derivations.{step_size, fitting, steps_reply, steps_after}
use Rattle.derivations.specs.Written.{ReadAs}
use Rattle.derivations.proofs.Certificates.{fitting_few, slice_kept, count_few, slice_written, reply_read, slice_read, no_answer, certified}
use Rattle.derivations.proofs.derive_held.Goals as goal
use Rattle.derivations.proofs.derive_held.Goals.{In_ok-count}

pub explain-requires : goal.explain-requires
explain-requires c =
    let (most, _) = fitting_few (length c.args.steps.now) in
    rw c.fitting-room.ensures (c.requires, omega arith, most)

pub returns-in_err-count : goal.returns-in_err-count
returns-in_err-count c =
    let p = err_from_is_err_and c.from_residual.result c.from_residual.ensures.1 in
    let slice = c.args.steps.now in
    rw (p.1, p.2) record {
      reply = λ bytes h.
          let told = rw c.fitting-room.ensures at (c.in_err-count.ensures h.netlist h.same) in
          reply_read bytes h.netlist h.is _ _ _ slice _ told.reply;
      steps = λ bytes h.
          let told = rw c.fitting-room.ensures at (c.in_err-count.ensures h.netlist h.same) in
          slice_read bytes h.netlist h.is _ _ _ slice _ (slice_kept _ _ _ _ slice _ told);
      follows = λ bytes h count e. absurd (no_answer e);
      most = λ count e. absurd (no_answer e);
    }

module _ (c : In_ok-count) where
  -- so many steps fit into the slice, and into the array
  few : let count = c.in_ok-count.count in
      (count ≤ fitting (length c.args.steps.now)) × (step_size * count ≤ length c.args.steps.now) × (step_size * count ≤ length c.explain.new.steps)
  few =
      let formed = c.requires.formed in
      let slice = c.args.steps.now in
      let (most, room) = fitting_few (length slice) in
      let told = rw c.fitting-room.ensures at (c.in_ok-count.ensures formed.netlist formed.is) in
      let many = count_few _ _ _ _ slice _ told in
      (many, omega arith, omega (arith, c.explain.auto.steps))

  -- the reply and the slice once the steps are copied, for netlist bytes that are read as the netlist
  promised : (after : List ℕ) → let a = c.args in
      after ≡ take (step_size * c.in_ok-count.count) c.explain.new.steps ++ drop (step_size * c.in_ok-count.count) a.steps.now
      → (bytes : List ℕ) → ReadAs a.netlist bytes
      → (answered c.in_ok-count.count ≡ steps_reply bytes a.node a.layer a.set (length a.steps.now))
      × (after ≡ steps_after bytes a.node a.layer a.set a.steps.now)
  promised after copied bytes h =
      let slice = c.args.steps.now in
      let told = rw c.fitting-room.ensures at (c.in_ok-count.ensures h.netlist h.same) in (
        reply_read bytes h.netlist h.is _ _ _ slice _ told.reply,
        slice_read bytes h.netlist h.is _ _ _ slice _ (slice_written _ _ _ _ slice _ told after copied),
      )

pub overflow_mul-end : goal.overflow_mul-end
overflow_mul-end c = omega (arith, (few c).2)

pub slice_bounds-copy_from_slice-end : goal.slice_bounds-copy_from_slice-end
slice_bounds-copy_from_slice-end c = (few c).1

pub slice_bounds-copy_from_slice-end-2 : goal.slice_bounds-copy_from_slice-end-2
slice_bounds-copy_from_slice-end-2 c =
    sym (length-take-le _ _ (few (goal.at.slice_bounds-copy_from_slice-end-2 c).In_ok-count).1)

pub slice_bounds-found-end : goal.slice_bounds-found-end
slice_bounds-found-end c = (few (goal.at.slice_bounds-found-end c).In_ok-count).2

pub slice_bounds-copy_from_slice-end-3 : goal.slice_bounds-copy_from_slice-end-3
slice_bounds-copy_from_slice-end-3 c =
    sym (length-take-le _ _ (few (goal.at.slice_bounds-copy_from_slice-end-3 c).In_ok-count).2)

pub copy_from_slice-requires : goal.copy_from_slice-requires
copy_from_slice-requires c =
    let (_, fits, whole) = few (goal.at.copy_from_slice-requires c).In_ok-count in
    length-take-le _ _ fits ∙ sym (length-take-le _ _ whole)

pub returns : goal.returns
returns c =
    let at = (goal.at.returns c).In_ok-count in
    let slice = c.args.steps.now in
    let copied = ap (λ (l : List ℕ). l ++ drop (step_size * c.in_ok-count.count) slice) c.copy_from_slice.ensures.after in
    let both = promised at _ copied in record {
      reply = λ bytes h. (both bytes h).0;
      steps = λ bytes h. (both bytes h).1;
      follows = λ bytes h. certified bytes _ _ _ slice _ _ (both bytes h).0 (both bytes h).1;
      most = λ count e.
          let same : c.in_ok-count.count ≡ count = cc e in omega (arith, fitting_few (length slice), (few at).0);
    }
