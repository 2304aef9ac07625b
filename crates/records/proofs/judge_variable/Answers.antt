-- `records::judge_variable` meets its contract: its tests are the rows that are left for a variable. Assumes nothing.
use Prim.Native.Nat.{ℕ, ◌≤◌}
use mathlib.Core.Path.{subst}
use native.Mathlib.Omega.{arith}
use lib.ListN.{get_or}
use borrow.Author.Tests.{lt-ltb, le-ltb, le-leb, lt-leb}
use Rattle.rules.specs.Records.{Class, secret, mask, public, class_byte, most_variables}
use Rattle.rules.specs.Checks.{judged}
use Rattle.records.proofs.Judged.{variable_checks}
use Rattle.netlists.specs.Kinds.{class_in}
use Rattle.records.proofs.judge_variable.Goals as goal

-- a class's byte is one of three
class_low : (c : Class) → class_byte c ≤ 2
unfolding class_byte
class_low secret = omega arith
class_low mask = omega arith
class_low public = omega arith

pub returns-then-spot-gt0 : goal.returns-then-spot-gt0
unfolding judged
returns-then-spot-gt0 c = let (inside, kind) = c.requires in rw (variable_checks, lt-ltb _ _ c.if-spot-gt0.true, c.at.ensures)

pub returns-then-spot-ge-MOST_VARIABLES : goal.returns-then-spot-ge-MOST_VARIABLES
unfolding judged
returns-then-spot-ge-MOST_VARIABLES c =
    let (inside, kind) = c.requires in
    let full = le-leb most_variables c.args.spot.variables (omega arith) in
    rw (variable_checks, le-ltb _ _ c.if-spot-gt0.false, full, c.at-then-spot-ge-MOST_VARIABLES.ensures)

pub returns-then-spot-lt2 : goal.returns-then-spot-lt2
unfolding judged
returns-then-spot-lt2 c =
    let (inside, kind) = c.requires in
    let few = lt-leb most_variables c.args.spot.variables (omega arith) in
    rw (variable_checks, le-ltb _ _ c.if-spot-gt0.false, few, lt-ltb _ _ c.if-spot-lt2.true, c.at-then-spot-lt2.ensures)

pub returns-in-Err : goal.returns-in-Err
unfolding judged
returns-in-Err c =
    let (inside, kind) = c.requires in
    let few = lt-leb most_variables c.args.spot.variables (omega arith) in
    rw (
      variable_checks,
      le-ltb _ _ c.if-spot-gt0.false,
      few,
      le-ltb _ _ c.if-spot-lt2.false,
      lt-ltb 2 (get_or c.args.own.body 0 0) c.in-Err.ensures.1,
      c.at-in-Err.ensures,
    )

pub returns-in-Ok : goal.returns-in-Ok
unfolding judged
returns-in-Ok c =
    let (inside, kind) = c.requires in
    let few = lt-leb most_variables c.args.spot.variables (omega arith) in
    let known : get_or c.args.own.body 0 0 ≤ 2 = subst (λ (b : ℕ). b ≤ 2) c.in-Ok.ensures (class_low (class_in c.in-Ok.field-0)) in
    rw (variable_checks, le-ltb _ _ c.if-spot-gt0.false, few, le-ltb _ _ c.if-spot-lt2.false, le-ltb 2 (get_or c.args.own.body 0 0) known)
