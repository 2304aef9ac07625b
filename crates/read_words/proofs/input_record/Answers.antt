-- `read_words::input_record` meets its contract: each word is one variable more, unless it is none, or is there already.
-- Assumes nothing.
use Rattle.std.proofs.Common.{◌≡◌, ℕ, ◌+◌, ◌*◌, ◌/◌, ◌%◌, ◌^◌, ◌≤◌, ◌<◌, List, ◌∷◌, sym, ap, ◌∙◌, drop, arith}
use Rattle.std.proofs.lemmas.Result.{err_from_is_err_and}
use borrow.Author.Tests.{eq-eqb, ne_eqb}
use native.Mathlib.Nat.{mod-eq_of_lt}
use Rattle.scanner.specs.Words.{words}
use Rattle.scanner.specs.Scans.{part, NextWord}
use Rattle.read_words.specs.Words.{with_variables}
use Rattle.read_words.proofs.Records.{no_value, some_value, no_variable, variable_twice, one_variable, all_variables, power_is, room}
use Rattle.read_words.proofs.input_record.Goals as goal

-- one word more is read
turn : (set : ℕ) (numbers : List ℕ) (at from to : ℕ) → with_variables 0 (words numbers) ≡ with_variables set (words (drop at numbers))
    → NextWord numbers at from to → with_variables 0 (words numbers) ≡ with_variables set (part from to numbers ∷ words (drop to numbers))
turn set numbers at from to e next = e ∙ ap (with_variables set) next.next

-- the set has room for one variable more
roomy : (set variable : ℕ) → variable ≤ 15 → set < 2 ^ 16 → (set / (1 * 2 ^ variable % 65536) % 2 ≡ 1 → ⊥)
    → set + 1 * 2 ^ variable % 65536 < 2 ^ 16
roomy set variable low h e =
    let is = power_is _ low in
    rw is (room 16 _ _ (omega arith) h (rw is at e))

pub returns-in_err-variable : goal.returns-in_err-variable
returns-in_err-variable c =
    let p = err_from_is_err_and c.from_residual.result c.from_residual.ensures.1 in
    let (none, fault) = no_value _ _ _ c.in_err-variable.ensures.value in
    let is = rw none at c.number_below.ensures in
    rw (p.1, p.2, fault)
    (turn _ _ _ _ _ c.loop-word.invariant.2 c.in-Some.ensures ∙ no_variable _ _ _ 16 (sym is) (omega arith))

pub returns-then-set-power-eq1 : goal.returns-then-set-power-eq1
returns-then-set-power-eq1 c =
    let (low, is) = rw (some_value _ _ _ c.in_ok-variable.ensures.value) at c.number_below.ensures in
    turn _ _ _ _ _ c.loop-word.invariant.2 c.in-Some.ensures
    ∙ variable_twice _ _ _ c.in_ok-variable.variable is (omega arith) (rw (power_is c.in_ok-variable.variable (omega arith)) at (eq-eqb _ _ c.if-set-power-eq1.true))

pub overflow_add-set : goal.overflow_add-set
overflow_add-set c =
    let (low, is) = rw (some_value _ _ _ c.in_ok-variable.ensures.value) at c.number_below.ensures in
    record { fits = roomy _ _ (omega arith) c.loop-word.invariant.1 c.if-set-power-eq1.false }

pub loop-word-preserved : goal.loop-word-preserved
loop-word-preserved c =
    let (low, is) = rw (some_value _ _ _ c.in_ok-variable.ensures.value) at c.number_below.ensures in
    let power = power_is c.in_ok-variable.variable (omega arith) in (
      c.in-Some.ensures.within,
      roomy _ _ (omega arith) c.loop-word.invariant.1 c.if-set-power-eq1.false,
      rw power (turn _ _ _ _ _ c.loop-word.invariant.2 c.in-Some.ensures ∙ one_variable _ _ _ c.in_ok-variable.variable is (omega arith) (rw power at (ne_eqb _ _ c.if-set-power-eq1.false))),
    )

pub returns : goal.returns
returns c =
    let set = c.loop-word.set in
    let high : set / 256 % 256 ≡ set / 256 = mod-eq_of_lt (omega (arith, c.loop-word.invariant.1)) in
    rw (c.loop-word.invariant.2 ∙ ap (with_variables set) c.in_default.ensures, c.byte.ensures, c.to_le_bytes.ensures, high) (all_variables set)
