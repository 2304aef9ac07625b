-- `node_values::exclusive_or` meets its contract. The invariant: what is summed so far, with the exclusive-or of the
-- variables from v on, is the whole. Assumes nothing.
use Prim.Native.Nat.{ℕ, suc, ◌+◌, ◌-◌, ◌/◌, ◌≤◌, ◌<◌}
use mathlib.Core.Path.{◌≡◌, refl, sym, ◌∙◌}
use mathlib.Core.Bool.{Bool, true, false, not, ◌&&◌, xor, beq}
use native.Mathlib.Omega.{arith}
use borrow.Author.Tests.{eq-eqb, ne_eqb}
use Rattle.rules.specs.Records.{odd, bits}
use Rattle.rules.specs.Values.{exclusive_or}
use Rattle.rule_laws.proofs.Characters.{false_xor}
use Rattle.node_values.proofs.exclusive_or.Goals as goal
use Rattle.node_values.proofs.exclusive_or.Goals.{Joined-s-eq1, else-s-eq1, then-s-eq1}

xor-false : (a : Bool) → xor a false ≡ a
unfolding xor
xor-false true = refl
xor-false false = refl

xor_assoc : (a b c : Bool) → xor a (xor b c) ≡ xor (xor a b) c
unfolding xor
xor_assoc true true true = refl
xor_assoc true true false = refl
xor_assoc true false true = refl
xor_assoc true false false = refl
xor_assoc false true true = refl
xor_assoc false true false = refl
xor_assoc false false true = refl
xor_assoc false false false = refl

-- of the variables from v on: none, and variable v with those behind it
module _ (whole sum : Bool) (s x variables v : ℕ) (e : whole ≡ xor sum (exclusive_or s (bits (variables - v) x))) where
  none_left : variables ≤ v → sum ≡ whole
  unfolding exclusive_or bits
  none_left h = let none : variables - v ≡ 0 = omega arith in sym (e ∙ rw none (xor-false sum))

  one_less : (b : Bool) → v < variables → b ≡ odd s && odd x
      → whole ≡ xor (not (beq sum b)) (exclusive_or (s / 2) (bits (variables - (v + 1)) (x / 2)))
  unfolding xor exclusive_or bits
  one_less b h is =
      let left = variables - (v + 1) in
      let more : variables - v ≡ suc left = omega arith in
      e ∙ rw (more, ← is) (xor_assoc sum b (exclusive_or (s / 2) (bits left (x / 2))))

-- whether the variable is in the set, and 1
both : (c : Joined-s-eq1) → c.if-s-eq1.sum ≡ odd c.loop-v.s && odd c.loop-v.x
both c = elim c.if-s-eq1.branch [ then-s-eq1 w ↦ rw (eq-eqb _ 1 w.if-s-eq1.true) w.sum-is | else-s-eq1 w ↦ rw (ne_eqb _ 1 w.if-s-eq1.false) (w.sum-is ∙ ne_eqb _ 1 w.if-s-eq1.false) ]

pub loop-v-init : goal.loop-v-init
loop-v-init c =
    let a = c.args in
    let all : a.variables - 0 ≡ a.variables = omega arith in
    rw all (sym (false_xor (exclusive_or a.set (bits a.variables a.assignment))))

pub loop-v-preserved : goal.loop-v-preserved
loop-v-preserved c = one_less _ _ _ _ _ _ c.loop-v.invariant _ c.loop-v-test.true (both c)

pub returns : goal.returns
returns c = none_left _ _ _ _ _ _ c.loop-v.invariant c.loop-v-test.false
