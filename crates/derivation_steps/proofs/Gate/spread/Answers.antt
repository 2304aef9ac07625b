-- `spread` meets its contract: the rules are tried one after the other. Assumes nothing.
use Rattle.std.proofs.Common.{ℕ, ◌≡◌, false, [], ◌∷◌}
use borrow.Author.Tests.{eq-eqb, ne_eqb}
use Rattle.rules.specs.Lists.{member}
use Rattle.derivation_rules.specs.Derivations.{picked, claimed, product_of, needed, first_made}
use Rattle.derivation_steps.proofs.Claims.{claim_known}
use Rattle.derivation_steps.proofs.Gate.spread.Goals as goal

-- a set that is not empty is none of the sets that are made of no operand's
no_empty : {A : ℕ} → (A ≡ 0 → ⊥) → member A (0 ∷ []) ≡ false
unfolding member
no_empty h = rw (ne_eqb _ _ h)

pub returns-then-self-eq0 : goal.returns-then-self-eq0
unfolding member picked claimed product_of needed first_made
returns-then-self-eq0 c = rw (eq-eqb _ _ c.if-self-eq0.true)

pub returns-then-has : goal.returns-then-has
unfolding picked product_of needed first_made
returns-then-has c =
    let first = claim_known _ c.has.ensures c.of_first-first.ensures c.if-has.true in
    rw (no_empty c.if-self-eq0.false, first, c.of_first-first.ensures)

pub returns-then-has-2 : goal.returns-then-has-2
unfolding picked product_of needed first_made
returns-then-has-2 c =
    let first = claim_known _ c.has.ensures c.of_first-first.ensures c.if-has.false in
    let second = claim_known _ c.has-else-has.ensures c.of_second-second.ensures c.if-has-2.true in
    rw (no_empty c.if-self-eq0.false, first, second, c.of_second-second.ensures)

pub returns-else-has-2 : goal.returns-else-has-2
unfolding picked product_of first_made
returns-else-has-2 c =
    let first = claim_known _ c.has.ensures c.of_first-first.ensures c.if-has.false in
    let second = claim_known _ c.has-else-has.ensures c.of_second-second.ensures c.if-has-2.false in
    rw (no_empty c.if-self-eq0.false, first, second) c.both.ensures
