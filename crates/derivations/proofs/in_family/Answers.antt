-- `in_family` meets its contract: the bytes are looked at in one of the two layers only. Assumes nothing.
use Rattle.std.proofs.Common.{◌≡◌, Bool, true, false, Option, MatchOption, refl, ap, ◌∙◌, arith}
use Rattle.std.specs.Bool.{then_some}
use borrow.Author.Tests.{lt-ltb, le-ltb}
use Rattle.netlists.proofs.Netlists.{few_nodes}
use Rattle.derivation_rules.specs.Derivations as D
use Rattle.derivation_rules.specs.Derivations.{claim, in_family}
use Rattle.derivation_steps.specs.Meaning.{claim_of}
use Rattle.derivation_steps.proofs.Claims.{layer_read}
use Rattle.derivation_steps.specs.declared.Claim.{Claim}
use Rattle.derivations.proofs.Known.{by_bytes}
use Rattle.derivations.proofs.in_family.Goals as goal

-- a claim that is kept where a test passes
kept : {found : Option Claim} {told test : Bool} (c : Claim) {d : D.Claim} → found ≡ then_some told c → told ≡ test → claim_of c ≡ d
    → MatchOption found (test ≡ false) (λ found. (test ≡ true) × (claim_of found ≡ d))
kept {found} {told} {test} c {d} e same is = rw (e, ← same) (go told)
  where
    go : (b : Bool) → MatchOption (then_some b c) (b ≡ false) (λ found. (b ≡ true) × (claim_of found ≡ d))
    go true = (refl, is)
    go false = refl

pub returns-in_default : goal.returns-in_default
unfolding in_family
returns-in_default c = λ n e. rw (le-ltb _ _ c.in_default.ensures)

pub has-requires : goal.has-requires
has-requires c =
    let (known, there, small) = c.requires in
    (omega (arith, known.size), omega (arith, few_nodes known.formed), small)

pub returns : goal.returns
unfolding in_family
returns c =
    let (known, there, _) = c.requires in
    let a = c.args in
    let (low, same) = layer_read _ _ c.in-Ok.ensures in
    λ n e.
    kept _ c.then_some.ensures (rw (lt-ltb _ _ low, ← same) (c.has.ensures ∙ by_bytes known _ there n e))
    (ap (λ (ℓ : D.Layer). claim a.node ℓ a.set) same)
