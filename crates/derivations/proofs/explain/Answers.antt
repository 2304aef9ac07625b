-- `explain` meets its contract: the node and the set are judged, the set is looked up, its steps are written
-- and counted. Assumes nothing.
use Prim.Native.Nat.{ℕ, ◌<◌}
use mathlib.Core.Path.{◌≡◌, refl, sym, subst, ◌∙◌}
use mathlib.Core.Bool.{true}
use mathlib.Core.List.{List}
use Rattle.std.specs.Prelude.{Option, None, Some, Ok, Err}
use Rattle.std.specs.Option.{ok_or}
use Rattle.std.proofs.lemmas.Result.{err_from_is_err_and}
use Rattle.rules.specs.declared.Reason.TheVariants.{TooManySteps}
use Rattle.rules.specs.declared.Refusal.{Refusal}
use Rattle.rules.specs.Records as R
use Rattle.rules.specs.Records.{most_sets}
use Rattle.rule_laws.proofs.Records.{passes}
use Rattle.netlists.specs.Netlists.{flat_of}
use Rattle.query_netlists.proofs.Asking.{has_node, has_number}
use Rattle.derivation_rules.specs.Derivations as D
use Rattle.derivation_rules.specs.Derivations.{claim, derivation, derived, explainable, in_family, layer_of}
use Rattle.derivation_steps.specs.Meaning.{layer_meant, claim_of}
use Rattle.derivation_steps.specs.declared.Claim.{Claim}
use Rattle.derivations.specs.Written.{Written, derivable_in, Told}
use Rattle.derivations.proofs.Known.{claim_held}
use Rattle.derivations.proofs.Told.{judged_refused, judged_passed, not_in_family, too_many, they_fit, told_refused, told_steps, over_all, count_all, bytes_all}
use Rattle.derivations.proofs.explain.Goals as goal
use Rattle.derivations.proofs.explain.Goals.{In_ok-judge, In_ok-claim}

-- what `ok_or` makes of a value, or of none
no_value : {A : Type 0} (o : Option A) {e d : Refusal} → Err d ≡ ok_or o e → (o ≡ None) × (d ≡ e)
no_value None is = (refl, cc)
no_value (Some a) is = absurd (cc)

some_value : {A : Type 0} (o : Option A) (e : Refusal) {a : A} → Ok a ≡ ok_or o e → o ≡ Some a
some_value None e is = absurd (cc)
some_value (Some b) e is = cc

pub returns-in_err-judge : goal.returns-in_err-judge
returns-in_err-judge c n e =
    let p = err_from_is_err_and c.from_residual.result c.from_residual.ensures.1 in
    rw (p.1, p.2) (told_refused _ _ _ _ _ _ _ (judged_refused _ _ _ _ _ _ _ (c.in_err-judge.ensures n e)))

-- the netlist has the node, and the set is one that there may be
there : (c : In_ok-judge) → let a = c.args in (a.node < a.netlist.count) × (a.set < most_sets)
there c =
    let known = c.requires.0 in
    let n = known.formed.netlist in
    let pass = passes _ _ _ (sym (c.in_ok-judge.ensures n known.formed.is)) in
    (has_node known.formed n known.formed.is _ (pass 0), has_number known.formed n known.formed.is _ (pass 1))

pub in_family-requires : goal.in_family-requires
in_family-requires c = let (node, set) = there c in (c.requires.0, node, set)

pub returns-in_err-claim : goal.returns-in_err-claim
returns-in_err-claim c n e =
    let p = err_from_is_err_and c.from_residual-in_err-claim.result c.from_residual-in_err-claim.ensures.1 in
    let (none, is) = no_value _ c.in_err-claim.ensures.value in
    rw (p.1, p.2, is, c.at.ensures)
    (told_refused _ _ _ _ _ _ _
    (judged_passed _ _ _ _ _ (c.in_ok-judge.ensures n e) ∙ not_in_family _ _ _ _ _ (rw none at (c.in_family.ensures n e))))

-- the claim that is found is of a set in the family
found : (c : In_ok-claim) (n : R.Netlist) → let a = c.args in
    a.netlist ≡ flat_of n → (in_family n a.node a.layer a.set ≡ true) × (claim_of c.in_ok-claim.claim ≡ claim a.node (layer_of a.layer) a.set)
found c n e = rw (some_value _ _ c.in_ok-claim.ensures.value) at (c.in_family.ensures n e)

pub explain_cell-requires : goal.explain_cell-requires
explain_cell-requires c =
    let at = goal.at.explain_cell-requires c in
    let (known, long, few) = c.requires in
    let (holds, is) = found at.In_ok-claim known.formed.netlist known.formed.is in
    (known, claim_held known _ _ _ _ is (there at.In_ok-judge).0 holds, long, few)

module _ {before after : List ℕ} {room : ℕ} {next : Option ℕ} (n : R.Netlist) (i k A : ℕ) where
  -- what is written of a claim, said of its node, layer and set
  of_claim : (c : Claim) → claim_of c ≡ claim i (layer_of k) A
      → Written before after 0 room next (derivation n c.node (layer_meant c.layer) c.set) → Written before after 0 room next (derived n i k A)
  unfolding derived
  of_claim c is w = subst (λ (d : D.Claim). Written before after 0 room next (derivation n d.node d.layer d.set)) is w

  -- steps that stand from the front on, or do not fit
  told_written : (refusal : Refusal) → refusal ≡ record { reason = TooManySteps; place = room }
      → derivable_in n i k A room ≡ explainable i k A room n → in_family n i k A ≡ true
      → Written before after 0 room next (derived n i k A) → Told (derivable_in n i k A room) i k A room (ok_or next refusal) after
  told_written refusal e passed holds w = go next w
    where
      go : (next : Option ℕ) → Written before after 0 room next (derived n i k A) → Told (derivable_in n i k A room) i k A room (ok_or next refusal) after
      go None w = rw e (told_refused _ _ _ _ _ _ _ (passed ∙ too_many _ _ _ _ _ holds (over_all w refl)))
      go (Some count) w =
          let (fits, same) = count_all w count refl in
          rw (← same) (told_steps _ _ _ _ _ _ n (passed ∙ they_fit _ _ _ _ _ holds fits) fits (bytes_all w fits))

pub returns : goal.returns
returns c n e =
    let at = goal.at.returns c in
    let (holds, is) = found at.In_ok-claim n e in
    rw c.ok_or-2.ensures.value
    (told_written n _ _ _ _ c.at-2.ensures (judged_passed _ _ _ _ _ (c.in_ok-judge.ensures n e)) holds
    (of_claim n _ _ _ _ is (c.explain_cell.ensures n e)))
