-- `edit_parts::uses` meets its contract: the operands that are looked at are the node's, and the test is that one of
-- them is node i. Assumes nothing.
use Prim.Native.Nat.{ℕ}
use mathlib.Core.Path.{◌≡◌, refl, sym, ap₂, ◌∙◌}
use mathlib.Core.Bool.{◌||◌}
use mathlib.Core.List.{List, [], ◌∷◌}
use lib.Dec.{eqb}
use lib.ListN.{length, take}
use lib.Seq.{take_at}
use Rattle.std.specs.List.{list_any}
use Rattle.std.proofs.Math.Facts.{eqb_yes, yes_eqb}
use Rattle.rules.specs.Lists.{member}
use Rattle.rules.specs.Records.{operands, most_body}
use Rattle.rule_laws.proofs.Tests.{same_test}
use Rattle.netlists.specs.Netlists.{padded}
use Rattle.edit_rules.specs.Edits.{uses}
use Rattle.edit_parts.proofs.uses.Goals as goal

any_member : (i : ℕ) (xs : List ℕ) → list_any (λ a. eqb a i) xs ≡ member i xs
unfolding member
any_member i [] = refl
any_member i (x ∷ xs) = ap₂ (λ a b. a || b) (same_test (eqb x i) (eqb i x) (λ t. yes_eqb (sym (eqb_yes t))) (λ t. yes_eqb (sym (eqb_yes t)))) (any_member i xs)

own : (xs : List ℕ) → take (length xs) (padded most_body 0 xs) ≡ xs
unfolding padded
own xs = take_at xs _ (length xs) refl

pub returns : goal.returns
unfolding uses
returns c cell e =
    let is = c.operands_of-operands.ensures.count_value cell e in
    rw (is.0, is.1, own (operands cell)) at c.is_among.ensures ∙ any_member c.args.i (operands cell)
