-- `suspect_sets::suspect_in` meets its contract: its two tests are those of the masks of the classes (`Sets`),
-- and what is left is membership. Assumes nothing.
use mathlib.Core.Path.{sym, subst, ◌∙◌}
use mathlib.Core.Bool.{and-false}
use borrow.Author.Tests.{eq-eqb, ne_eqb}
use lib.Bits.{bit_and}
use lib.Dec.{T}
use Rattle.suspect_sets.proofs.Sets.{suspect_masks}
use Rattle.suspect_sets.proofs.suspect_in.Goals as goal
use Rattle.suspect_sets.proofs.suspect_in.Goals.{then-set-classes-eq0, else-set-classes-eq0}

pub returns-then-set-classes-ne0 : goal.returns-then-set-classes-ne0
returns-then-set-classes-ne0 c =
    λ variables by.
    let args = c.args in
    elim c.if-set-classes-eq0.branch [
      | then-set-classes-eq0 w ↦
          rw (
            suspect_masks variables args.set,
            ← by.secrets,
            ← by.masks,
            ← w.value-is,
            c.if-set-classes-ne0.true,
            eq-eqb (bit_and args.set args.classes.masks) 0 w.if-set-classes-eq0.true,
          ) c.holds.ensures
      | else-set-classes-eq0 w ↦
          let masked = ne_eqb (bit_and args.set args.classes.masks) 0 w.if-set-classes-eq0.false in
          absurd (subst T (sym c.if-set-classes-ne0.true ∙ w.value-is ∙ masked) tt)
    ]

pub returns-else-set-classes-ne0 : goal.returns-else-set-classes-ne0
returns-else-set-classes-ne0 c =
    λ variables by.
    let args = c.args in
    elim c.if-set-classes-eq0.branch [
      | then-set-classes-eq0 w ↦
          rw (suspect_masks variables args.set, ← by.secrets, ← by.masks, ← w.value-is, c.if-set-classes-ne0.false)
      | else-set-classes-eq0 w ↦
          let masked = ne_eqb (bit_and args.set args.classes.masks) 0 w.if-set-classes-eq0.false in
          rw (suspect_masks variables args.set, ← by.masks, masked, and-false) (w.value-is ∙ masked)
    ]
