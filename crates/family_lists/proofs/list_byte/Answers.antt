-- `family_lists::list_byte` meets its contract. The loop's invariant: those of the sets up to the bits passed are
-- listed. Assumes nothing.
use Prim.Native.Nat.{◌+◌}
use mathlib.Core.Path.{◌≡◌, sym, ◌∙◌}
use native.Mathlib.Nat.{add-zero}
use native.Mathlib.Omega.{arith}
use borrow.Author.Tests.{eq-eqb, ne_eqb}
use Rattle.families.proofs.Present.{listed_one, listed_none}
use Rattle.family_lists.proofs.list_byte.Goals as goal
use Rattle.family_lists.proofs.list_byte.Goals.{else-byte-k-eq1, then-byte-k-eq1}

pub loop-k-init : goal.loop-k-init
loop-k-init c = record { few = omega arith; sets = λ bytes start part bits so_far. rw (add-zero c.args.low) so_far }

pub loop-k-preserved : goal.loop-k-preserved
loop-k-preserved c =
    let so_far = c.loop-k.invariant.sets in
    let k = c.loop-k.k in
    let low = c.args.low in
    let next : low + (k + 1) ≡ low + k + 1 = omega arith in
    elim c.if-byte-k-eq1.branch [
      | then-byte-k-eq1 w ↦ rw (w.sets-is, w.at-is, next) record {
        few = omega arith;
        sets =
            λ bytes start part bits before.
            listed_one bytes part (low + k) start _ _ (so_far bytes start part bits before) (sym (bits k (omega arith)) ∙ eq-eqb _ 1 w.if-byte-k-eq1.true) (omega arith);
      }
      | else-byte-k-eq1 w ↦ rw (w.sets-is, w.at-is, next) record {
        few = omega arith;
        sets =
            λ bytes start part bits before.
            listed_none bytes part (low + k) start _ _ (so_far bytes start part bits before) (sym (bits k (omega arith)) ∙ ne_eqb _ 1 w.if-byte-k-eq1.false);
      }
    ]

pub returns-clause-sets : goal.returns-clause-sets
returns-clause-sets c = let all : c.loop-k.k ≡ 8 = omega arith in rw all at c.loop-k.invariant.sets
