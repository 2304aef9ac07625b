-- `records::not_below` meets its contract. Assumes nothing.
use Prim.Native.Nat.{ℕ, suc, zero, ◌<◌}
use mathlib.Core.Path.{◌≡◌, refl, sym}
use mathlib.Core.Bool.{Bool, true, false, ◌||◌}
use mathlib.Core.List.{List, [], ◌∷◌}
use native.Mathlib.Omega.{arith}
use borrow.Author.Tests.{le-leb, lt-leb}
use lib.Dec.{leb}
use lib.ListN.{get_or}
use Rattle.rules.specs.Records.{listed, first_of}
use Rattle.rules.specs.Checks.{not_below}
use Rattle.records.proofs.not_below.Goals as goal

later : (b : Bool) {t : Bool} → t ≡ true → (b || t) ≡ true
later true e = refl
later false e = e

-- one that fails it is enough
one-fails : (own k : ℕ) (l : List ℕ) (j : ℕ) → j < k → leb own (get_or l j 0) ≡ true → not_below own (listed k (first_of k l)) ≡ true
unfolding not_below listed first_of
one-fails own zero l j h e = absurd (omega arith)
one-fails own (suc k) [] zero h e = rw e
one-fails own (suc k) (x ∷ l) zero h e = rw e
one-fails own (suc k) [] (suc j) h e = later (leb own 0) (one-fails own k [] j (omega arith) e)
one-fails own (suc k) (x ∷ l) (suc j) h e = later (leb own x) (one-fails own k l j (omega arith) e)

-- and none fails it where each passes
none-fails : (own k : ℕ) (l : List ℕ) → ((j : ℕ) → j < k → leb own (get_or l j 0) ≡ false) → not_below own (listed k (first_of k l)) ≡ false
unfolding not_below listed first_of
none-fails own zero l h = refl
none-fails own (suc k) [] h = rw (h 0 (omega arith)) (none-fails own k [] (λ j g. h (suc j) (omega arith)))
none-fails own (suc k) (x ∷ l) h = rw (h 0 (omega arith)) (none-fails own k l (λ j g. h (suc j) (omega arith)))

pub returns-then-nodes-body : goal.returns-then-nodes-body
returns-then-nodes-body c =
    let a = c.args in
    sym (one-fails a.nodes a.count a.body c.loop-j.j (omega arith) (le-leb a.nodes (get_or a.body c.loop-j.j 0) c.if-nodes-body.true))

pub returns : goal.returns
returns c =
    let a = c.args in
    sym (none-fails a.nodes a.count a.body (λ j h. lt-leb a.nodes (get_or a.body j 0) (c.loop-j.invariant j (omega arith))))
