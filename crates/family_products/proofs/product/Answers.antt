-- `family_products::product` meets its contract. The loop's invariant: the part has the product of the sets passed
-- with the second family, all else is as it was after emptying, and the pairs counted are those of the rows passed.
-- The lists of both families are theirs (`front_listed`). Assumes nothing.
use Prim.Native.Nat.{ℕ, ◌+◌, ◌-◌, ◌*◌, ◌^◌, ◌<◌, ◌≤◌}
use mathlib.Core.Path.{◌≡◌, sym, ap₂, ◌∙◌}
use mathlib.Core.List.{List, [], ◌++◌, map}
use mathlib.Core.Logic.{◌⊎◌, inl, inr}
use native.Mathlib.Nat.{suc-mul, mul-le-mul, add-sub_of_le}
use native.Mathlib.Numerals.{add-one}
use native.Mathlib.Omega.{arith}
use lib.Bits.{bit_xor}
use lib.ListN.{length, get_or, take, drop, replicate, length-replicate, get_or-replicate, get_or-append, get_or-eq_default}
use lib.Seq.{take-suc, length-take-le, get_or-take, get_or-drop, get_or-append-add}
use Rattle.rules.specs.Records.{most_sets}
use Rattle.rules.specs.Lists.{union}
use Rattle.rules.specs.Families.{Family, product}
use Rattle.rule_laws.proofs.Lists.{member_union, member_shift}
use Rattle.rule_laws.proofs.Tests.{lt_or_le}
use Rattle.families.specs.Parts.{HasPart, family_at, with_family}
use Rattle.families.specs.Present.{reversed, list_at, Sets}
use Rattle.families.proofs.Parts.{length_at, with_same, with_twice, with_more}
use Rattle.families.proofs.Present.{reversed_last, reversed_twice, member_reversed, front_listed, listed_sets}
use Rattle.family_products.proofs.product.Invariants.{partial}
use Rattle.family_products.proofs.product.Goals as goal

-- there are few pairs
few-pairs : (i columns : ℕ) → i ≤ most_sets → columns ≤ most_sets → i * columns ≤ most_sets * most_sets
few-pairs i columns r c = mul-le-mul r c

-- a part that was emptied has the product of no sets
begins : (work emptied : List ℕ) (into : ℕ) (sets : List ℕ) (G : Family) → HasPart work into → emptied ≡ with_family work into []
    → emptied ≡ partial emptied into sets G 0
unfolding reversed product
begins work emptied into sets G has e = rw e (sym (with_twice work into [] [] has))

-- a row takes the product one set on
row : (start work next : List ℕ) (into : ℕ) (sets others : List ℕ) (i : ℕ) → HasPart start into → i < length sets
    → work ≡ partial start into sets (reversed others) i
    → next ≡ with_family work into (union (map (bit_xor (get_or sets i 0)) others) (family_at work into))
    → next ≡ partial start into sets (reversed others) (i + 1)
unfolding product
row start work next into sets others i has h e n =
    n
    ∙ rw e (with_more start into so_far (map (bit_xor A) others) has)
    ∙ with_same start into (union (map (bit_xor A) others) so_far) (union (map (bit_xor A) (reversed others)) so_far)
    (λ B l. rw (member_union B (map (bit_xor A) others) so_far, member_union, member_shift A B others, member_shift, member_reversed))
    ∙ rw (add-one i, take-suc sets i 0 h, reversed_last (take i sets) A)
  where
    A : ℕ
    A = get_or sets i 0

    so_far : Family
    so_far = product (reversed (take i sets)) (reversed others)

-- after the last row all sets were taken, and what was listed are both families
ends : (work emptied after : List ℕ) (into : ℕ) (sets others : List ℕ) (F G : Family) (rows columns : ℕ) → HasPart work into
    → take rows sets ≡ reversed F → take columns others ≡ reversed G → emptied ≡ with_family work into []
    → after ≡ partial emptied into sets (reversed (take columns others)) rows
    → after ≡ with_family work into (product F G)
ends work emptied after into sets others F G rows columns has f g e a =
    a ∙ rw (f, g, reversed_twice F, reversed_twice G, e) (with_twice work into [] (product F G) has)

-- a list of a family's sets has at most 1,024
few : (n : ℕ) (work : List ℕ) (part : ℕ) → n ≡ length (family_at work part) → n ≤ most_sets
few n work part e = rw e (length_at _ _)

pub loop-i-init : goal.loop-i-init
loop-i-init c = record {
  tried = omega arith;
  made =
      begins c.args.work.now c.make_empty.new.work c.args.into c.list_sets-rows.new.sets
      (reversed (take c.list_sets-columns.result c.list_sets-columns.new.sets)) c.requires.0 c.make_empty.ensures;
}

pub offset_bounds-sets-i : goal.offset_bounds-sets-i
offset_bounds-sets-i c = omega (arith, few _ _ _ c.list_sets-rows.ensures.count)

pub bounds-sets-i : goal.bounds-sets-i
bounds-sets-i c = omega (arith, few _ _ _ c.list_sets-rows.ensures.count)

pub slice_bounds-others-end : goal.slice_bounds-others-end
slice_bounds-others-end c = omega (arith, few _ _ _ c.list_sets-columns.ensures.count, few _ _ _ c.list_sets-rows.ensures.count)

pub slice_bounds-try_row-end : goal.slice_bounds-try_row-end
slice_bounds-try_row-end c =
    sym (length-take-le _ _ (omega (arith, few _ _ _ c.list_sets-columns.ensures.count, few _ _ _ c.list_sets-rows.ensures.count)))

-- what is listed in an array of zeros are sets, and so is what any front of it has
front_sets : (bytes : List ℕ) (part : ℕ) (slice rest : List ℕ) → slice ≡ list_at bytes part ++ rest → Sets rest → Sets slice
unfolding list_at
front_sets bytes part slice rest front others i = rw front (go (lt_or_le i (length (list_at bytes part))))
  where
    go : (i < length (list_at bytes part)) ⊎ (length (list_at bytes part) ≤ i) → get_or (list_at bytes part ++ rest) i 0 < most_sets
    go (inl h) = rw (get_or-append (list_at bytes part) rest 0 i h) (listed_sets bytes part i)
    go (inr h) = rw (← (add-sub_of_le h), get_or-append-add (list_at bytes part) rest (i - length (list_at bytes part)) 0) (others _)

zeros_sets : (n k : ℕ) → Sets (drop k (replicate n 0))
zeros_sets n k i = rw (get_or-drop {A = ℕ} k (replicate n 0) i 0) (go (lt_or_le (k + i) n))
  where
    go : (k + i < n) ⊎ (n ≤ k + i) → get_or (replicate n 0) (k + i) 0 < most_sets
    go (inl h) = rw (get_or-replicate {A = ℕ} n (k + i) 0 0 h) (omega arith)
    go (inr h) =
        let beyond : length (replicate {A = ℕ} n 0) ≤ k + i = omega (arith, length-replicate {A = ℕ} n 0) in
        rw (get_or-eq_default {A = ℕ} (replicate n 0) 0 beyond) (omega arith)

taken : (k : ℕ) (xs : List ℕ) → k ≤ length xs → Sets xs → Sets (take k xs)
taken k xs h s i = go (lt_or_le i k)
  where
    go : (i < k) ⊎ (k ≤ i) → get_or (take k xs) i 0 < most_sets
    go (inl l) = rw (get_or-take k xs i 0 l) (s i)
    go (inr l) =
        let beyond : length (take k xs) ≤ i = omega (arith, length-take-le k xs h) in
        rw (get_or-eq_default {A = ℕ} (take k xs) 0 beyond) (omega arith)

-- a row more is counted
counted : (pairs k : ℕ) (xs : List ℕ) → pairs ≤ most_sets * most_sets → k ≤ length xs → k ≤ most_sets → pairs + length (take k xs) ≤ 2 ^ 32
counted pairs k xs p h l = omega (arith, length-take-le k xs h)

pub try_row-pairs-requires : goal.try_row-pairs-requires
try_row-pairs-requires c =
    let first = c.list_sets-rows in
    let second = c.list_sets-columns in
    let i = c.loop-i.i in
    let rows = few _ _ _ first.ensures.count in
    let columns = few _ _ _ second.ensures.count in
    let pairs : c.loop-i.pairs ≤ most_sets * most_sets = omega (arith, few-pairs i second.result (omega (arith, rows)) columns) in (
      omega (arith, c.requires.0),
      front_sets _ c.args.first _ _ first.ensures.sets (zeros_sets 1024 first.result) i,
      taken _ _ (omega (arith, rows, columns)) (front_sets _ c.args.second _ _ second.ensures.sets (zeros_sets 1024 second.result)),
      counted _ _ _ pairs (omega (arith, rows, columns)) (omega (arith, rows, columns)),
    )

pub loop-i-preserved : goal.loop-i-preserved
loop-i-preserved c =
    let i = c.loop-i.i in
    let rows = c.list_sets-rows in
    let columns = c.list_sets-columns in
    let long = length-take-le columns.result columns.new.sets (omega (arith, few _ _ _ columns.ensures.count)) in
    record {
      tried = rw (add-one i, suc-mul i columns.result) (c.try_row-pairs.ensures.tried ∙ ap₂ ◌+◌ c.loop-i.invariant.tried long);
      made =
          row c.make_empty.new.work c.loop-i.work c.try_row-pairs.new.work c.args.into rows.new.sets
          (take columns.result columns.new.sets) i (omega (arith, c.requires.0)) (omega (arith, few _ _ _ rows.ensures.count)) c.loop-i.invariant.made
          c.try_row-pairs.ensures.made;
    }

pub returns : goal.returns
returns c =
    let first = c.list_sets-rows in
    let second = c.list_sets-columns in
    let all : c.loop-i.i ≡ first.result = omega arith in
    record {
      made =
          ends c.args.work.now c.make_empty.new.work c.loop-i.work c.args.into _ _
          (family_at c.args.work.now c.args.first) (family_at c.args.work.now c.args.second) first.result second.result c.requires.0
          (front_listed c.args.work.now c.args.first _ _ _ first.ensures.sets first.ensures.count)
          (front_listed c.args.work.now c.args.second _ _ _ second.ensures.sets second.ensures.count) c.make_empty.ensures
          (rw all at c.loop-i.invariant.made);
      tried = rw all at c.loop-i.invariant.tried ∙ ap₂ ◌*◌ first.ensures.count second.ensures.count;
    }
