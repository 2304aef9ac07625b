-- Suspect sets by bit masks: a set holds a variable of a class if it meets the mask of the class, by induction
-- on the variables; that mask by one variable more; and what a family reports, by which of its sets are suspect,
-- in the order of report; and whether a node is tested, by its kind. Assumes nothing.
use Prim.Native.Nat.{ℕ, zero, suc, min, ◌+◌, ◌*◌, ◌/◌, ◌%◌, ◌^◌, ◌<◌}
use mathlib.Core.Path.{◌≡◌, refl, sym, ap, ◌∙◌, subst}
use mathlib.Core.Logic.{◌↔◌}
use mathlib.Core.Bool.{Bool, true, false, not, ◌&&◌, ◌||◌, not-not}
use mathlib.Core.List.{List, [], ◌∷◌, ◌++◌, map, map-append}
use mathlib.Core.Option.{Option, none, some}
use native.Mathlib.Nat.{two-pow-succ}
use native.Mathlib.Numerals.{add-one}
use native.Mathlib.Omega.{arith}
use borrow.Author.Tests.{ne_eqb}
use lib.Bits.{bit_and, and_step, and_zero_r}
use lib.Dec.{T, eqb, not_T, eqb-suc-zero}
use lib.ListN.{length, get_or, take, length-map}
use lib.Seq.{take-suc, length-take-le}
use Rattle.rules.specs.Lists.{digit, member}
use Rattle.rules.specs.declared.Node.{Node}
use Rattle.rules.specs.Records as Records
use Rattle.rules.specs.Records.{Class, secret, mask, public, class_byte, Cell, input, kind_of, number, most_sets}
use Rattle.rules.specs.Values.{same}
use Rattle.rules.specs.Families.{Family, holds, suspect, tested, reported}
use Rattle.rules.specs.Slices.{entry}
use Rattle.rule_laws.proofs.Tests.{pass, and_left, and_right, same_test}
use Rattle.rule_laws.proofs.Lists.{digit_small}
use Rattle.rule_laws.proofs.ReportOrder.{NotLater}
use Rattle.rule_laws.proofs.Halves.{reported_none, reported_clear, reported_exactly}
use Rattle.netlists.specs.declared.Netlist.{Netlist}
use Rattle.netlists.specs.Netlists.{blank, flat_of}
use Rattle.netlists.proofs.Netlists.{value_entry}
use Rattle.set_order.specs.Order.{report_order, set_at}
use Rattle.set_order.proofs.Order.{place_of, set_low, set_not_later}
use Rattle.suspect_maps.specs.Maps.{suspect_by, Common}
use Rattle.suspect_sets.specs.declared.Classes.{Classes}
use Rattle.suspect_sets.specs.Sets.{variables_of, ByClass}

-- ---- the mask of a class

-- the last bit of both numbers, and their other bits
and_digit : (b : Bool) (s m : ℕ) → bit_and s (digit b + 2 * m) ≡ bit_and (s / 2) m * 2 + min (s % 2) (digit b)
and_digit b s m =
    let small = digit_small b in
    let half : (digit b + 2 * m) / 2 ≡ m = omega arith in
    let last : (digit b + 2 * m) % 2 ≡ digit b = omega arith in
    rw (and_step s (digit b + 2 * m), half, last)

doubled : (x : ℕ) → eqb x 0 ≡ eqb (x * 2 + 0) 0
doubled zero = refl
doubled (suc x) = eqb-suc-zero x ∙ sym (ne_eqb (suc x * 2 + 0) 0 (λ e. omega arith))

one_bit : (b : Bool) (r x : ℕ) → r < 2 → (eqb r 1 && b || not (eqb x 0)) ≡ not (eqb (x * 2 + min r (digit b)) 0)
one_bit true zero x h = ap not (doubled x)
one_bit false zero x h = ap not (doubled x)
one_bit true (suc zero) x h = sym (ap not (ne_eqb (x * 2 + 1) 0 (λ e. omega arith)))
one_bit false (suc zero) x h = ap not (doubled x)
one_bit b (suc (suc r)) x h = absurd (omega arith)

pub holds_mask : (class : Class) (variables : List Class) (s : ℕ)
    → holds class variables s ≡ not (eqb (bit_and s (variables_of class variables)) 0)
unfolding holds variables_of number
holds_mask class [] s = rw (and_zero_r s)
holds_mask class (c ∷ variables) s =
    rw (holds_mask class variables (s / 2), and_digit (same class c) s (number (map (same class) variables)))
    (one_bit (same class c) (s % 2) (bit_and (s / 2) (number (map (same class) variables))) (omega arith))

-- a set is suspect if it meets the mask of the secrets, and not that of the masks
pub suspect_masks : (variables : List Class) (s : ℕ)
    → suspect variables s ≡ suspect_by (variables_of secret variables) (variables_of mask variables) s
unfolding suspect
suspect_masks variables s = rw (holds_mask secret variables s, holds_mask mask variables s, not-not)

-- ---- the mask by one variable more

number_more : (bs : List Bool) (b : Bool) → number (bs ++ (b ∷ [])) ≡ number bs + digit b * 2 ^ length bs
unfolding number
number_more [] b = omega arith
number_more (a ∷ bs) true = omega (arith, number_more bs true, two-pow-succ (length bs))
number_more (a ∷ bs) false = omega (arith, number_more bs false)

pub variables_more : (class : Class) (variables : List Class) (v : ℕ) → v < length variables
    → variables_of class (take (v + 1) variables) ≡ variables_of class (take v variables) + digit (same class (get_or variables v public)) * 2 ^ v
unfolding variables_of
variables_more class variables v h =
    let first = take v variables in
    let here = get_or variables v public in
    let len : length (map (same class) first) ≡ v = length-map first (same class) ∙ length-take-le v variables (omega arith) in
    rw (add-one v, take-suc variables v public h, map-append (same class) first (here ∷ []), number_more (map (same class) first) (same class here), len)

-- the bytes of two classes are equal if they are the same
pub same_byte : (class other : Class) → eqb (class_byte other) (class_byte class) ≡ same class other
unfolding class_byte same
same_byte secret secret = refl
same_byte secret mask = refl
same_byte secret public = refl
same_byte mask secret = refl
same_byte mask mask = refl
same_byte mask public = refl
same_byte public secret = refl
same_byte public mask = refl
same_byte public public = refl

-- ---- what a family reports

-- both tests cannot pass
refuted : (a b : Bool) → (a && b) ≡ false → T a → T b → ⊥
refuted true true e s t = subst T e tt
refuted true false e s t = t
refuted false b e s t = s

module _ (variables : List Class) where
  -- only membership counts
  pub reported_same : (F G : Family) → ((A : ℕ) → member A F ≡ member A G) → reported variables F ≡ reported variables G
  reported_same F G h = go (reported variables G) refl
    where
      go : (o : Option ℕ) → reported variables G ≡ o → reported variables F ≡ o
      go none e = reported_clear variables F (λ A t. reported_none variables G e A (rw h at t))
      go (some A) e =
          let r = (reported_exactly variables G A).0 e in
          (reported_exactly variables F A).1 record {
            is_suspect = r.is_suspect;
            in_family = rw h r.in_family;
            fewest_variables = λ B t u. r.fewest_variables B (rw h at t) u;
            lowest_number = λ B t u. r.lowest_number B (rw h at t) u;
          }

  -- What a walk through the order of report meets, in a family of ten-bit sets: nothing, or the set that is reported.
  module _ (F : Family) (low : (A : ℕ) → T (member A F) → A < most_sets) where
    pub reported_nothing : ((k : ℕ) → k < most_sets → (suspect variables (set_at k) && member (set_at k) F) ≡ false)
        → reported variables F ≡ none
    reported_nothing passed =
        reported_clear variables F
        (λ A m.
        let (k, l, e) = place_of A (low A m) in
        not_T (suspect variables A) (λ s. refuted (suspect variables A) (member A F) (rw e at (passed k l)) s m))

    pub reported_first : (k : ℕ) → k < most_sets → (suspect variables (set_at k) && member (set_at k) F) ≡ true
        → ((j : ℕ) → j < k → (suspect variables (set_at j) && member (set_at j) F) ≡ false)
        → reported variables F ≡ some (set_at k)
    reported_first k l here passed =
        (reported_exactly variables F (set_at k)).1 record {
          is_suspect = and_left (suspect variables (set_at k)) (member (set_at k) F) (pass here);
          in_family = and_right (suspect variables (set_at k)) (member (set_at k) F) (pass here);
          fewest_variables = λ B m s. (first B m s).fewest;
          lowest_number = λ B m s. (first B m s).lowest;
        }
      where
        first : (B : ℕ) → T (member B F) → T (suspect variables B) → NotLater (set_at k) B
        first B m s =
            let (j, h, e) = place_of B (low B m) in
            let not_passed : j < k → ⊥ = λ b. refuted (suspect variables B) (member B F) (rw e at (passed j b)) s m in
            subst (NotLater (set_at k)) e (set_not_later k j (omega arith) h)

-- where a family has no set in common with the map of the suspect sets, none of its sets is suspect,
-- wherever it is in the order of report
pub none_suspect : (variables : List Class) (classes : Classes) (map F : Family) (met : Bool) → ByClass classes variables
    → ((A : ℕ) → A < most_sets → member A map ≡ suspect_by classes.secrets classes.masks A) → T met ↔ Common map F → met ≡ false
    → (k : ℕ) → k < most_sets → (suspect variables (set_at k) && member (set_at k) F) ≡ false
none_suspect variables classes map F met by mapped meets e k l =
    same_test _ false
    (λ t.
    rw e at (meets.1 (set_at k, rw (mapped (set_at k) (set_low refl l), by.secrets, by.masks, ← (suspect_masks variables (set_at k))) t)))
    absurd

-- what is read at a place of the order is the set there
pub set_there : (set place : ℕ) (order : List ℕ) → set ≡ get_or order place 0 → order ≡ report_order → set ≡ set_at place
unfolding set_at
set_there set place order read e = read ∙ ap (λ (o : List ℕ). get_or o place 0) e

-- whether a node is tested, by its kind
pub tested_there : (value : Netlist) (n : Records.Netlist) → value ≡ flat_of n → (k : ℕ) → k < value.count → {r : Bool}
    → ((cell : Cell) → (get_or value.nodes k blank).kind ≡ kind_of cell → r ≡ tested cell) → r ≡ tested (get_or n.nodes k (input 0))
unfolding entry
tested_there value n e k h is = is (get_or n.nodes k (input 0)) (ap (λ (node : Node). node.kind) (value_entry n e k h))
