-- The way to a query's reply: rows of checks behind a file that was read, what is given where a query is refused and
-- where it stands, and what is known of the netlist, the node and the number of a query that stands. Assumes nothing.
use Rattle.std.specs.Prelude.{Ok, Err}
use Prim.Native.Nat.{ℕ, ◌^◌, ◌≤◌, ◌<◌}
use mathlib.Core.Path.{◌≡◌, refl, ap}
use mathlib.Core.Bool.{true, false}
use mathlib.Core.List.{List, [], ◌∷◌}
use native.Mathlib.Omega.{arith}
use borrow.Author.Tests.{leb-false}
use lib.ListN.{length, get_or}
use lib.Pow.{pow_mono}
use Rattle.rules.specs.Records.{Netlist, most_variables, most_sets}
use Rattle.rules.specs.Checks.{Outcome, answered, refused, and_then, Check, check, judged, undeclared, read, node_check, number_check, queried, queried_with}
use Rattle.rules.specs.Queries.{given}
use Rattle.rules.specs.Paper.{number_of, place_of, query_of}
use Rattle.rules.specs.declared.Refusal.{Refusal}
use Rattle.rule_laws.proofs.Records.{condition, passes, answer}
use Rattle.netlists.specs.declared.Netlist.{Netlist as Flat}
use Rattle.netlists.specs.Netlists.{flat_of, Formed}
use Rattle.netlists.proofs.Netlists.{value_variables, value_count, few_variables}
use Rattle.read_bytes.specs.Reading.{Reads}
use Rattle.read_bytes.proofs.Files.{Stands, read_stands, read_refused, stands_read as read_standing, refused_read, read_formed}

-- ---- rows behind a file

-- rows refuse with the same number and place whatever the answer is
pub rows_refuse : {A : Type 0} (rows : List Check) (a : A) (k p : ℕ) → ◌≡◌ {A = Outcome (Unit {0})} (refused k p) (judged rows tt) → judged rows a ≡ refused k p
unfolding judged
rows_refuse [] a k p e = cc
rows_refuse (check j true q ∷ rows) a k p e = cc
rows_refuse (check j false q ∷ rows) a k p e = rows_refuse rows a k p e

-- and pass it
pub rows_pass : {A : Type 0} (rows : List Check) (a : A) → ◌≡◌ {A = Outcome (Unit {0})} (answered tt) (judged rows tt) → judged rows a ≡ answered a
unfolding judged
rows_pass [] a e = refl
rows_pass (check j true q ∷ rows) a e = cc
rows_pass (check j false q ∷ rows) a e = rows_pass rows a e

-- an outcome with rows behind it
abbrev checked : Outcome Netlist → (Netlist → List Check) → Outcome Netlist
checked o rows = and_then o (λ n. judged (rows n) n)

-- what is refused stays refused, and what stands and passes the rows stands
module _ (o : Outcome Netlist) (rows : Netlist → List Check) where
  pub stays_refused : {r : Refusal} → Reads (Err r) o → Reads (Err r) (checked o rows)
  unfolding and_then
  stays_refused reads = let e = read_refused o reads in refused_read (rw e)

  passed : (n : Netlist) → o ≡ answered n → judged (rows n) n ≡ answered n → checked o rows ≡ answered n
  unfolding and_then
  passed n is e = rw is e

module _ {value : Flat} (o : Outcome Netlist) (rows : Netlist → List Check) where
  -- of what was read, the rows refuse it or pass it
  pub row_refuses : {r : Refusal} → Reads (Ok value) o
      → ((n : Netlist) → value ≡ flat_of n → ◌≡◌ {A = Outcome (Unit {0})} (refused (number_of r) (place_of r)) (judged (rows n) tt)) → Reads (Err r) (checked o rows)
  unfolding and_then
  row_refuses reads says =
      let s = read_stands o reads in refused_read (rw s.is (rows_refuse (rows s.netlist) s.netlist _ _ (says s.netlist s.value)))

  pub rows_passed : Reads (Ok value) o → ((n : Netlist) → value ≡ flat_of n → ◌≡◌ {A = Outcome (Unit {0})} (answered tt) (judged (rows n) tt))
      → Reads (Ok value) (checked o rows)
  unfolding and_then
  rows_passed reads says =
      let s = read_stands o reads in
      read_standing (record { netlist = s.netlist; is = passed o rows s.netlist s.is (rows_pass (rows s.netlist) s.netlist (says s.netlist s.value)); value = s.value })

  -- what stands behind the rows stood before them, and none of them refuses it
  module _ (s : Stands value (checked o rows)) where
    through : (q : Outcome Netlist) → checked q rows ≡ answered s.netlist
        → (q ≡ answered s.netlist) × ((i : ℕ) → condition (get_or (rows s.netlist) i (check 0 false 0)) ≡ false)
    unfolding and_then
    through (answered n) e = let same = answer (rows n) n _ e in (ap answered same, rw (← same) (passes (rows n) n _ e))
    through (refused k p) e = (cc, λ i. cc)

    stood : Stands value o
    stood = record { netlist = s.netlist; is = (through o s.is).0; value = s.value }

    not_refused : (i : ℕ) → condition (get_or (rows s.netlist) i (check 0 false 0)) ≡ false
    not_refused = (through o s.is).1

-- ---- what is given

module _ {A : Type 0} (instead : A) (f : Netlist → A) (end : Outcome Netlist) where
  pub given_refused : {r : Refusal} → Reads (Err r) end → record { outcome = query_of (Err r); gives = instead } ≡ given instead f end
  unfolding given
  given_refused reads = let e = read_refused end reads in rw e

  pub given_answered : {value : Flat} (s : Stands value end) (v : A) → v ≡ f s.netlist
      → record { outcome = query_of (Ok tt); gives = v } ≡ given instead f end
  unfolding given
  given_answered s v e = rw (s.is, e)

-- ---- a netlist that passes

module _ {value : Flat} (f : Formed value) (n : Netlist) (is : value ≡ flat_of n) where
  -- it has the node
  pub has_node : (i : ℕ) → condition (node_check i n) ≡ false → i < value.count
  unfolding node_check
  has_node i h = let there : i < length n.nodes = leb-false _ _ h in omega (arith, value_count n is)

  -- and the number is a set's
  pub has_number : (x : ℕ) → condition (number_check x n) ≡ false → x < most_sets
  unfolding number_check undeclared
  has_number x h =
      let low : x < 2 ^ length n.variables = leb-false _ _ h in
      let few : length n.variables ≤ most_variables = omega (arith, few_variables f, value_variables n is) in
      let most : 2 ^ length n.variables ≤ 2 ^ most_variables = pow_mono few in
      omega arith

-- ---- a query that stands

module _ (bytes : List ℕ) (i : ℕ) {value : Flat} where
  -- what is asked of a node: a netlist that obeys the record rules, and has that node
  module _ (s : Stands value (queried bytes i)) where
    pub stands_formed : Formed value
    unfolding queried
    stands_formed = read_formed bytes (stood (read bytes) (λ n. node_check i n ∷ []) s)

    pub stands_node : i < value.count
    unfolding queried
    stands_node = has_node stands_formed s.netlist s.value i (not_refused (read bytes) (λ n. node_check i n ∷ []) s 0)

  -- and with a number: the same, and a set's number
  module _ (x : ℕ) (s : Stands value (queried_with bytes i x)) where
    abbrev rows : Netlist → List Check
    rows n = node_check i n ∷ number_check x n ∷ []

    all_pass : (k : ℕ) → condition (get_or (rows s.netlist) k (check 0 false 0)) ≡ false
    unfolding queried_with
    all_pass = not_refused (read bytes) rows s

    pub stands_read : read bytes ≡ answered s.netlist
    unfolding queried_with stood
    stands_read = (stood (read bytes) rows s).is

    pub stands_with : Stands value (queried bytes i)
    unfolding queried and_then judged node_check
    stands_with = record { netlist = s.netlist; is = rw (stands_read, all_pass 0); value = s.value }

    pub stands_number : x < most_sets
    stands_number = has_number (stands_formed stands_with) s.netlist s.value x (all_pass 1)
