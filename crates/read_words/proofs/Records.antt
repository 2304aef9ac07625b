-- What stands behind a record's word, as the functions test it: how many numbers there are, and what each is.
-- Assumes nothing.
use Prim.Native.Nat.{ℕ, zero, suc, ◌+◌, ◌*◌, ◌/◌, ◌%◌, ◌^◌, ◌≤◌, ◌<◌}
use mathlib.Core.Path.{◌≡◌, refl, sym, ap, ◌∙◌}
use mathlib.Core.Bool.{true, false, cond, ◌||◌}
use mathlib.Core.List.{List, [], ◌∷◌, map, map-append}
use native.Mathlib.Nat.{one-mul, mod-eq_of_lt, div-one, div-div-eq-div-mul, pow-succ', two-pow-succ}
use native.Mathlib.Numerals.{add-one}
use native.Mathlib.Omega.{arith}
use borrow.Author.Tests.{eq-eqb, ne_eqb, le-leb, lt-leb, lt-ltb, le-ltb}
use lib.Dec.{leb}
use lib.ListN.{length, get_or, take, drop, set, length-map, drop_of_length-le, get_or-eq_default}
use lib.Pow.{pow-lt}
use lib.Seq.{drop-cons, take-suc, take_all, take_at, length-take-le}
use Rattle.rules.specs.Records.{Kind, kind_number, operand_count, listed, first_of, gate, input, Record, node, odd, kind_of, body, record_bytes, size, most_record}
use Rattle.rules.specs.Checks.{not_below}
use Rattle.rule_laws.proofs.Operands.{listed_first}
use Rattle.rule_laws.proofs.Records.{size_most}
use Rattle.netlists.specs.Netlists.{padded}
use Rattle.netlists.proofs.Netlists.{padded_set}
use Rattle.scanner.specs.Numbers.{number_in, cut}
use Rattle.read_words.specs.declared.Fault.{Fault}
use Rattle.read_words.specs.declared.RecordBytes.{RecordBytes}
use Rattle.std.proofs.Common.{Option, Some, None, Result, Ok, Err, subst, MatchOption}
use Rattle.std.specs.Option.{ok_or}
use Rattle.std.specs.Result.{OkIff, result_ok}
use Rattle.read_words.specs.Words.{Said, says, wrong, number_fault, with_numbers, operand_in, with_operands, with_variables, forms, read_by, record_in}
use Rattle.read_words.specs.Meaning.{IsRecord, Tells}

-- ---- how many numbers

module _ (count : ℕ) (numbers : List (List ℕ)) (said : Said) where
  pub so_many : length numbers ≡ count → with_numbers count numbers said ≡ said
  unfolding with_numbers
  so_many e = rw (eq-eqb (length numbers) count e)

  pub not_so_many : (length numbers ≡ count → ⊥) → with_numbers count numbers said ≡ wrong (number_fault count)
  unfolding with_numbers
  not_so_many e = rw (ne_eqb (length numbers) count e)

pub no_number : (count : ℕ) → count ≡ 0 → number_fault count ≡ Fault.NoNumber
unfolding number_fault
no_number count e = rw e

pub one_number : (count : ℕ) → count ≡ 1 → number_fault count ≡ Fault.OneNumber
unfolding number_fault
one_number count e = rw e

pub two_numbers : (count : ℕ) → 1 < count → number_fault count ≡ Fault.TwoNumbers
unfolding number_fault
two_numbers count h = get_or-eq_default (Fault.NoNumber ∷ Fault.OneNumber ∷ []) Fault.TwoNumbers {n = count} (omega arith)

-- ---- what is told of a record

pub tells : (r : Result RecordBytes Fault) (one other : Said) → one ≡ other → Tells r one → Tells r other
tells r one other e t = subst (λ (said : Said). Tells r said) e t

pub is_record : (own : Record) (n : ℕ) (bytes : List ℕ) → n ≡ length (record_bytes own) → bytes ≡ padded most_record 0 (record_bytes own)
    → IsRecord (says own) n bytes
unfolding size padded
is_record own n bytes e f = record {
  own = own;
  is = refl;
  long = e;
  front = rw (f, e) (take_at (record_bytes own) _ (length (record_bytes own)) refl);
  whole = f;
  few = rw e (size_most own);
}

-- ---- what `ok_or` makes of a value, or of none

pub no_value : {A : Type 0} (o : Option A) (e d : Fault) → Err d ≡ ok_or o e → (o ≡ None) × (d ≡ e)
no_value None e d is = (refl, cc)
no_value (Some x) e d is = absurd (cc)

pub some_value : {A : Type 0} (o : Option A) (e : Fault) (x : A) → Ok x ≡ ok_or o e → o ≡ Some x
some_value None e x is = absurd (cc)
some_value (Some y) e x is = cc

-- ---- operands

-- a word that is missing, or no number, is none
pub operand_missing : (numbers : List (List ℕ)) (k : ℕ) → length numbers ≤ k → 255 < operand_in (get_or numbers k [])
unfolding number_in cut
operand_missing numbers k h = rw (get_or-eq_default numbers [] h) (omega arith)

pub no_number_in : (word : List ℕ) → None ≡ number_in word → 255 < operand_in word
unfolding cut
no_number_in word e = rw (← e) (omega arith)

pub number_in_byte : {E : Type 0} (word : List ℕ) (number : ℕ) (o : Option ℕ) (r : Result ℕ E) → Some number ≡ number_in word
    → OkIff r (number < 256) number → o ≡ result_ok r → MatchOption o (255 < operand_in word) (λ operand. operand ≡ operand_in word)
unfolding cut
number_in_byte word number o (Ok x) e is f = rw (f, ← e) (omega (arith, is.0, is.1))
number_in_byte word number o (Err d) e is f = rw (f, ← e) (omega (arith, is))

-- a gate or a register with as many numbers as it has operands
pub so_many_operands : (kind : Kind) (numbers : List (List ℕ)) → length numbers ≡ operand_count kind
    → let ops = map operand_in numbers in
    with_operands kind numbers ≡ cond (not_below 256 ops) (wrong Fault.Operand) (says (node (gate kind (first_of (operand_count kind) ops))))
unfolding with_operands
so_many_operands kind numbers e = so_many (operand_count kind) numbers _ e

-- the operands are looked at one by one
module _ (numbers : List (List ℕ)) (j : ℕ) (h : j < length numbers) where
  -- whether one is none
  next_below : not_below 256 (map operand_in (drop j numbers)) ≡ (leb 256 (operand_in (get_or numbers j [])) || not_below 256 (map operand_in (drop (j + 1) numbers)))
  unfolding not_below
  next_below = rw (add-one, drop-cons numbers j [] h)

  pub no_operand : 255 < operand_in (get_or numbers j []) → not_below 256 (map operand_in (drop j numbers)) ≡ true
  no_operand l = rw (le-leb 256 (operand_in (get_or numbers j [])) l) at next_below

  pub one_operand : operand_in (get_or numbers j []) ≤ 255 → not_below 256 (map operand_in (drop j numbers)) ≡ not_below 256 (map operand_in (drop (j + 1) numbers))
  one_operand l = rw (lt-leb 256 (operand_in (get_or numbers j [])) (omega arith)) at next_below

  -- the bytes so far, with that of one more
  pub more_bytes : (k : ℕ) → 1 + j < most_record
      → set (padded most_record 0 (k ∷ map operand_in (take j numbers))) (1 + j) (operand_in (get_or numbers j []))
      ≡ padded most_record 0 (k ∷ map operand_in (take (j + 1) numbers))
  more_bytes k room =
      let own = k ∷ map operand_in (take j numbers) in
      let long : length own ≡ 1 + j = omega (arith, length-map (take j numbers) operand_in, length-take-le j numbers (omega arith)) in
      rw (add-one, take-suc numbers j [] h, map-append) (rw long at (padded_set most_record 0 own (operand_in (get_or numbers j [])) (omega arith)))

-- all operands are there
pub all_operands : (kind : Kind) (numbers : List (List ℕ)) (k count : ℕ) → k ≡ kind_number kind → count ≡ operand_count kind → length numbers ≡ count
    → not_below 256 (map operand_in numbers) ≡ not_below 256 (map operand_in (drop count numbers))
    → IsRecord (with_operands kind numbers) (1 + count) (padded most_record 0 (k ∷ map operand_in (take count numbers)))
unfolding record_bytes kind_of body not_below
all_operands kind numbers k count ek ec long below =
    let ops = map operand_in numbers in
    let own = gate kind (first_of (operand_count kind) ops) in
    let none : drop count numbers ≡ [] = drop_of_length-le numbers {i = count} (omega arith) in
    let first : listed (operand_count kind) (first_of (operand_count kind) ops) ≡ ops =
    listed_first (operand_count kind) ops (omega (arith, length-map numbers operand_in)) ∙ take_all (operand_count kind) ops (omega (arith, length-map numbers operand_in)) in
    let said : with_operands kind numbers ≡ says (node own) = so_many_operands kind numbers (long ∙ ec) ∙ rw (below, none) in
    rw said (is_record (node own) _ _ (rw first (omega (arith, length-map numbers operand_in))) (rw (first, ek, take_all count numbers (omega arith))))

-- ---- the variables of an input

module _ (set : ℕ) (number : List ℕ) (numbers : List (List ℕ)) (v : ℕ) (is : v ≡ cut 16 (number_in number)) where
  pub no_variable : 15 < v → with_variables set (number ∷ numbers) ≡ wrong Fault.Variable
  unfolding with_variables
  no_variable h = rw (← is, le-ltb v 16 (omega arith))

  pub variable_twice : v ≤ 15 → odd (set / 2 ^ v) ≡ true → with_variables set (number ∷ numbers) ≡ wrong Fault.Twice
  unfolding with_variables
  variable_twice h e = rw (← is, lt-ltb v 16 (omega arith), e)

  pub one_variable : v ≤ 15 → odd (set / 2 ^ v) ≡ false → with_variables set (number ∷ numbers) ≡ with_variables (set + 2 ^ v) numbers
  unfolding with_variables
  one_variable h e = rw (← is, lt-ltb v 16 (omega arith), e)

pub all_variables : (set : ℕ) → IsRecord (with_variables set []) 3 (2 ∷ set % 256 ∷ set / 256 ∷ [])
unfolding with_variables record_bytes kind_of body padded
all_variables set = is_record (node (input set)) _ _ refl refl

-- a power of two in 16 bits
pub power_is : (v : ℕ) → v ≤ 15 → 1 * 2 ^ v % 65536 ≡ 2 ^ v
power_is v h = rw one-mul (mod-eq_of_lt (pow-lt {j = 16} (omega arith)))

-- a set with one variable more has room
pub room : (k v set : ℕ) → v < k → set < 2 ^ k → (set / 2 ^ v % 2 ≡ 1 → ⊥) → set + 2 ^ v < 2 ^ k
room zero v set h l e = absurd (omega arith)
room (suc k) zero set h l e = let even : set % 2 ≡ 1 → ⊥ = rw div-one at e in omega (arith, two-pow-succ k)
room (suc k) (suc v) set h l e =
    let halved : set / 2 ^ suc v ≡ set / 2 / 2 ^ v = rw pow-succ' (sym (div-div-eq-div-mul set 2 (2 ^ v))) in
    omega (arith, two-pow-succ k, two-pow-succ v, room k v (set / 2) (omega arith) (omega (arith, two-pow-succ k)) (rw halved at e))

-- ---- a line

-- its words, of which the first is known
pub record_in_lem : (line : List (List ℕ)) (name : List ℕ) (numbers : List (List ℕ)) → line ≡ name ∷ numbers → record_in line ≡ read_by forms name numbers
unfolding record_in
record_in_lem line name numbers e = ap record_in e
