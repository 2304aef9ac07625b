-- The rows that are left of a record's table once its kind is known and its kind byte is inside the file: for each kind
-- the tests of the code, in their order. Leaving out a row whose condition is false changes nothing. Assumes nothing.
use Prim.Native.Nat.{ℕ, ◌+◌, ◌-◌, ◌*◌, ◌^◌, ◌<◌, ◌≤◌}
use mathlib.Core.Path.{◌≡◌, refl, sym, ap, ◌∙◌, subst}
use mathlib.Core.Bool.{Bool, true, false}
use mathlib.Core.List.{List, [], ◌∷◌}
use native.Mathlib.Omega.{arith}
use lib.Dec.{leb, ltb}
use lib.ListN.{length, get_or, drop}
use lib.Pow.{pow_pos}
use lib.Seq.{get_or-drop}
use borrow.Author.Tests.{lt-ltb, le-ltb, lt-leb, ltb-true, ltb-false}
use Rattle.rules.specs.Records as Records
use Rattle.rules.specs.Records.{operand_count, listed, first_of, Cell, input, gate, Record, end, node, said, size, record_bytes, kind_of, operands, set_of, most_variables, most_nodes, most_body, last_kind}
use Rattle.rules.specs.Checks.{Outcome, answered, refused, and_then, Check, check, judged, over_limit, undeclared, undeclared_set, not_below, bad_operand, judged_record}
use Rattle.rule_laws.proofs.Packing.{tabulate_at}
use Rattle.rule_laws.proofs.Operands.{listed_length, known, kind_of_number}
use Rattle.rule_laws.proofs.Records.{answer}
use Rattle.records.specs.declared.RecordBytes.{RecordBytes}
use Rattle.records.specs.Bytes.{body_at, accepted_if}

-- the bytes that are taken of a record are those behind its kind byte
pub body_seen : (bytes : List ℕ) (here j : ℕ) → j < most_body → get_or (body_at bytes here) j 0 ≡ get_or (drop (here + 1) bytes) j 0
unfolding body_at
body_seen bytes here j h =
    tabulate_at (λ i. get_or bytes (here + (1 + i)) 0) most_body j 0 h ∙ ap (λ (k : ℕ). get_or bytes k 0) (omega arith)
    ∙ sym (get_or-drop (here + 1) bytes j 0)

-- the second list is what is left of the first without some rows whose condition is false
data Leaves : List Check → List Check → Type 0 where
  none : Leaves [] []
  dropped : {cs ds : List Check} {k p : ℕ} {x : Bool} → x ≡ false → Leaves cs ds → Leaves (check k x p ∷ cs) ds
  kept : {cs ds : List Check} {k p : ℕ} {x y : Bool} → x ≡ y → Leaves cs ds → Leaves (check k x p ∷ cs) (check k y p ∷ ds)

-- whether a record is accepted where the first list judges it, by the second
same : {cs ds : List Check} (r : Record) → Leaves cs ds → accepted_if (judged cs r) ≡ judged ds tt
unfolding accepted_if and_then judged
same r none = refl
same r (dropped e l) = rw e (same r l)
same r (kept {x = true} e l) = rw (sym e)
same r (kept {x = false} e l) = rw (sym e) (same r l)

-- two tests with one answer
same_test : (a b c d : ℕ) → (c < d → a < b) → (d ≤ c → b ≤ a) → ltb a b ≡ ltb c d
same_test a b c d below above = go (ltb c d) refl
  where
    go : (t : Bool) → ltb c d ≡ t → ltb a b ≡ t
    go true e = lt-ltb a b (below (ltb-true c d e))
    go false e = le-ltb a b (above (ltb-false c d e))

-- whether a file of `total` bytes ends within s bytes from `here`
ends_within : (total here s : ℕ) → here < total → ltb total (here + s) ≡ ltb (total - here) s
ends_within total here s inside = same_test total (here + s) (total - here) s (λ h. omega arith) (λ h. omega arith)

module _ (total v n here k : ℕ) (body : List ℕ) (inside : here < total) where
  -- for a record of kind k, whose kind byte stands inside the file, the table leaves these rows
  abbrev Left : List Check → Type 0
  Left rows = accepted_if (judged_record total v n here k body) ≡ judged rows tt

  pub end_checks : k ≡ 0 → Left (check 9 (ltb 1 (total - here)) (here + 1) ∷ [])
  unfolding judged_record said over_limit size record_bytes undeclared_set bad_operand
  end_checks e =
      rw e
      (same end
      (dropped (lt-leb total here inside)
      (dropped refl
      (dropped refl
      (dropped refl
      (dropped (le-ltb total (here + 1) (omega arith))
      (dropped refl
      (dropped refl
      (dropped refl
      (kept (same_test (here + 1) total 1 (total - here) (λ h. omega arith) (λ h. omega arith)) none))))))))))

  pub variable_checks : k ≡ 1
      → Left (check 2 (ltb 0 n) here ∷ check 3 (leb most_variables v) here ∷ check 4 (ltb (total - here) 2) here ∷ check 5 (ltb 2 (get_or body 0 0)) here ∷ [])
  unfolding judged_record said over_limit size record_bytes undeclared_set bad_operand
  variable_checks e =
      rw e
      (same (said 1 body)
      (dropped (lt-leb total here inside)
      (dropped refl
      (kept refl
      (kept refl
      (kept (ends_within total here 2 inside)
      (kept refl
      (dropped refl
      (dropped refl
      (dropped refl none))))))))))

  -- a node, by what is left of the rows on its set and on its operands
  node_checks : (cell : Cell) {rows : List Check} → k ≤ last_kind → said k body ≡ node cell
      → Leaves (check 6 (undeclared v (set_of cell)) here ∷ check 7 (not_below n (operands cell)) here ∷ check 9 false (here + 1) ∷ []) rows
      → Left (check 3 (leb most_nodes n) here ∷ check 4 (ltb (total - here) (size (node cell))) here ∷ rows)
  unfolding judged_record over_limit undeclared_set bad_operand
  node_checks cell known says rest =
      rw says
      (same (node cell)
      (dropped (lt-leb total here inside)
      (dropped (le-ltb last_kind k known)
      (dropped refl
      (kept refl
      (kept (ends_within total here (size (node cell)) inside)
      (dropped refl rest)))))))

  pub input_checks : k ≡ 2
      → Left (check 3 (leb most_nodes n) here ∷ check 4 (ltb (total - here) 3) here ∷ check 6 (undeclared v (get_or body 0 0 + 256 * get_or body 1 0)) here ∷ [])
  unfolding said size record_bytes Records.body set_of operands not_below
  input_checks e =
      node_checks (input (get_or body 0 0 + 256 * get_or body 1 0)) (omega arith) (rw e) (kept refl (dropped refl (dropped refl none)))

  -- a gate or a register, with its count of operands
  pub record GateChecks : Type 0 where
    pub cell : Cell
    pub is : k ≡ kind_of cell
    pub rows : Left (check 3 (leb most_nodes n) here ∷ check 4 (ltb (total - here) (1 + length (operands cell))) here
        ∷ check 7 (not_below n (listed (length (operands cell)) (first_of (length (operands cell)) body))) here ∷ [])

  pub gate_checks : 2 < k → k ≤ last_kind → GateChecks
  unfolding size record_bytes Records.body set_of operands kind_of undeclared
  gate_checks above below =
      let (kind, number) = kind_of_number k (omega arith) below in
      let count = operand_count kind in
      let cell : Cell = gate kind (first_of count body) in
      let says : said k body ≡ node cell = subst (λ (j : ℕ). said j body ≡ node cell) number ((known kind).says body) in
      record {
        cell = cell;
        is = sym number;
        rows =
            rw (listed_length count (first_of count body))
            (subst (λ (s : ℕ). Left (check 3 (leb most_nodes n) here ∷ check 4 (ltb (total - here) s) here ∷ check 7 (not_below n (operands cell)) here ∷ []))
            (omega (arith, listed_length count (first_of count body)))
            (node_checks cell below says (dropped (lt-leb (2 ^ v) 0 (pow_pos v)) (kept refl (dropped refl none)))));
      }

-- where a record is found, the rules accept it, and the bytes found are those that they judge
pub found_record : (total v n here k : ℕ) (body : List ℕ) (own own' : RecordBytes)
    → answered own ≡ and_then (accepted_if (judged_record total v n here k body)) (λ _. answered own')
    → (judged_record total v n here k body ≡ answered (said k body)) × (own ≡ own')
unfolding accepted_if and_then judged_record
found_record total v n here k body own own' e = go (judged_record total v n here k body) refl e
  where
    go : (o : Outcome Record) → judged_record total v n here k body ≡ o
        → answered own ≡ and_then (accepted_if o) (λ _. answered own')
        → (o ≡ answered (said k body)) × (own ≡ own')
    go (answered r) e f = (ap answered (sym (answer _ _ _ e)), cc)
    go (refused number place) e f = (cc, cc)
