-- The record of a new node is judged as the next of a file in which it stands at the offset of its number, and then by
-- whether bytes are left over, row by row. Assumes nothing.
use Rattle.std.specs.Prelude.{Err}
use Prim.Native.Nat.{ℕ, ◌+◌, ◌<◌, ◌≤◌}
use mathlib.Core.Path.{◌≡◌, refl, ap, ◌∙◌}
use mathlib.Core.Logic.{◌⊎◌, inl, inr}
use mathlib.Core.Bool.{Bool, true, false}
use mathlib.Core.List.{List, [], ◌∷◌}
use native.Mathlib.Nat.{le_refl}
use native.Mathlib.Omega.{arith}
use borrow.Author.Tests.{lt-ltb, le-ltb, lt-leb, le-leb, leb-false, ltb-false}
use lib.Dec.{ltb, lt→ltb, ltb→lt}
use lib.ListN.{get_or}
use Rattle.rules.specs.declared.Node.{Node}
use Rattle.rules.specs.declared.Refusal.{Refusal}
use Rattle.rules.specs.Records.{Cell, Record, node, said, size, last_kind, most_body}
use Rattle.rules.specs.Slices.{entry}
use Rattle.rules.specs.Checks.{Outcome, answered, refused, and_then, Check, check, judged, judged_record, over_limit, undeclared, undeclared_set, bad_operand}
use Rattle.rules.specs.Paper.{number_of, place_of}
use Rattle.rule_laws.proofs.Tests.{same_test, lt_or_le}
use Rattle.rule_laws.proofs.Records.{passes, said_same, says_node}
use Rattle.records.specs.declared.RecordBytes.{RecordBytes}
use Rattle.records.specs.Bytes.{accepted_if}
use Rattle.rule_laws.proofs.Paper.{query_refused}
use Rattle.records.proofs.Judged.{found_record}
use Rattle.edit_rules.specs.Edits.{cell_of, judged_node}

-- ---- the record of a new node

-- the rows of a node in both tables: those in between hold of no node, and the last stand behind the others
node_rows : (n : ℕ) (full short undeclared bad : Bool) (last : Record → List Check) (cell : Cell)
    → judged (check 3 full n ∷ check 4 short n ∷ check 6 undeclared n ∷ check 7 bad n ∷ last (node cell)) cell
    ≡ and_then
    (judged (check 3 full n ∷ check 4 short n ∷ check 5 false n ∷ check 6 undeclared n ∷ check 7 bad n ∷ check 9 false (n + 1) ∷ []) (node cell))
    (λ r. judged (last r) (cell_of r))
unfolding judged and_then
node_rows n true short undeclared bad last cell = refl
node_rows n false true undeclared bad last cell = refl
node_rows n false false true bad last cell = refl
node_rows n false false false true last cell = refl
node_rows n false false false false last cell = refl

module _ (total v n k : ℕ) (body : List ℕ) where
  -- as the next record of a file that ends with it
  abbrev pub judged_next : Outcome Record
  judged_next = judged_record (n + total) v n n k body

  -- whether bytes are left over
  abbrev surplus : Record → List Check
  surplus r = check 9 (ltb (size r) total) n ∷ []

  -- the record that is accepted is that of a node, and it is left to see whether bytes are left over
  pub record FoundNext : Type 0 where
    pub above : 0 < k
    pub known : k ≤ last_kind
    pub cell : Cell
    pub says : said k body ≡ node cell
    pub judges : judged_node total v n k body ≡ judged (surplus (node cell)) cell

  same_size : (s : ℕ) → ltb (n + total) (n + s) ≡ ltb total s
  same_size s =
      same_test (ltb (n + total) (n + s)) (ltb total s)
      (λ t. lt→ltb total s (omega (arith, ltb→lt (n + total) (n + s) t))) (λ t. lt→ltb (n + total) (n + s) (omega (arith, ltb→lt total s t)))

  -- the record is judged so
  abbrev Next : Type 0
  Next = judged_node total v n k body ≡ and_then judged_next (λ r. judged (surplus r) (cell_of r))

  none_next : total ≤ 0 → Next
  unfolding judged_node judged_record judged and_then
  none_next nothing = let same : n + total ≡ n = omega arith in rw (same, le-leb total 0 nothing, le-leb n n (le_refl n))

  beyond_next : 0 < total → last_kind < k → Next
  unfolding judged_node judged_record judged and_then
  beyond_next some beyond = rw (lt-leb total 0 some, lt-leb (n + total) n (omega arith), lt-ltb last_kind k beyond)

  node_next : 0 < total → 2 ≤ k → k ≤ last_kind → (cell : Cell) → said k body ≡ node cell → Next
  unfolding judged_node judged_record judged and_then
  node_next some above known cell says =
      let r = node cell in
      rw (says, lt-leb total 0 some, lt-leb (n + total) n (omega arith), le-ltb last_kind k known, le-ltb k 2 above, same_size (size r))
      (node_rows n (over_limit v n r) (ltb total (size r)) (undeclared_set v r) (bad_operand n r) surplus cell)

  -- where no kind of 0 or 1 is met
  module _ (met : ((0 < total) × (2 ≤ k)) ⊎ (total ≤ 0)) where
    judged_next_lem : Next
    judged_next_lem = go met (lt_or_le last_kind k)
      where
        go : ((0 < total) × (2 ≤ k)) ⊎ (total ≤ 0) → (last_kind < k) ⊎ (k ≤ last_kind) → Next
        go (inr nothing) kind = none_next nothing
        go (inl (some, above)) (inl beyond) = beyond_next some beyond
        go (inl (some, above)) (inr known) =
            let (cell, says) = says_node k body above known in node_next some above known cell says

    -- a refusal that is told is the offer's
    pub refused_next : {A : Type 0} (f : Cell → Outcome A) (refusal : Refusal)
        → refused (number_of refusal) (place_of refusal) ≡ accepted_if judged_next
        → refused (number_of refusal) (place_of refusal) ≡ and_then (judged_node total v n k body) f
    unfolding accepted_if and_then
    refused_next f refusal tells =
        rw (judged_next_lem, query_refused {told = Err refusal} judged_next refusal tells refl)

    accepted_next : (cell : Cell) → judged_next ≡ answered (node cell) → judged_node total v n k body ≡ judged (surplus (node cell)) cell
    unfolding and_then
    accepted_next cell is = judged_next_lem ∙ rw is

    -- where it is told that the record is accepted, it is that of a node
    pub found_next : answered tt ≡ accepted_if judged_next → FoundNext
    unfolding judged_record and_then
    found_next tells =
        let told = ap (λ (o : Outcome (Unit {0})). and_then o (λ _. answered own)) tells in
        let accepted = (found_record (n + total) v n n k body own own told).0 in
        let p = passes _ _ _ accepted in
        let known = ltb-false last_kind k (p 1) in
        let above = over met (leb-false (n + total) n (p 0)) in
        let (cell, says) = says_node k body above known in
        record { above = omega arith; known = known; cell = cell; says = says; judges = accepted_next cell (accepted ∙ ap answered says) }
      where
        own : RecordBytes
        own = record { kind = k; body = body }

        over : ((0 < total) × (2 ≤ k)) ⊎ (total ≤ 0) → n < n + total → 2 ≤ k
        over (inl (some, above)) inside = above
        over (inr nothing) inside = absurd (omega arith)

  -- there are more bytes than its size s, or there are not
  module _ (x : FoundNext) {A : Type 0} (f : Cell → Outcome A) (s : ℕ) (sized : s ≡ size (node x.cell)) where
    pub surplus_next : s < total → refused 9 n ≡ and_then (judged_node total v n k body) f
    unfolding judged and_then
    surplus_next h = rw (x.judges, lt-ltb (size (node x.cell)) total (omega arith))

    pub taken_next : total ≤ s → f x.cell ≡ and_then (judged_node total v n k body) f
    unfolding judged and_then
    taken_next h = rw (x.judges, le-ltb (size (node x.cell)) total (omega arith))

  -- kind 0 or 1 is offered
  pub no_node : {A : Type 0} (f : Cell → Outcome A) → 0 < total → k < 2 → refused 1 n ≡ and_then (judged_node total v n k body) f
  unfolding judged_node judged and_then
  no_node f some below = rw (lt-leb total 0 some, le-ltb last_kind k (omega arith), lt-ltb k 2 below)

-- it sees no more of a body than the longest one has
pub offer_same : (total v n k : ℕ) (l m : List ℕ) → ((j : ℕ) → j < most_body → get_or l j 0 ≡ get_or m j 0)
    → judged_node total v n k l ≡ judged_node total v n k m
unfolding judged_node
offer_same total v n k l m e = rw (said_same k l m e)

-- what the code is offered
pub record OffersNode (o : Outcome Cell) (e : Node) : Type 0 where
  pub cell : Cell
  pub is : o ≡ answered cell
  pub its : e ≡ entry cell

pub offers_node : (o : Outcome Cell) (e : Node) → answered e ≡ and_then o (λ cell. answered (entry cell)) → OffersNode o e
unfolding and_then
offers_node (answered cell) e same = record { cell = cell; is = refl; its = cc }
offers_node (refused k p) e same = let no : ◌≡◌ {A = ℕ} 0 1 = cc in absurd (omega arith)

pub offers_none : (o : Outcome Cell) (k p : ℕ) → refused k p ≡ and_then o (λ cell. answered (entry cell)) → o ≡ refused k p
unfolding and_then
offers_none (answered cell) k p same = cc
offers_none (refused i q) k p same = cc
