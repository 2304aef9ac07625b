-- What `read_from` and `read` make of a file: it ends within `most_records` records, and a netlist that it answers is
-- well formed and has the file for its writing-out. By induction on the number of records: what is read before the next
-- one is well formed, short, and the writing-out of its netlist (`Reached`, the invariant). Assumes nothing.
use Prim.Native.Nat.{ℕ, zero, suc, ◌+◌, ◌*◌, ◌^◌, ◌≤◌, ◌<◌}
use mathlib.Core.Path.{◌≡◌, refl, sym, ◌∙◌, subst, ap}
use mathlib.Core.Bool.{Bool, true, false, ◌||◌}
use mathlib.Core.List.{List, [], ◌∷◌, ◌++◌, append-nil, append_assoc}
use native.Mathlib.Decide.{dec_le}
use native.Mathlib.Nat.{add-zero, add-suc, add_comm}
use native.Mathlib.Omega.{arith}
use lib.Dec.{T, leb, eqb}
use lib.ListN.{length, get_or, take, drop, length-append, length-take}
use lib.Seq.{take_all, get_or-take, get_or-drop}
use borrow.Author.Tests.{leb-false, ltb-false, eqb-true}
use Rattle.rules.specs.Lists.{member}
use Rattle.rules.specs.Records.{Class, Cell, input, Record, end, variable, node, Netlist, empty, WellFormed, with_variable, with_node, most_variables, most_nodes, operands, set_of, record_bytes, size, variables_out, nodes_out, written_out, most_body, most_record, most_bytes}
use Rattle.rules.specs.Checks.{Outcome, answered, refused, over_limit, undeclared, undeclared_set, not_below, bad_operand, record_at, Progress, reading, finished, taken, step, after, most_records, outcome_of, read_from, read}
use Rattle.rules.specs.Listing.{most_input}
use Rattle.rule_laws.proofs.Records.{Allowed, Accepted, accepted, size_most, total_unseen, judged_same, Bytes, next_bytes}

-- ---- what one more record keeps

pub neither : (a b : Bool) → (a || b) ≡ false → (a ≡ false) × (b ≡ false)
neither true b e = (e, cc)
neither false b e = (refl, e)

-- where no operand fails the check, each is below the node
pub operands_below : (own : ℕ) (l : List ℕ) → not_below own l ≡ false → (a : ℕ) → T (member a l) → a < own
unfolding not_below member
operands_below own [] e a t = absurd t
operands_below own (x ∷ l) e a t =
    let (first, others) = neither (leb own x) (not_below own l) e in
    go (eqb a x) refl t (leb-false own x first) (operands_below own l others a)
  where
    go : (b : Bool) → eqb a x ≡ b → T (b || member a l) → x < own → (T (member a l) → a < own) → a < own
    go true q s first others = omega (arith, eqb-true a x q)
    go false q s first others = others s

-- what holds of each entry and of one more holds of each entry of the longer list
snoc : {A : Type 0} (d : A) (P : ℕ → A → Type 0) (l : List A) (a : A) → ((i : ℕ) → i < length l → P i (get_or l i d)) → P (length l) a
    → (i : ℕ) → i < length (l ++ (a ∷ [])) → P i (get_or (l ++ (a ∷ [])) i d)
snoc d P [] a old new zero h = new
snoc d P [] a old new (suc i) h = absurd (omega arith)
snoc d P (x ∷ l) a old new zero h = old 0 (omega arith)
snoc d P (x ∷ l) a old new (suc i) h = snoc d (λ j. P (suc j)) l a (λ j q. old (suc j) (omega arith)) new i (omega arith)

-- a netlist with one node more, which the checks allow behind it, obeys the record rules
pub node_formed : (n : Netlist) (c : Cell) → WellFormed n → Allowed n (node c) → WellFormed (with_node n c)
unfolding over_limit undeclared_set undeclared bad_operand
node_formed n c formed a =
    let room : length n.nodes < most_nodes = leb-false _ _ a.room in
    record {
      few_variables = formed.few_variables;
      few_nodes = omega (arith, length-append n.nodes (c ∷ []));
      lower =
          snoc (input 0) (λ i cell. (a : ℕ) → T (member a (operands cell)) → a < i) n.nodes c
          formed.lower (operands_below _ (operands c) a.below);
      declared =
          snoc (input 0) (λ i cell. set_of cell < 2 ^ length n.variables) n.nodes c formed.declared
          (leb-false _ _ a.declared);
    }

-- a netlist written out, without the end
abbrev pub out : Netlist → List ℕ
out n = variables_out n.variables ++ nodes_out n.nodes

pub variables_append : (xs ys : List Class) → variables_out (xs ++ ys) ≡ variables_out xs ++ variables_out ys
unfolding variables_out
variables_append [] ys = refl
variables_append (x ∷ xs) ys = simp (variables_append xs ys, append_assoc)

pub nodes_append : (xs ys : List Cell) → nodes_out (xs ++ ys) ≡ nodes_out xs ++ nodes_out ys
unfolding nodes_out
nodes_append [] ys = refl
nodes_append (x ∷ xs) ys = simp (nodes_append xs ys, append_assoc)

none_out : (ns : List Cell) → length ns ≤ 0 → nodes_out ns ≡ []
unfolding nodes_out
none_out [] h = refl
none_out (x ∷ ns) h = absurd (omega arith)

pub out_variable : (n : Netlist) (c : Class) → length n.nodes ≤ 0 → out (with_variable n c) ≡ out n ++ record_bytes (variable c)
unfolding variables_out
out_variable n c h = simp (none_out n.nodes h, variables_append, append-nil)

pub out_node : (n : Netlist) (c : Cell) → out (with_node n c) ≡ out n ++ record_bytes (node c)
unfolding nodes_out
out_node n c = simp (nodes_append, append-nil, append_assoc)

-- ---- a file read so far

-- the invariant: what is read of a file, behind the variables and nodes of `start`, before its next record
record Reached (start : Netlist) (bytes : List ℕ) (k : ℕ) (n : Netlist) (here : ℕ) : Type 0 where
  counted : k + length start.variables + length start.nodes ≡ length n.variables + length n.nodes
  formed : WellFormed n
  short : here ≤ 2 * length n.variables + most_record * length n.nodes
  written : Bytes bytes → out n ≡ out start ++ take here bytes

-- one record more is its writing-out more
further : (start : Netlist) (bytes : List ℕ) (n : Netlist) (here : ℕ) (r : Record) → out n ≡ out start ++ take here bytes
    → take (here + size r) bytes ≡ take here bytes ++ record_bytes r → out n ++ record_bytes r ≡ out start ++ take (here + size r) bytes
further start bytes n here r e f = rw (e, f) (append_assoc (out start) (take here bytes) (record_bytes r))

module _ (start : Netlist) (bytes : List ℕ) (k : ℕ) (n : Netlist) (here : ℕ) (r : Reached start bytes k n here) where
  next_variable : (c : Class) → Accepted bytes n here (variable c) → Reached start bytes (suc k) (with_variable n c) (here + size (variable c))
  unfolding over_limit size record_bytes
  next_variable c a =
      let room : length n.variables < most_variables = leb-false _ _ a.allowed.room in
      let none : length n.nodes ≤ 0 = ltb-false _ _ a.allowed.ordered in
      let one_more = length-append n.variables (c ∷ []) in
      record {
        counted = omega (arith, r.counted);
        formed = record {
          few_variables = omega arith;
          few_nodes = r.formed.few_nodes;
          lower = r.formed.lower;
          declared = λ i h. absurd (omega arith);
        };
        short = omega arith;
        written = λ low. out_variable n c none ∙ further start bytes n here (variable c) (r.written low) (next_bytes bytes n here (variable c) low a);
      }

  next_node : (c : Cell) → Accepted bytes n here (node c) → Reached start bytes (suc k) (with_node n c) (here + size (node c))
  next_node c a =
      let one_more = length-append n.nodes (c ∷ []) in
      record {
        counted = omega (arith, r.counted);
        formed = node_formed n c r.formed a.allowed;
        short = omega (arith, size_most (node c));
        written = λ low. out_node n c ∙ further start bytes n here (node c) (r.written low) (next_bytes bytes n here (node c) low a);
      }

-- a netlist was read up to the end record, which is accepted
record Ended (start : Netlist) (bytes : List ℕ) (n : Netlist) : Type 0 where
  records : ℕ
  offset : ℕ
  reached : Reached start bytes records n offset
  ended : Accepted bytes n offset end

-- the end record's byte is the last
end_last : (bytes : List ℕ) (n : Netlist) (here : ℕ) → Accepted bytes n here end → length bytes ≤ here + 1
end_last bytes n here a = ltb-false (here + 1) (length bytes) a.last

record_first : (bytes : List ℕ) (n : Netlist) (here : ℕ) → here < most_bytes → record_at (take most_input bytes) n here ≡ record_at bytes n here
unfolding record_at
record_first bytes n here h = go (dec_le (length bytes) most_input)
  where
    go : Dec (length bytes ≤ most_input) → record_at (take most_input bytes) n here ≡ record_at bytes n here
    go (yes few) = rw (take_all most_input bytes few)
    go (no many) =
        rw (get_or-take most_input bytes here 0 (omega arith))
        (total_unseen (length (take most_input bytes)) (length bytes) _ _ here _ _ (simp length-take (omega arith)) (omega arith)
        ∙ judged_same (length bytes) _ _ here _ _ _ seen)
      where
        seen : (j : ℕ) → j < most_body → get_or (drop (here + 1) (take most_input bytes)) j 0 ≡ get_or (drop (here + 1) bytes) j 0
        seen j l =
            get_or-drop (here + 1) (take most_input bytes) j 0 ∙ get_or-take most_input bytes (here + 1 + j) 0 (omega arith)
            ∙ sym (get_or-drop (here + 1) bytes j 0)

-- what holds of a file after k records
abbrev Kept : (start : Netlist) (bytes : List ℕ) (k : ℕ) → Progress → Type 0
Kept start bytes k (reading n here) = Reached start bytes k n here
Kept start bytes k (finished (answered n)) = Ended start bytes n
Kept start bytes k (finished (refused number place)) = Unit {0}

-- ---- read behind a netlist that obeys the record rules

module _ (start : Netlist) (obeys : WellFormed start) where
  kept_taken : (bytes : List ℕ) (k : ℕ) (n : Netlist) (here : ℕ) (o : Outcome Record) → Reached start bytes k n here → record_at bytes n here ≡ o
      → Kept start bytes (suc k) (taken n here o)
  unfolding taken
  kept_taken bytes k n here (refused number place) r e = tt
  kept_taken bytes k n here (answered end) r e = record { records = k; offset = here; reached = r; ended = accepted bytes n here end e }
  kept_taken bytes k n here (answered (variable c)) r e = next_variable start bytes k n here r c (accepted bytes n here (variable c) e)
  kept_taken bytes k n here (answered (node c)) r e = next_node start bytes k n here r c (accepted bytes n here (node c) e)

  kept_step : (bytes : List ℕ) (k : ℕ) (p : Progress) → Kept start bytes k p → Kept start bytes (suc k) (step bytes p)
  unfolding step
  kept_step bytes k (reading n here) r = kept_taken bytes k n here (record_at bytes n here) r refl
  kept_step bytes k (finished (answered n)) e = e
  kept_step bytes k (finished (refused number place)) e = tt

  kept : (bytes : List ℕ) (k : ℕ) → Kept start bytes k (after start bytes k)
  unfolding after
  kept bytes zero = record { counted = omega arith; formed = obeys; short = omega arith; written = λ low. sym (append-nil (out start)) }
  kept bytes (suc k) = kept_step bytes k (after start bytes k) (kept bytes k)

  -- no file is still being read after `most_records` records
  pub always_finished : (bytes : List ℕ) → after start bytes most_records ≡ finished (read_from start bytes)
  unfolding read_from outcome_of
  always_finished bytes = go (after start bytes most_records) (kept bytes most_records)
    where
      go : (p : Progress) → Kept start bytes most_records p → p ≡ finished (outcome_of bytes p)
      go (reading n here) r = absurd (omega (arith, r.counted, r.formed.few_variables, r.formed.few_nodes))
      go (finished o) k = refl

  stays : (bytes : List ℕ) (k j : ℕ) (o : Outcome Netlist) → after start bytes k ≡ finished o → after start bytes (k + j) ≡ finished o
  unfolding after step
  stays bytes k zero o e = rw add-zero e
  stays bytes k (suc j) o e = rw (add-suc, stays bytes k j o e)

  -- wherever the reading ends, its outcome is the file's
  pub ends : (bytes : List ℕ) (k : ℕ) (o : Outcome Netlist) → after start bytes k ≡ finished o → read_from start bytes ≡ o
  ends bytes k o e =
      cc (stays bytes k most_records o e, stays bytes most_records k (read_from start bytes) (always_finished bytes), add_comm k most_records)

  ended_at : (bytes : List ℕ) (n : Netlist) → read_from start bytes ≡ answered n → Ended start bytes n
  ended_at bytes n e = subst (Kept start bytes most_records) (always_finished bytes ∙ ap finished e) (kept bytes most_records)

  -- a netlist that is read obeys the record rules
  pub from_well_formed : (bytes : List ℕ) (n : Netlist) → read_from start bytes ≡ answered n → WellFormed n
  from_well_formed bytes n e = (ended_at bytes n e).reached.formed

  -- a file that is read has at most so many variables of 2 bytes, so many nodes of the longest record, and the end
  pub from_short : (bytes : List ℕ) (n : Netlist) → read_from start bytes ≡ answered n → length bytes ≤ most_bytes
  from_short bytes n e =
      let d = ended_at bytes n e in
      let last = end_last bytes n d.offset d.ended in
      omega (arith, d.reached.short, d.reached.formed.few_variables, d.reached.formed.few_nodes)

  -- and behind the writing-out of `start` it is that of its netlist
  pub from_written_out : (bytes : List ℕ) → Bytes bytes → (n : Netlist) → read_from start bytes ≡ answered n → out start ++ bytes ≡ written_out n
  unfolding written_out size record_bytes
  from_written_out bytes low n e =
      let d = ended_at bytes n e in
      let before = further start bytes n d.offset end (d.reached.written low) (next_bytes bytes n d.offset end low d.ended) in
      let all = take_all (d.offset + size end) bytes (end_last bytes n d.offset d.ended) in
      sym (rw all at before)

  after_first : (bytes : List ℕ) (k : ℕ) → after start (take most_input bytes) k ≡ after start bytes k
  unfolding after step
  after_first bytes zero = refl
  after_first bytes (suc k) = rw (after_first bytes k) (same (after start bytes k) (kept bytes k))
    where
      same : (p : Progress) → Kept start bytes k p → step (take most_input bytes) p ≡ step bytes p
      same (reading n here) r = ap (taken n here) (record_first bytes n here (omega (arith, r.short, r.formed.few_variables, r.formed.few_nodes)))
      same (finished o) r = refl

  -- reading only the first bytes, as many as the listing program reads, gives the same outcome
  pub from_first : (bytes : List ℕ) → read_from start (take most_input bytes) ≡ read_from start bytes
  from_first bytes = cc (always_finished bytes, always_finished (take most_input bytes), after_first bytes most_records)

-- ---- read from the beginning

pub empty_formed : WellFormed empty
empty_formed = record { few_variables = omega arith; few_nodes = omega arith; lower = λ i h. absurd (omega arith); declared = λ i h. absurd (omega arith) }

pub read_ends : (bytes : List ℕ) (k : ℕ) (o : Outcome Netlist) → after empty bytes k ≡ finished o → read bytes ≡ o
unfolding read
read_ends = ends empty empty_formed

pub read_well_formed : (bytes : List ℕ) (n : Netlist) → read bytes ≡ answered n → WellFormed n
unfolding read
read_well_formed = from_well_formed empty empty_formed

pub read_short : (bytes : List ℕ) (n : Netlist) → read bytes ≡ answered n → length bytes ≤ most_bytes
unfolding read
read_short = from_short empty empty_formed

-- a file that is read is the writing-out of its netlist
pub read_written_out : (bytes : List ℕ) → Bytes bytes → (n : Netlist) → read bytes ≡ answered n → bytes ≡ written_out n
unfolding read variables_out nodes_out
read_written_out = from_written_out empty empty_formed

pub read_first : (bytes : List ℕ) → read (take most_input bytes) ≡ read bytes
unfolding read
read_first = from_first empty empty_formed
