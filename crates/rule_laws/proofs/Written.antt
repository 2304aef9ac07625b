-- A netlist that obeys the record rules is read from its writing-out: each of its records is accepted behind those
-- before it, by induction over the variables and then over the nodes. Assumes nothing.
use Prim.Native.Nat.{ℕ, suc, ◌+◌, ◌<◌}
use mathlib.Core.Path.{◌≡◌, refl, ap}
use mathlib.Core.Bool.{false, ◌&&◌}
use mathlib.Core.List.{List, [], ◌∷◌, ◌++◌, append-nil, append_assoc}
use native.Mathlib.Omega.{arith}
use lib.Dec.{T, ltb, eqb}
use lib.ListN.{length, get_or, length-append}
use lib.Seq.{get_or-append_seam}
use borrow.Author.Tests.{lt-leb, le-ltb, eq-eqb}
use Rattle.rules.specs.Lists.{member}
use Rattle.rules.specs.Records.{Class, Cell, input, Record, end, variable, node, Netlist, empty, WellFormed, most_variables, most_nodes, operands, record_bytes, size, variables_out, nodes_out, written_out}
use Rattle.rules.specs.Checks.{answered, is_end, over_limit, undeclared, undeclared_set, not_below, bad_operand, Progress, reading, taken, step, after, read}
use Rattle.rule_laws.proofs.Tests.{or_right}
use Rattle.rule_laws.proofs.Records.{Allowed, accept_out}
use Rattle.rule_laws.proofs.Reading.{out, variables_append, nodes_append, out_variable, out_node, read_ends}

-- the reading of a file comes to this
abbrev Comes : List ℕ → Progress → Type 0
Comes bytes p = (k : ℕ) × (after empty bytes k ≡ p)

-- a property of the empty list that stays with each next entry holds of the whole list
along : {A : Type 0} (P : List A → Type 0) (l : List A) → P []
    → ((done : List A) (a : A) (todo : List A) → l ≡ done ++ (a ∷ todo) → P done → P (done ++ (a ∷ []))) → P l
along P [] base next = base
along P (a ∷ l) base next =
    along (λ done. P (a ∷ done)) l (next [] a l refl base) (λ done b todo e p. next (a ∷ done) b todo (ap (◌∷◌ a) e) p)

-- where each operand is below the node, none fails the check
not_below_lem : (own : ℕ) (l : List ℕ) → ((a : ℕ) → T (member a l) → a < own) → not_below own l ≡ false
unfolding not_below member
not_below_lem own [] h = refl
not_below_lem own (x ∷ l) h =
    rw (lt-leb own x (h x (rw (eq-eqb x x refl) tt))) (not_below_lem own l (λ a t. h a (or_right (eqb a x) (member a l) t)))

-- a record that is allowed behind m and whose bytes stand behind the writing-out of m is taken
onwards : (bytes rest : List ℕ) (m : Netlist) (r : Record) → bytes ≡ out m ++ (record_bytes r ++ rest) → Allowed m r
    → (is_end r && ltb (length (out m) + 1) (length bytes)) ≡ false
    → Comes bytes (reading m (length (out m))) → Comes bytes (taken m (length (out m)) (answered r))
unfolding after step
onwards bytes rest m r e allowed last (k, p) = (suc k, rw (p, e, accept_out (out m) rest m r allowed (rw e at last)))

-- these variables and nodes of n are read, in the writing-out of n
abbrev Read : Netlist → List Class → List Cell → Type 0
Read n vs ns = let m : Netlist = record { variables = vs; nodes = ns } in Comes (written_out n) (reading m (length (out m)))

module _ (n : Netlist) (w : WellFormed n) where
  next_variable : (done : List Class) (c : Class) (todo : List Class) → n.variables ≡ done ++ (c ∷ todo) → Read n done [] → Read n (done ++ (c ∷ [])) []
  unfolding size taken over_limit undeclared_set bad_operand written_out variables_out nodes_out
  next_variable done c todo e p =
      let m : Netlist = record { variables = done; nodes = [] } in
      let room : length done < most_variables = omega (arith, w.few_variables, ap length e, length-append done (c ∷ todo)) in
      rw (out_variable m c (omega arith), length-append (out m) (record_bytes (variable c)))
      (onwards (written_out n) (variables_out todo ++ (nodes_out n.nodes ++ record_bytes end)) m (variable c)
      (simp (e, variables_append, append-nil, append_assoc)) (record { ordered = refl; room = lt-leb _ _ room; declared = refl; below = refl }) refl p)

  next_node : (done : List Cell) (c : Cell) (todo : List Cell) → n.nodes ≡ done ++ (c ∷ todo) → Read n n.variables done
      → Read n n.variables (done ++ (c ∷ []))
  unfolding size taken over_limit undeclared_set undeclared bad_operand written_out nodes_out
  next_node done c todo e p =
      let m : Netlist = record { variables = n.variables; nodes = done } in
      let inside : length done < length n.nodes = omega (arith, ap length e, length-append done (c ∷ todo)) in
      let room : length done < most_nodes = omega (arith, w.few_nodes) in
      let there : get_or n.nodes (length done) (input 0) ≡ c = rw e (get_or-append_seam done c todo (input 0)) in
      rw (out_node m c, length-append (out m) (record_bytes (node c)))
      (onwards (written_out n) (nodes_out todo ++ record_bytes end) m (node c)
      (simp (e, nodes_append, append_assoc))
      (record {
        ordered = refl;
        room = lt-leb _ _ room;
        declared = lt-leb _ _ (rw there at (w.declared (length done) inside));
        below = not_below_lem _ (operands c) (rw there at (w.lower (length done) inside));
      }) refl p)

  all_read : Read n n.variables n.nodes
  unfolding after variables_out nodes_out
  all_read = along (Read n n.variables) n.nodes (along (λ vs. Read n vs []) n.variables (0, refl) next_variable) next_node

-- a netlist that obeys the record rules is read
pub write_read : (n : Netlist) → WellFormed n → read (written_out n) ≡ answered n
unfolding taken over_limit undeclared_set bad_operand written_out record_bytes
write_read n w =
    let last = le-ltb (length (out n) + 1) (length (written_out n)) (simp length-append (omega arith)) in
    let (k, e) = onwards (written_out n) [] n end refl (record { ordered = refl; room = refl; declared = refl; below = refl }) last (all_read n w) in
    read_ends (written_out n) k (answered n) e
