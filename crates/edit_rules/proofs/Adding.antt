-- A new node at the end of a netlist: where its record is offered, the node has room and can stand there, and the
-- netlist with it obeys the record rules. And the nodes before it report what they did. Assumes nothing.
use Prim.Native.Nat.{ℕ, ◌^◌, ◌<◌, ◌≤◌}
use mathlib.Core.Path.{◌≡◌, refl, sym, ap, ◌∙◌}
use mathlib.Core.Bool.{false}
use mathlib.Core.List.{List, [], ◌∷◌, ◌++◌, map-append}
use mathlib.Core.Option.{Option, none}
use native.Mathlib.Nat.{lt_of_lt_of_le}
use native.Mathlib.Omega.{arith}
use borrow.Author.Tests.{leb-false, ltb-false}
use lib.Dec.{T}
use lib.ListN.{length, get_or, length-map}
use lib.Pow.{pow_mono}
use lib.Seq.{get_or_at}
use Rattle.rules.specs.Lists.{member}
use Rattle.rules.specs.Records.{Class, Cell, node, Netlist, WellFormed, with_node, said, operands, set_of, last_kind, most_variables, most_nodes, most_sets}
use Rattle.rules.specs.Families.{Family, Families, families_rule, families, mark, marks, layer_marks}
use Rattle.rules.specs.Checks.{answered, over_limit, undeclared, undeclared_set, bad_operand}
use Rattle.rule_laws.proofs.Records.{passes, answer, says_node}
use Rattle.rule_laws.proofs.Reading.{neither, operands_below, node_formed}
use Rattle.rule_laws.proofs.Tables.{table_snoc}
use Rattle.rule_laws.proofs.Exit.{families_length}
use Rattle.rule_laws.proofs.Marks.{layer_marks_length}
use Rattle.edit_rules.specs.Edits.{judged_node, offered}

-- ---- the node that is offered

-- behind so many variables and nodes there is room for a node, its set is declared, and its operands are lower
record Stands (v n : ℕ) (cell : Cell) : Type 0 where
  room : over_limit v n (node cell) ≡ false
  declared : undeclared_set v (node cell) ≡ false
  below : bad_operand n (node cell) ≡ false

-- so it is where the node is offered there: its rows are passed
module _ (total v n k : ℕ) (body : List ℕ) (cell : Cell) (e : judged_node total v n k body ≡ answered cell) where
  offered_stands : Stands v n cell
  unfolding judged_node
  offered_stands =
      let p = passes _ _ _ e in
      let (known, above) = neither _ _ (p 1) in
      let (one, says) = says_node k body (ltb-false k 2 above) (ltb-false last_kind k known) in
      let same : said k body ≡ node cell = says ∙ ap node (rw says at (answer _ _ _ e)) in
      record { room = rw same at (p 2); declared = rw same at (p 4); below = rw same at (p 5) }

  pub offered_room : n < most_nodes
  unfolding over_limit
  offered_room = leb-false most_nodes n offered_stands.room

  pub offered_lower : (a : ℕ) → T (member a (operands cell)) → a < n
  unfolding bad_operand
  offered_lower = operands_below n (operands cell) offered_stands.below

  pub offered_small : v ≤ most_variables → set_of cell < most_sets
  unfolding undeclared_set undeclared
  offered_small few = lt_of_lt_of_le (leb-false (2 ^ v) (set_of cell) offered_stands.declared) (pow_mono few)

-- the netlist with it obeys the record rules
pub offered_well_formed : (n : Netlist) (bytes : List ℕ) (cell : Cell) → WellFormed n → offered n bytes ≡ answered cell → WellFormed (with_node n cell)
offered_well_formed n bytes cell formed e =
    let f = offered_stands _ _ _ _ _ cell e in
    node_formed n cell formed (record { ordered = refl; room = f.room; declared = f.declared; below = f.below })

-- ---- what the nodes report

marks_more : (variables : List Class) (cells : List Cell) (Fs : List Family) (cell : Cell) (F : Family) → length cells ≡ length Fs
    → marks variables (cells ++ (cell ∷ [])) (Fs ++ (F ∷ [])) ≡ marks variables cells Fs ++ (mark variables cell F ∷ [])
unfolding marks
marks_more variables [] [] cell F e = refl
marks_more variables [] (G ∷ Fs) cell F e = absurd (omega arith)
marks_more variables (c ∷ cells) [] cell F e = absurd (omega arith)
marks_more variables (c ∷ cells) (G ∷ Fs) cell F e = ap (λ (os : List (Option ℕ)). mark variables c G ∷ os) (marks_more variables cells Fs cell F (omega arith))

-- in each layer the nodes before it report what they did
pub marks_added : (layer : Families → Family) (n : Netlist) (cell : Cell)
    → layer_marks layer (with_node n cell) ≡ layer_marks layer n ++ (get_or (layer_marks layer (with_node n cell)) (length n.nodes) none ∷ [])
marks_added layer n cell =
    let own = mark n.variables cell (layer (families_rule (families n) cell)) in
    longer
    ∙ ap (λ (o : Option ℕ). layer_marks layer n ++ (o ∷ []))
    (sym (ap (λ (os : List (Option ℕ)). get_or os (length n.nodes) none) longer ∙ get_or_at (layer_marks layer n) own [] none _ (layer_marks_length layer n)))
  where
    longer : layer_marks layer (with_node n cell) ≡ layer_marks layer n ++ (mark n.variables cell (layer (families_rule (families n) cell)) ∷ [])
    longer =
        unfold layer_marks families in
        (rw (table_snoc families_rule n.nodes cell, map-append)
        (marks_more n.variables n.nodes _ cell _ (omega (arith, length-map (families n) layer, families_length n))))
