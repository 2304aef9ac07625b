-- Netlists by value: a store behind the entries is one entry more, each entry stands in the flat form,
-- and no two netlists have the same one. By laws of padded lists of any length, so that no array is unfolded.
-- Assumes nothing.
use Prim.Native.Nat.{ℕ, zero, suc, ◌+◌, ◌-◌, ◌≤◌, ◌<◌}
use mathlib.Core.Path.{◌≡◌, refl, sym, ap, subst, ◌∙◌}
use mathlib.Core.Bool.{cond}
use mathlib.Core.List.{List, [], ◌∷◌, ◌++◌, map, map-append, append-nil}
use native.Mathlib.Nat.{sub-zero}
use native.Mathlib.Omega.{arith}
use lib.Dec.{eqb}
use lib.ListN.{length, get_or, take, set, replicate, length-append, length-map, length-replicate, get_or-append}
use lib.Seq.{append_snoc, set-append_seam, take_at, ext_get_or}
use borrow.Author.Tests.{ne_eqb}
use Rattle.rules.specs.declared.Node.{Node}
use Rattle.rules.specs.Records.{Class, public, kind_number, operand_count, listed, Cell, input, gate, Record, end, variable, node, Netlist, WellFormed, with_variable, with_node, said, class_of, class_byte, kind_of, operands, set_of, most_variables, most_nodes, most_body}
use Rattle.rules.specs.Slices.{node_of, entry}
use Rattle.rules.specs.Checks.{most_work}
use Rattle.rule_laws.proofs.Members.{all_at}
use Rattle.rule_laws.proofs.Bounds.{set_small}
use Rattle.rule_laws.proofs.Operands.{first_listed, first_same, known, few_operands}
use Rattle.rule_laws.proofs.Records.{class_of_byte}
use Rattle.netlists.specs.declared.Netlist.{Netlist as Flat}
use Rattle.netlists.specs.Netlists.{padded, blank, flat_of, Formed, Ready, Placed}

-- ---- padded lists

module _ {ℓ} {A : Type ℓ} (k : ℕ) (rest : A) where
  pub padded_none : padded k rest [] ≡ replicate k rest
  unfolding padded
  padded_none = rw sub-zero

  -- the entry behind the last one is stored
  pub padded_set : (xs : List A) (v : A) → length xs < k → set (padded k rest xs) (length xs) v ≡ padded k rest (xs ++ (v ∷ []))
  unfolding padded
  padded_set xs v h =
      let left = k - suc (length xs) in
      let before : k - length xs ≡ suc left = omega arith in
      let after : k - length (xs ++ (v ∷ [])) ≡ left = omega (arith, length-append xs (v ∷ [])) in
      rw (before, after) (set-append_seam xs rest (replicate left rest) v ∙ sym (append_snoc xs v (replicate left rest)))

  pub padded_length : (xs : List A) → length xs ≤ k → length (padded k rest xs) ≡ k
  unfolding padded
  padded_length xs h = omega (arith, length-append xs (replicate (k - length xs) rest), length-replicate (k - length xs) rest)

  pub padded_first : (xs : List A) → take (length xs) (padded k rest xs) ≡ xs
  unfolding padded
  padded_first xs = take_at xs (replicate (k - length xs) rest) (length xs) refl

  padded_at : (xs : List A) (i : ℕ) (d : A) → i < length xs → get_or (padded k rest xs) i d ≡ get_or xs i d
  unfolding padded
  padded_at xs i d h = get_or-append xs (replicate (k - length xs) rest) d i h

  -- what stands beyond the entries is what is read beyond the list
  pub padded_same : (xs : List A) (i : ℕ) → get_or (padded k rest xs) i rest ≡ get_or xs i rest
  unfolding padded
  padded_same xs i = beyond xs (k - length xs) i
    where
      all_rest : (n i : ℕ) → get_or (replicate n rest) i rest ≡ rest
      all_rest zero i = refl
      all_rest (suc n) zero = refl
      all_rest (suc n) (suc i) = all_rest n i

      beyond : (xs : List A) (n i : ℕ) → get_or (xs ++ replicate n rest) i rest ≡ get_or xs i rest
      beyond [] n i = all_rest n i
      beyond (x ∷ xs) n zero = refl
      beyond (x ∷ xs) n (suc i) = beyond xs n i

-- of entries that f makes
module _ {ℓ κ} {A : Type ℓ} {B : Type κ} (f : A → B) (k : ℕ) (rest : B) where
  pub made_set : (xs : List A) (x : A) → length xs < k → set (padded k rest (map f xs)) (length xs) (f x) ≡ padded k rest (map f (xs ++ (x ∷ [])))
  made_set xs x h =
      rw (map-append, ← (length-map xs f)) (padded_set k rest (map f xs) (f x) (omega (arith, length-map xs f)))

  made_at : (xs : List A) (i : ℕ) (d : A) → i < length xs → get_or (padded k rest (map f xs)) i rest ≡ f (get_or xs i d)
  made_at xs i d h = padded_at k rest (map f xs) i rest (omega (arith, length-map xs f)) ∙ map_at xs i h
    where
      map_at : (xs : List A) (i : ℕ) → i < length xs → get_or (map f xs) i rest ≡ f (get_or xs i d)
      map_at [] i h = absurd (omega arith)
      map_at (x ∷ xs) zero h = refl
      map_at (x ∷ xs) (suc i) h = map_at xs i (omega arith)

  -- where g undoes f, of the lists of one length only one has these entries
  module _ (g : B → A) (undo : (a : A) → g (f a) ≡ a) where
    map_back : (xs : List A) → map g (map f xs) ≡ xs
    map_back [] = refl
    map_back (x ∷ xs) = rw (undo x, map_back xs)

    made_back : (xs ys : List A) → length xs ≡ length ys → padded k rest (map f xs) ≡ padded k rest (map f ys) → xs ≡ ys
    unfolding padded
    made_back xs ys same e = sym (back xs) ∙ ap (λ (l : List B). map g (take (length xs) l)) e ∙ rw same (back ys)
      where
        back : (zs : List A) → map g (take (length zs) (padded k rest (map f zs))) ≡ zs
        back zs = rw (take_at (map f zs) _ (length zs) (length-map zs f)) (map_back zs)

-- ---- flat netlists

-- each class and each node stands in the flat netlist
pub flat_class_at : (n : Netlist) (i : ℕ) → i < length n.variables → get_or (flat_of n).classes i 0 ≡ class_byte (get_or n.variables i public)
unfolding flat_of
flat_class_at n i h = made_at class_byte most_variables 0 n.variables i public h

pub flat_entry_at : (n : Netlist) (i : ℕ) → i < length n.nodes → get_or (flat_of n).nodes i blank ≡ entry (get_or n.nodes i (input 0))
unfolding flat_of
flat_entry_at n i h = made_at entry most_nodes blank n.nodes i (input 0) h

-- the operand fields of a node's record: they are its operands, with 0 beyond them
abbrev pub fields : Node → List ℕ
fields e = e.first ∷ e.second ∷ []

pub operand_fields : (k s : ℕ) (l : List ℕ) (j : ℕ) → j < most_body → get_or (fields (node_of k l s)) j 0 ≡ get_or l j 0
operand_fields k s l zero h = refl
operand_fields k s l (suc zero) h = refl
operand_fields k s l (suc (suc j)) h = absurd (omega arith)

pub fields_padded : (cell : Cell) → fields (entry cell) ≡ padded most_body 0 (operands cell)
unfolding entry
fields_padded cell =
    ext_get_or 0 _ _ (sym (padded_length most_body 0 (operands cell) (few_operands cell)))
    (λ j h. operand_fields (kind_of cell) (set_of cell) (operands cell) j h ∙ sym (padded_same most_body 0 (operands cell) j))

pub node_same : (k s : ℕ) (l m : List ℕ) → ((j : ℕ) → j < most_body → get_or l j 0 ≡ get_or m j 0) → node_of k l s ≡ node_of k m s
node_same k s l m e = rw (e 0 (omega arith), e 1 (omega arith))

-- a node is read back off its record
node_in : Record → Cell
node_in end = input 0
node_in (variable c) = input 0
node_in (node cell) = cell

cell_of : Node → Cell
cell_of e = cond (eqb e.kind 2) (input e.set) (node_in (said e.kind (fields e)))

cell_back : (c : Cell) → cell_of (entry c) ≡ c
unfolding cell_of node_in entry kind_of operands set_of
cell_back (input s) = refl
cell_back (gate kind ops) =
    let l = listed (operand_count kind) ops in
    rw (ne_eqb (kind_number kind) 2 (λ e. omega (arith, (known kind).above)), (known kind).says (fields (node_of (kind_number kind) l 0)))
    (ap (gate kind)
    (first_same (operand_count kind) _ (l ++ [])
    (λ j h. operand_fields (kind_number kind) 0 l j (omega (arith, (known kind).few)) ∙ ap (λ (m : List ℕ). get_or m j 0) (sym (append-nil l)))
    ∙ first_listed (operand_count kind) ops []))

-- so no two nodes have the same record
pub entry_one : (c d : Cell) → entry c ≡ entry d → c ≡ d
entry_one c d e = sym (cell_back c) ∙ ap cell_of e ∙ cell_back d

-- no two netlists have the same flat form
flat_injective : (n m : Netlist) → flat_of n ≡ flat_of m → n ≡ m
unfolding flat_of
flat_injective n m e =
    let variables =
    made_back class_byte most_variables 0 class_of class_of_byte n.variables m.variables (ap (λ (t : Flat). t.variables) e) (ap (λ (t : Flat). t.classes) e) in
    let nodes = made_back entry most_nodes blank cell_of cell_back n.nodes m.nodes (ap (λ (t : Flat). t.count) e) (ap (λ (t : Flat). t.nodes) e) in
    let same : ◌≡◌ {A = Netlist} (record { variables = n.variables; nodes = n.nodes }) (record { variables = m.variables; nodes = m.nodes }) = cc in
    same

-- ---- a netlist by value

-- a class byte, or a node's record, is stored behind the last one
abbrev pub with_class : Flat → (byte : ℕ) → Flat
with_class value b =
    record {
      variables = value.variables + 1;
      count = value.count;
      classes = set value.classes value.variables b;
      nodes = value.nodes;
    }

abbrev pub with_entry : Flat → Node → Flat
with_entry value last =
    record {
      variables = value.variables;
      count = value.count + 1;
      classes = value.classes;
      nodes = set value.nodes value.count last;
    }

module _ {value : Flat} (n : Netlist) (e : value ≡ flat_of n) where
  pub value_variables : value.variables ≡ length n.variables
  unfolding flat_of
  value_variables = ap (λ (t : Flat). t.variables) e

  pub value_count : value.count ≡ length n.nodes
  unfolding flat_of
  value_count = ap (λ (t : Flat). t.count) e

  pub value_entry : (i : ℕ) → i < value.count → get_or value.nodes i blank ≡ entry (get_or n.nodes i (input 0))
  value_entry i h = ap (λ (t : Flat). get_or t.nodes i blank) e ∙ flat_entry_at n i (omega (arith, value_count))

  -- with one class or one node's record more it is that of one variable or one node more
  pub value_variable : (c : Class) → value.variables < most_variables → with_class value (class_byte c) ≡ flat_of (with_variable n c)
  unfolding flat_of
  value_variable c h =
      let room : length n.variables < most_variables = omega (arith, value_variables) in
      rw (e, made_set class_byte most_variables 0 n.variables c room) (cc (length-append n.variables (c ∷ [])))

  pub value_node : (cell : Cell) → value.count < most_nodes → with_entry value (entry cell) ≡ flat_of (with_node n cell)
  unfolding flat_of
  value_node cell h =
      let room : length n.nodes < most_nodes = omega (arith, value_count) in
      rw (e, made_set entry most_nodes blank n.nodes cell room) (cc (length-append n.nodes (cell ∷ [])))

-- of one that obeys the record rules
module _ {value : Flat} (f : Formed value) where
  pub few_variables : value.variables ≤ most_variables
  few_variables = omega (arith, value_variables f.netlist f.is, f.obeys.few_variables)

  pub few_nodes : value.count ≤ most_nodes
  few_nodes = omega (arith, value_count f.netlist f.is, f.obeys.few_nodes)

  -- so many work bytes have room for it, as they have for every netlist
  pub all_ready : (work : ℕ) → work ≡ most_work → Ready value work
  all_ready work e = record { formed = f; room = omega (arith, few_nodes) }

  -- it is the value of one netlist only, and that one obeys the rules
  pub one_netlist : (n : Netlist) → value ≡ flat_of n → f.netlist ≡ n
  one_netlist n e = flat_injective f.netlist n (sym f.is ∙ e)

  pub well_formed : (n : Netlist) → value ≡ flat_of n → WellFormed n
  well_formed n e = subst (λ (m : Netlist). WellFormed m) (one_netlist n e) f.obeys

  -- each node can stand at its number
  pub placed_at : (i : ℕ) → i < value.count → Placed i (get_or value.nodes i blank)
  placed_at i h =
      let here : i < length f.netlist.nodes = omega (arith, value_count f.netlist f.is) in
      record { cell = _; is = value_entry f.netlist f.is i h; lower = f.obeys.lower i here; small = set_small f.netlist f.obeys i here }

-- the operands of a node that can stand at a number are lower, and so is 0 where the number is not 0 itself
pub placed_operand : {i : ℕ} {node : Node} (p : Placed i node) → 0 < i → (j : ℕ) → get_or (operands p.cell) j 0 < i
placed_operand {i} p some = all_at (λ a. a < i) (operands p.cell) 0 p.lower some

pub placed_later : {i j : ℕ} {node : Node} → i ≤ j → Placed i node → Placed j node
placed_later h p = record { cell = p.cell; is = p.is; lower = λ a t. omega (arith, p.lower a t); small = p.small }
