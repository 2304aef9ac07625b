-- What the functions that take a node share: its families, worked out from work bytes that hold those of the
-- other nodes, make them hold all; with its marks, found over these, the marks of the others are those of all;
-- and an addition is what the offer and the slices make of it. Assumes nothing.
use Rattle.std.specs.Prelude.{Result, Ok, Err}
use Prim.Native.Nat.{ℕ, ◌+◌, ◌*◌, ◌-◌, ◌<◌, ◌≤◌}
use mathlib.Core.Path.{◌≡◌, refl, sym, ap, ap₂, ◌∙◌}
use mathlib.Core.List.{List, [], ◌∷◌, ◌++◌}
use mathlib.Core.Option.{none}
use native.Mathlib.Omega.{arith}
use lib.ListN.{length, get_or, drop, set, length-append, take-append-drop}
use lib.Seq.{take_at, get_or_at}
use Rattle.rules.specs.declared.Node.{Node}
use Rattle.rules.specs.declared.Refusal.{Refusal}
use Rattle.rules.specs.Records.{Cell, input, Netlist, WellFormed, with_node, most_variables, most_nodes}
use Rattle.rules.specs.Families.{Family, Families, families_rule, families, layer_marks}
use Rattle.rules.specs.Slices.{entry, mark_number, work_bytes}
use Rattle.rules.specs.Checks.{Outcome, answered, refused, and_then, slices_fit}
use Rattle.rules.specs.Paper.{number_of, place_of}
use Rattle.rule_laws.proofs.Marks.{layer_marks_length}
use Rattle.netlists.specs.declared.Netlist as Value
use Rattle.netlists.specs.Netlists.{flat_of, Placed}
use Rattle.netlists.proofs.Netlists.{value_count}
use Rattle.nodes.specs.Work.{so_far, with_families}
use Rattle.nodes.proofs.Nodes.{nodes_done, next_done, all_done}
use Rattle.suspects.specs.Suspects.{reports_in}
use Rattle.suspects.proofs.Search.{reports_are}
use Rattle.marks.specs.declared.Marks.{Marks}
use Rattle.marks.specs.Marks.{flat_marks, marks_in, marks_of, with_marks}
use Rattle.marks.proofs.Layers.{flat_more}
use Rattle.checker.specs.declared.Examined.{Examined}
use Rattle.checker.specs.Work.{Examines, ReadsMarks, JudgesSlices}
use Rattle.checker.proofs.Core.{answers, short, both_hold, held}
use Rattle.edit_rules.specs.Edits.{judged_node, offered, add, fits, edited}
use Rattle.edit_rules.specs.Meaning.{state_of}
use Rattle.edit_rules.proofs.Adding.{offered_lower, offered_small, offered_well_formed, marks_added}
use Rattle.edit_parts.proofs.Offers.{OffersNode, offers_none}
use Rattle.edit_steps.proofs.Changing.{value_state, state_count, state_variables, contained_refused, contained_looks, refused_early}
use Rattle.edit_rules.specs.Edits.{HoldsFamilies}
use Rattle.edit_steps.specs.Changes.{state_in}
use Rattle.edit_steps.specs.Changes.{Adds, Changes}

-- a node that is offered can stand at its number
pub offered_placed : (total v n k : ℕ) (body : List ℕ) (cell : Cell) → judged_node total v n k body ≡ answered cell → v ≤ most_variables → Placed n (entry cell)
offered_placed total v n k body cell e few =
    record { cell = cell; is = refl; lower = offered_lower total v n k body cell e; small = offered_small total v n k body cell e few }

-- the netlist with a node more has one more node
one_more : (n : Netlist) (cell : Cell) {count : ℕ} → count ≡ length n.nodes → count + 1 ≡ length (with_node n cell).nodes
one_more n cell e = omega (arith, length-append n.nodes (cell ∷ []))

-- work bytes that hold the families of a netlist are those of the longer one in which all nodes but the last are done
all_but_last : (n : Netlist) (cell : Cell) (before : List ℕ) → HoldsFamilies n before → nodes_done (with_node n cell) before (length n.nodes) ≡ before
unfolding nodes_done families
all_but_last n cell before holds =
    rw (take_at n.nodes (cell ∷ []) (length n.nodes) refl, ← holds) (take-append-drop (256 * length n.nodes) before)

-- with the families of the last, worked out from them, they hold all
added : (n : Netlist) (cell : Cell) (before : List ℕ) {count : ℕ} → count ≡ length n.nodes → WellFormed (with_node n cell) → HoldsFamilies n before
    → with_families before count (families_rule (so_far before count) cell)
    ≡ work_bytes (families (with_node n cell)) ++ drop (length (work_bytes (families (with_node n cell)))) before
added n cell before e formed holds =
    let longer = with_node n cell in
    let count = length n.nodes in
    let next = next_done longer formed before count (omega (arith, one_more n cell refl)) in
    rw e
    ((rw (all_but_last n cell before holds, get_or_at n.nodes cell [] (input 0) count refl) at next)
    ∙ rw (one_more n cell refl) (all_done longer before))

-- and with what the last one reports over those bytes, the marks of the others are those of all
marked : (n : Netlist) (cell : Cell) (rest : List ℕ) {last : ℕ} → last ≡ length n.nodes → WellFormed (with_node n cell)
    → let after = work_bytes (families (with_node n cell)) ++ rest in
    with_marks (marks_of n) last (get_or (reports_in (with_node n cell) 0 after) last none) (get_or (reports_in (with_node n cell) 1 after) last none)
    ≡ marks_of (with_node n cell)
unfolding marks_of marks_in
marked n cell rest e formed =
    let are = reports_are (with_node n cell) formed rest in
    rw (e, are.0, are.1) (ap₂ (λ (s g : List ℕ). record { settled = s; glitch = g }) (more (λ F. F.settled)) (more (λ F. F.glitch)))
  where
    more : (layer : Families → Family)
        → set (flat_marks (layer_marks layer n)) (length n.nodes) (mark_number (get_or (layer_marks layer (with_node n cell)) (length n.nodes) none))
        ≡ flat_marks (layer_marks layer (with_node n cell))
    more layer =
        let many = layer_marks_length layer n in
        let own = get_or (layer_marks layer (with_node n cell)) (length n.nodes) none in
        ap (λ (k : ℕ). set (flat_marks (layer_marks layer n)) k (mark_number own)) (sym many)
        ∙ flat_more (layer_marks layer n) own (omega (arith, one_more n cell refl, formed.few_nodes))
        ∙ ap flat_marks (sym (marks_added layer n cell))

-- what is told of the slices for one node more
module _ (block : Value.Netlist) (marks : Marks) (e : Node) (entries : ℕ) (before : List ℕ) where
  -- they are too short
  pub no_room : {r : Refusal} → JudgesSlices (block.count + 1) entries (length before) (Err r)
      → Adds block marks e entries (Err r) before before
  unfolding and_then
  no_room {r} fit = record {
    contained = contained_refused entries r before;
    early = λ n cell same k p refuses. rw refuses at (examines n cell same).reply;
    made = λ n cell formed same known its holds. examines n cell (value_count n same);
  }
    where
      examines : (n : Netlist) (cell : Cell) → block.count ≡ length n.nodes
          → Examines (slices_fit entries (length before) (with_node n cell)) (Err r) before before
      examines n cell same = short fit (with_node n cell) (one_more n cell same)

  -- they hold it: what is read from the marks with its own, which are found over the work bytes with its families
  pub looked : (examined : Examined) (value : Value.Netlist) (longer : Marks) (after : List ℕ)
      → JudgesSlices (block.count + 1) entries (length before) (Ok tt)
      → block.count < most_nodes → value.count ≡ block.count + 1
      → ((n : Netlist) (cell : Cell) → block ≡ flat_of n → e ≡ entry cell → value ≡ flat_of (with_node n cell))
      → ((cell : Cell) → e ≡ entry cell → after ≡ with_families before block.count (families_rule (so_far before block.count) cell))
      → ((n : Netlist) → value ≡ flat_of n
      → longer ≡ with_marks marks (value.count - 1) (get_or (reports_in n 0 after) (value.count - 1) none) (get_or (reports_in n 1 after) (value.count - 1) none))
      → ReadsMarks value longer examined → Adds block marks e entries (Ok examined) before after
  looked examined value longer after fit few more with_it written found looks =
      record {
        contained =
            let room = fit.room refl in
            contained_looks entries value longer examined before after (omega (arith, room.0)) (omega arith) looks;
        early = λ n cell same k p refuses. cc (fits_it n cell same);
        made = λ n cell formed same known its holds.
            let is = with_it n cell same its in
            let work = written cell its ∙ added n cell before (value_count n same) formed holds in
            let own : longer ≡ marks_of (with_node n cell) = found (with_node n cell) is ∙ rw (known, work) (marked n cell _ (omega (arith, value_count n same)) formed) in
            held entries before (with_node n cell) (fits_it n cell (value_count n same))
            (answers value (with_node n cell) is longer own examined before work looks);
      }
    where
      fits_it : (n : Netlist) (cell : Cell) → block.count ≡ length n.nodes → slices_fit entries (length before) (with_node n cell) ≡ answered (with_node n cell)
      fits_it n cell same = both_hold fit (with_node n cell) (one_more n cell same) refl

-- what is offered to a block by value: it goes by its counts
abbrev pub offered_to : Value.Netlist → (bytes : List ℕ) → Outcome Cell
offered_to block bytes = judged_node (length bytes) block.variables block.count (get_or bytes 0 0) (drop 1 bytes)

module _ (block : Value.Netlist) (marks : Marks) (bytes : List ℕ) where
  -- of a netlist that has these
  module _ (n : Netlist) where
    by_counts : block.variables ≡ length n.variables → block.count ≡ length n.nodes → offered_to block bytes ≡ offered n bytes
    by_counts v c = rw (v, c)

    by_state : state_in block ≡ state_of n → offered_to block bytes ≡ offered n bytes
    by_state e = by_counts (state_variables n e) (state_count n e)

  module _ (entries : ℕ) (before : List ℕ) where
    pub refuses : (r : Refusal) → refused (number_of r) (place_of r) ≡ and_then (offered_to block bytes) (λ cell. answered (entry cell))
        → Changes block marks (add bytes) entries (Err r) before before
    unfolding fits and_then
    refuses r offer =
        refused_early block marks (add bytes) entries r before
        (λ n formed same. rw (sym (by_state n same) ∙ offers_none (offered_to block bytes) _ _ offer))

    pub adds : (examined : Result Examined Refusal) (after : List ℕ) (e : Node) → OffersNode (offered_to block bytes) e
        → Adds block marks e entries examined before after
        → Changes block marks (add bytes) entries examined before after
    unfolding edited fits and_then
    adds examined after e o a =
        record {
          contained = a.contained;
          early = λ n formed same k p early.
              a.early n o.cell (state_count n same) k p (rw (sym (by_state n same) ∙ o.is) at early);
          made = λ n formed same known holds.
              let is = sym (by_state n (value_state n same)) ∙ o.is in
              rw is (a.made n o.cell (offered_well_formed n bytes o.cell formed is) same known o.its holds);
        }
