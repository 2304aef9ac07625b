-- A node removed: what is examined where another node still uses the node and where it is removed, and what a removal
-- comes to before that. Assumes nothing.
use Rattle.std.specs.Prelude.{Result, Ok, Err}
use Rattle.rules.specs.declared.Refusal.{Refusal}
use Prim.Native.Nat.{ℕ, ◌+◌, ◌*◌, ◌≤◌, ◌<◌}
use mathlib.Core.Path.{◌≡◌, refl, sym, ap, ap₂, ◌∙◌}
use mathlib.Core.List.{List}
use mathlib.Core.Option.{Option}
use native.Mathlib.Omega.{arith}
use lib.ListN.{length}
use borrow.Author.Tests.{lt-ltb, le-ltb, le-leb, lt-leb}
use Rattle.rules.specs.declared.Reason.TheVariants.{StillNamed}
use Rattle.rules.specs.Lists.{without}
use Rattle.rules.specs.Records.{Netlist, WellFormed, most_nodes}
use Rattle.rules.specs.Checks.{answered, refused, and_then, judged, slices_fit, node_check}
use Rattle.rule_laws.proofs.Marks.{layer_marks_length}
use Rattle.netlists.specs.declared.Netlist as Value
use Rattle.netlists.specs.Netlists.{flat_of}
use Rattle.netlists.proofs.Netlists.{value_count}
use Rattle.marks.specs.declared.Marks.{Marks}
use Rattle.marks.specs.Marks.{marks_in, marks_of}
use Rattle.checker.specs.declared.Examined.{Examined}
use Rattle.checker.specs.Work.{Examines, ReadsMarks, JudgesSlices}
use Rattle.checker.proofs.Core.{refusal, answers, both_hold}
use Rattle.edit_rules.specs.Edits.{remove, without_node, lowest_user, removed_if_unused, fits, edited}
use Rattle.edit_parts.specs.Parts.{moved_down}
use Rattle.edit_rules.specs.Edits.{HoldsFamilies}
use Rattle.edit_parts.proofs.MovesDown.{moved_families}
use Rattle.edit_steps.specs.Changes.{RemovesUnused, Changes}
use Rattle.edit_steps.proofs.Changing.{state_count, contained_refused, contained_looks}
use Rattle.edit_rules.proofs.Removal.{Unused, marks_removed}

-- a node is removed, which is used, the lowest time by a node `by`, or is not
module _ (block : Value.Netlist) (marks : Marks) (removed : ℕ) where
  pub still_used : (by : ℕ) (before : List ℕ)
      → ((n : Netlist) → WellFormed n → block ≡ flat_of n → (by < length n.nodes) × (by ≡ lowest_user removed n.nodes))
      → RemovesUnused block marks removed (Err (record { reason = StillNamed; place = by })) before before
  unfolding removed_if_unused judged
  still_used by before lowest = record {
    contained = contained_refused block.count _ before;
    made = λ n formed is known holds.
        let (inside, named) = lowest n formed is in
        rw (← named, lt-ltb by (length n.nodes) inside) (refusal (record { reason = StillNamed; place = by }) before);
  }

  pub removed_unused : (value : Value.Netlist) (fewer : Marks) (examined : Examined) (before after : List ℕ)
      → ((n : Netlist) → WellFormed n → block ≡ flat_of n → lowest_user removed n.nodes ≡ length n.nodes) → removed < block.count
      → block.count ≤ most_nodes → 256 * block.count ≤ length before
      → value.count + 1 ≡ block.count → ((n : Netlist) → WellFormed n → block ≡ flat_of n → value ≡ flat_of (without_node n removed))
      → ((settled glitch : List (Option ℕ)) → length settled ≡ block.count → length glitch ≡ block.count → marks ≡ marks_in settled glitch
      → fewer ≡ marks_in (without removed settled) (without removed glitch))
      → after ≡ moved_down removed block.count before → ReadsMarks value fewer examined
      → RemovesUnused block marks removed (Ok examined) before after
  unfolding removed_if_unused judged
  removed_unused value fewer examined before after lowest there small room one_less is_without are-without moved l = record {
    contained = contained_looks block.count value fewer examined before after (omega arith) (omega arith) l;
    made = λ n formed is known holds. rw (lowest n formed is, le-ltb (length n.nodes) (length n.nodes) (omega arith)) (made n formed is known holds);
  }
    where
      -- so are the marks, where no node uses it
      own : (n : Netlist) → block ≡ flat_of n → marks ≡ marks_of n → Unused removed n.nodes → fewer ≡ marks_of (without_node n removed)
      own n is known none = unfold marks_of in
          (are-without _ _ (layer_marks_length _ n ∙ sym (value_count n is)) (layer_marks_length _ n ∙ sym (value_count n is)) known
          ∙ ap₂ marks_in (sym (marks_removed n removed none (λ F. F.settled))) (sym (marks_removed n removed none (λ F. F.glitch))))

      made : (n : Netlist) → WellFormed n → block ≡ flat_of n → marks ≡ marks_of n → HoldsFamilies n before
          → Examines (answered (without_node n removed)) (Ok examined) before after
      made n formed is known holds =
          let none : Unused removed n.nodes = omega (arith, lowest n formed is, value_count n is) in
          let same = value_count n is in
          let work = moved ∙ ap (λ (k : ℕ). moved_down removed k before) same ∙ moved_families n removed none (omega arith) before (omega arith) holds in
          answers value (without_node n removed) (is_without n formed is) fewer (own n is known none) examined before work l

-- ---- an edit

-- what a removal of a netlist of so many nodes comes to before refusal 14
module _ (count removed entries work : ℕ) (n : Netlist) (same : count ≡ length n.nodes) where
  pub no_such_node : count ≤ removed → fits n (remove removed) entries work ≡ refused 12 removed
  unfolding fits node_check judged and_then
  no_such_node h = rw (← same, le-leb _ _ h)

  pub by_slices : removed < count → fits n (remove removed) entries work ≡ slices_fit entries work n
  unfolding fits node_check judged and_then
  by_slices there = rw (← same, lt-leb _ _ there)

-- both slices hold the nodes, and the node is removed or still used
pub removes : (block : Value.Netlist) (marks : Marks) (removed entries : ℕ) (examined : Result Examined Refusal)
    (before after : List ℕ) → removed < block.count → JudgesSlices block.count entries (length before) (Ok tt)
    → RemovesUnused block marks removed examined before after
    → Changes block marks (remove removed) entries examined before after
unfolding edited and_then
removes block marks removed entries examined before after there slices given = record {
  contained = record {
    few_entries = omega (arith, given.contained.few_entries, (slices.room refl).0);
    few_nodes = given.contained.few_nodes;
    unchanged = given.contained.unchanged;
  };
  early = λ n formed s k p f. cc (fit n (state_count n s));
  made = λ n formed is known holds. rw (fit n (value_count n is)) (given.made n formed is known holds);
}
  where
    fit : (n : Netlist) → block.count ≡ length n.nodes → fits n (remove removed) entries (length before) ≡ answered n
    fit n same = by_slices block.count removed entries (length before) n same there ∙ both_hold slices n same refl
