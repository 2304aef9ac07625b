-- What any edit of a block by value shares: the state of a netlist by value is the netlist's; a refusal keeps nothing
-- and changes nothing, whatever the block is, and one that goes by the state and the lengths is that of every
-- netlist with this state. Assumes nothing.
use Rattle.std.specs.Prelude.{Ok, Err}
use Prim.Native.Nat.{ℕ, ◌≤◌}
use mathlib.Core.Path.{◌≡◌, refl, ap}
use mathlib.Core.List.{List}
use native.Mathlib.Omega.{arith}
use lib.ListN.{length}
use Rattle.rules.specs.declared.Refusal.{Refusal}
use Rattle.rules.specs.Records.{Netlist, empty, WellFormed, most_nodes}
use Rattle.rules.specs.Checks.{refused, and_then}
use Rattle.rules.specs.Paper.{number_of, place_of}
use Rattle.netlists.specs.declared.Netlist as Value
use Rattle.netlists.specs.Netlists.{flat_of}
use Rattle.netlists.proofs.Netlists.{value_count}
use Rattle.marks.specs.declared.Marks.{Marks}
use Rattle.checker.specs.declared.Examined.{Examined}
use Rattle.checker.specs.Work.{ReadsMarks}
use Rattle.checker.proofs.Core.{refusal}
use Rattle.edit_rules.specs.declared.State.{State}
use Rattle.edit_rules.specs.Edits.{Edit, add, remove, fits, edited}
use Rattle.edit_rules.specs.Meaning.{state_of}
use Rattle.edit_steps.specs.Changes.{state_in}
use Rattle.edit_steps.specs.Changes.{Contained, Changes}

-- a block by value of a netlist has its state, and such a state tells the number of nodes
pub value_state : {block : Value.Netlist} (n : Netlist) → block ≡ flat_of n → state_in block ≡ state_of n
unfolding flat_of state_of
value_state n is = ap (λ (b : Value.Netlist). state_in b) is

pub state_count : {state : State} (n : Netlist) → state ≡ state_of n → state.count ≡ length n.nodes
unfolding state_of
state_count n s = ap (λ (t : State). t.count) s

pub state_variables : {state : State} (n : Netlist) → state ≡ state_of n → state.variables ≡ length n.variables
unfolding state_of
state_variables n s = ap (λ (t : State). t.variables) s

-- a refusal keeps nothing and changes nothing
pub contained_refused : (entries : ℕ) (r : Refusal) (before : List ℕ) → Contained entries (Err r) before before
contained_refused entries r before =
    let none = value_count empty refl in
    record { few_entries = omega (arith, none); few_nodes = omega (arith, none); unchanged = λ k p e. (refl, refl) }

-- and an answer is no refusal
pub contained_looks : (entries : ℕ) (value : Value.Netlist) (marks : Marks) (examined : Examined) (before after : List ℕ)
    → value.count ≤ entries → value.count ≤ most_nodes → ReadsMarks value marks examined
    → Contained entries (Ok examined) before after
contained_looks entries value marks examined before after few small l =
    record { few_entries = rw l.netlist few; few_nodes = rw l.netlist small; unchanged = λ k p r. cc }

-- what is refused by the state and the lengths alone is refused
pub edited_refused : (n : Netlist) (e : Edit) (entries work k p : ℕ) → fits n e entries work ≡ refused k p → edited n e entries work ≡ refused k p
unfolding edited and_then
edited_refused n (add bytes) entries work k p f = f
edited_refused n (remove i) entries work k p f = rw f

-- a refusal that goes by the state and the lengths alone
pub refused_early : (block : Value.Netlist) (marks : Marks) (e : Edit) (entries : ℕ) (r : Refusal) (before : List ℕ)
    → ((n : Netlist) → WellFormed n → state_in block ≡ state_of n → fits n e entries (length before) ≡ refused (number_of r) (place_of r))
    → Changes block marks e entries (Err r) before before
refused_early block marks e entries r before says = record {
  contained = contained_refused entries r before;
  early = λ n formed s k p f.
      let number : number_of r ≡ k = cc (says n formed s) in
      let place : place_of r ≡ p = cc (says n formed s) in
      rw (number, place);
  made = λ n formed is known holds.
      rw (edited_refused n e entries (length before) _ _ (says n formed (value_state n is))) (refusal r before);
}
