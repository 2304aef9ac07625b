-- What an edit promises, clause by clause, from what its parts promise: the block is loaded, an edit of it by value is
-- made over the work bytes, the node records are stored, and reply and state are given. Assumes nothing.
use Rattle.std.specs.Prelude.{Result, Ok, Err}
use Rattle.rules.specs.declared.Refusal.{Refusal}
use Prim.Native.Nat.{ℕ, ◌≤◌}
use mathlib.Core.Path.{◌≡◌, refl, sym, subst, ◌∙◌}
use mathlib.Core.Logic.{◌↔◌}
use mathlib.Core.List.{List}
use lib.ListN.{length}
use Rattle.rules.specs.declared.NodeRecord.{NodeRecord}
use Rattle.rules.specs.Records.{Netlist, WellFormed, empty, written_out}
use Rattle.rules.specs.Families.{findings}
use Rattle.rules.specs.Checks.{Outcome, answered, refused, and_then, admitted}
use Rattle.rules.specs.Slices.{node_records, filled, nodes_after, reply}
use Rattle.rules.specs.Demands.{GlitchClear, NoSuspect, OneProbe}
use Rattle.rules.specs.Paper.{reply_of}
use Rattle.rule_laws.proofs.Halves.{half_clear}
use Rattle.rule_laws.proofs.Probe.{one_probe}
use Rattle.netlists.specs.Netlists.{flat_of, kept}
use Rattle.netlists.proofs.Netlists.{value_count}
use Rattle.marks.specs.Marks.{marks_of}
use Rattle.checker.specs.declared.Examined.{Examined}
use Rattle.checker.specs.Work.{replied, kept_netlist, kept_marks, Examines, record_in}
use Rattle.checker.proofs.Stored.{stored_length, netlist_stored, examined_stored, refused_unstored}
use Rattle.edit_rules.specs.declared.State.{State}
use Rattle.edit_rules.specs.Edits.{Edit, fits, edited, otherwise, netlist_after, reply_after, records_after, bytes_after, NothingSuspectAfter}
use Rattle.edit_rules.specs.Meaning.{state_of, IsOpen}
use Rattle.edit_steps.specs.Changes.{state_in}
use Rattle.edit_steps.specs.Changes.{Changes}
use Rattle.edit_steps.proofs.Changing.{value_state}
use Rattle.edits.specs.declared.Edited.{Edited}
use Rattle.edits.specs.Edited.{loaded_of, edited_of, stored_of, Kept}
use Rattle.edits.proofs.Loaded.{loaded_state, loaded_flat, loaded_marks}
use Rattle.edit_rules.proofs.Kept.{made, afresh_reply}

-- the clauses of the contract, in their order
pub record Promised (state : State) (e : Edit) (given : Edited) (ys ns : List NodeRecord) (zs ws : List ℕ) : Type 0 where
  pub reply : (n : Netlist) → IsOpen n state ys zs → reply_of given.reply ≡ reply_after n e (length ys) (length zs)
  pub state_after : (n : Netlist) → IsOpen n state ys zs → given.state ≡ state_of (netlist_after n e (length ys) (length zs))
  pub nodes : (n : Netlist) → IsOpen n state ys zs → ns ≡ records_after n e ys (length zs)
  pub work : (n : Netlist) → IsOpen n state ys zs → ws ≡ bytes_after n e (length ys) zs
  pub clear : (n : Netlist) → IsOpen n state ys zs
      → GlitchClear (reply_of given.reply) ↔ NothingSuspectAfter n e (length ys) (length zs)
  pub probe : (n : Netlist) → IsOpen n state ys zs → GlitchClear (reply_of given.reply)
      → OneProbe (written_out (netlist_after n e (length ys) (length zs)))
  pub early : (n : Netlist) → WellFormed n → state ≡ state_of n → (number place : ℕ) → fits n e (length ys) (length zs) ≡ refused number place
      → reply_of given.reply ≡ refused number place
  pub kept : Kept state given ys ns zs ws

-- ---- the block as it then is

-- the reply that is given
pub given_reply : (state : State) (examined : Result Examined Refusal)
    → reply_of (edited_of state examined).reply ≡ replied examined
given_reply state (Ok examined) = refl
given_reply state (Err r) = refl

-- the node records of what is kept, stored
kept_records : (o : Outcome Netlist) (examined : Result Examined Refusal) (ys : List NodeRecord)
    → replied examined ≡ and_then o (λ m. answered (findings m)) → (kept_netlist examined).count ≤ length ys
    → kept_netlist examined ≡ flat_of (kept o) → kept_marks examined ≡ marks_of (kept o)
    → stored_of examined ys ≡ filled node_records o ys
unfolding and_then kept filled
kept_records (answered m) (Ok examined) ys says enough f g =
    netlist_stored examined m f g ys (rw (value_count m f) at enough)
kept_records (answered m) (Err r) ys says enough f g = cc
kept_records (refused k p) (Ok examined) ys says enough f g = cc
kept_records (refused k p) (Err r) ys says enough f g = refl

-- the state that is given
kept_state : (n : Netlist) (o : Outcome Netlist) (examined : Result Examined Refusal) (state : State)
    → replied examined ≡ and_then o (λ m. answered (findings m)) → state ≡ state_of n
    → kept_netlist examined ≡ flat_of (kept o) → (edited_of state examined).state ≡ state_of (otherwise n o)
unfolding and_then kept otherwise
kept_state n (answered m) (Ok examined) state says is-n is_m = value_state m is_m
kept_state n (answered m) (Err r) state says is-n is_m = cc
kept_state n (refused k p) (Ok examined) state says is-n is_m = cc
kept_state n (refused k p) (Err r) state says is-n is_m = is-n

-- where the glitch half is clear, and what it means
clear_when : (n : Netlist) (e : Edit) (entries work : ℕ) → GlitchClear (reply_after n e entries work) ↔ NothingSuspectAfter n e entries work
unfolding reply_after GlitchClear and_then findings NoSuspect
clear_when n e entries work =
    (go (edited n e entries work) refl, λ s. rw s.made ((half_clear (λ F. F.glitch) s.netlist).1 s.no_suspect))
  where
    go : (o : Outcome Netlist) → edited n e entries work ≡ o → GlitchClear (and_then o (λ m. answered (findings m))) → NothingSuspectAfter n e entries work
    go (answered m) is c = record { netlist = m; made = is; no_suspect = (half_clear (λ F. F.glitch) m).0 c }
    go (refused k p) is c = absurd c

-- one probe learns nothing of the block as it now is
pub probe_after : (n : Netlist) (e : Edit) (entries work : ℕ) → WellFormed n → GlitchClear (reply_after n e entries work)
    → OneProbe (written_out (netlist_after n e entries work))
unfolding reply_after netlist_after and_then otherwise
probe_after n e entries work formed = go (edited n e entries work) refl
  where
    go : (o : Outcome Netlist) → edited n e entries work ≡ o → GlitchClear (and_then o (λ m. answered (findings m))) → OneProbe (written_out (otherwise n o))
    go (answered m) is c =
        one_probe (written_out m) entries work (subst GlitchClear (sym (afresh_reply entries work m (made n e entries work m formed is))) c)
    go (refused k p) is c = absurd (unfold GlitchClear in c)

-- ---- all clauses

-- the slice keeps its length, and a refusal gives the state that was handed in and leaves the slice as it was
stored_length_of : (examined : Result Examined Refusal) (ys : List NodeRecord)
    → length (stored_of examined ys) ≡ length ys
stored_length_of (Ok examined) ys = stored_length (record_in examined) ys examined.netlist.count
stored_length_of (Err r) ys = refl

refused_keeps : (state : State) (examined : Result Examined Refusal) (ys : List NodeRecord) (k p : ℕ)
    → replied examined ≡ refused k p → ((edited_of state examined).state ≡ state) × (stored_of examined ys ≡ ys)
refused_keeps state (Ok examined) ys k p says = cc
refused_keeps state (Err r) ys k p says = (refl, refl)

-- what an edit promises, from what `load`, `change` and `given` promise
pub promises : (state : State) (e : Edit) (ys : List NodeRecord) (zs ws : List ℕ) (examined : Result Examined Refusal)
    → Changes (loaded_of state ys).block (loaded_of state ys).marks e (length ys) examined zs ws
    → length ws ≡ length zs
    → Promised state e (edited_of state examined) ys (stored_of examined ys) zs ws
unfolding reply_after netlist_after records_after bytes_after
promises state e ys zs ws examined changes same =
    record {
      reply = is_reply;
      state_after = λ n o.
          let x = examines n o in
          kept_state n (edited n e (length ys) (length zs)) examined state x.reply o.its_state x.netlist;
      nodes = λ n o.
          let x = examines n o in
          let few = changes.contained.few_entries in
          kept_records (edited n e (length ys) (length zs)) examined ys x.reply few x.netlist x.marks;
      work = λ n o. (examines n o).work;
      clear = λ n o. subst (λ r. GlitchClear r ↔ NothingSuspectAfter n e (length ys) (length zs)) (sym (is_reply n o)) (clear_when n e (length ys) (length zs));
      probe = λ n o c. probe_after n e (length ys) (length zs) o.obeys (subst GlitchClear (is_reply n o) c);
      early = λ n formed is k p short.
          given_reply state examined ∙ changes.early n formed (loaded_state state ys ∙ is) k p short;
      kept = record {
        entries = stored_length_of examined ys;
        bytes = same;
        refused = λ k p says.
            let refuses = sym (given_reply state examined) ∙ says in
            let (same-state, same-nodes) = refused_keeps state examined ys k p refuses in
            (same-state, same-nodes, (changes.contained.unchanged k p refuses).1);
      };
    }
  where
    examines : (n : Netlist) → IsOpen n state ys zs → Examines (edited n e (length ys) (length zs)) examined zs ws
    examines n o = changes.made n o.obeys (loaded_flat o) (loaded_marks o) o.holds.families

    is_reply : (n : Netlist) → IsOpen n state ys zs
        → reply_of (edited_of state examined).reply ≡ reply_after n e (length ys) (length zs)
    is_reply n o = given_reply state examined ∙ (examines n o).reply

-- ---- a block that is opened

-- on a refusal the state is that of no variables and no nodes
pub opened_state : (examined : Result Examined Refusal) (n : Netlist) → kept_netlist examined ≡ flat_of n
    → (edited_of (state_in (flat_of empty)) examined).state ≡ state_of n
opened_state (Ok examined) n is = value_state n is
opened_state (Err r) n is = value_state n is

pub opened_nodes : (bytes : List ℕ) (ys : List NodeRecord) (work : ℕ) (examined : Result Examined Refusal)
    → replied examined ≡ reply bytes (length ys) work
    → kept_netlist examined ≡ flat_of (kept (admitted bytes (length ys) work))
    → kept_marks examined ≡ marks_of (kept (admitted bytes (length ys) work))
    → stored_of examined ys ≡ nodes_after bytes ys work
opened_nodes bytes ys work (Ok examined) says is-flat is-marked =
    examined_stored bytes ys work examined says is-flat is-marked
opened_nodes bytes ys work (Err r) says is-flat is-marked = refused_unstored bytes ys work r says
