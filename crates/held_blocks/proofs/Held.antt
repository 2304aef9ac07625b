-- What opening or an edit gives is held: the netlist that it comes to obeys the record rules, and the work bytes hold
-- its families; and a refused edit changes nothing. Assumes nothing.
use Rattle.std.specs.Prelude.{Result, Ok, Err}
use Prim.Native.Nat.{ℕ}
use mathlib.Core.Path.{◌≡◌, refl}
use mathlib.Core.List.{List, []}
use lib.ListN.{length}
use Rattle.rules.specs.declared.Refusal.{Refusal}
use Rattle.rules.specs.Records.{Netlist, empty}
use Rattle.rules.specs.Families as Families
use Rattle.rules.specs.Families.{families, layer_marks}
use Rattle.rules.specs.Slices.{work_bytes, filled, work_after}
use Rattle.rules.specs.Checks.{Outcome, answered, refused, and_then, admitted}
use Rattle.rule_laws.proofs.Reading.{empty_formed, read_well_formed}
use Rattle.rule_laws.proofs.Room.{admitted_says}
use Rattle.netlists.specs.declared.Netlist as Value
use Rattle.netlists.specs.Netlists.{flat_of, kept}
use Rattle.marks.specs.declared.Marks.{Marks}
use Rattle.marks.specs.Marks.{marks_in, marks_of}
use Rattle.checker.specs.declared.Examined.{Examined}
use Rattle.checker.specs.Work.{replied, Examines}
use Rattle.edit_rules.specs.Edits.{Edit, edited, otherwise, netlist_after, reply_after}
use Rattle.edit_rules.proofs.Kept.{made, written_families}
use Rattle.edit_steps.specs.Changes.{Changes}
use Rattle.held_blocks.specs.Held.{IsHeld}

-- of no nodes, no node is marked
pub none_marked : marks_of empty ≡ marks_in [] []
unfolding marks_of layer_marks Families.marks
none_marked = refl

-- a block that is opened, and the one of no nodes where it is refused
pub opened_held : (bytes : List ℕ) (entries : ℕ) (value : Value.Netlist) (marks : Marks) (before after : List ℕ)
    → let o = admitted bytes entries (length before) in
    value ≡ flat_of (kept o) → marks ≡ marks_of (kept o) → after ≡ work_after bytes entries before → IsHeld (kept o) value marks after
unfolding kept work_after filled
opened_held bytes entries value marks before after v m w = go (admitted bytes entries (length before)) refl v m w
  where
    go : (o : Outcome Netlist) → admitted bytes entries (length before) ≡ o → value ≡ flat_of (kept o) → marks ≡ marks_of (kept o)
        → after ≡ filled (λ n. work_bytes (families n)) o before → IsHeld (kept o) value marks after
    go (answered n) is v m w =
        record {
          obeys = read_well_formed bytes n (admitted_says bytes entries (length before) n is).is_read;
          its_value = v;
          its_marks = m;
          families = rw w (written_families n before);
        }
    go (refused k p) is v m w =
        record {
          obeys = empty_formed;
          its_value = v;
          its_marks = m;
          families = written_families empty before;
        }

-- and one that is edited
module _ {n : Netlist} {value : Value.Netlist} {marks : Marks} {before after : List ℕ} (held : IsHeld n value marks before)
    (e : Edit) (entries : ℕ) {examined : Result Examined Refusal}
    (changes : Changes value marks e entries examined before after) where
  comes_to : Examines (edited n e entries (length before)) examined before after
  comes_to = changes.made n held.obeys held.its_value held.its_marks held.families

  pub edit_reply : replied examined ≡ reply_after n e entries (length before)
  unfolding reply_after
  edit_reply = comes_to.reply

-- it is answered, and the block is the one that was made
module _ {n : Netlist} {value : Value.Netlist} {marks : Marks} {before after : List ℕ}
    (held : IsHeld n value marks before) (e : Edit) (entries : ℕ) where
  pub made_held : {examined : Examined} → Changes value marks e entries (Ok examined) before after
      → IsHeld (netlist_after n e entries (length before)) examined.netlist examined.marks after
  unfolding and_then kept filled netlist_after otherwise
  made_held {examined} changes = go (edited n e entries (length before)) refl (comes_to held e entries changes)
    where
      go : (o : Outcome Netlist) → edited n e entries (length before) ≡ o → Examines o (Ok examined) before after
          → IsHeld (otherwise n o) examined.netlist examined.marks after
      go (answered m) is x =
          record {
            obeys = (made n e entries (length before) m held.obeys is).obeys;
            its_value = x.netlist;
            its_marks = x.marks;
            families = rw x.work (written_families m before);
          }
      go (refused k p) is x = cc (x.reply)

  -- it is refused, and the block is the one of before
  pub kept_held : {r : Refusal} → Changes value marks e entries (Err r) before after
      → IsHeld (netlist_after n e entries (length before)) value marks after
  unfolding and_then filled netlist_after otherwise
  kept_held {r} changes = go (edited n e entries (length before)) (comes_to held e entries changes)
    where
      go : (o : Outcome Netlist) → Examines o (Err r) before after → IsHeld (otherwise n o) value marks after
      go (answered m) x = cc (x.reply)
      go (refused k p) x = rw x.work held
