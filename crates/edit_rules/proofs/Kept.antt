-- What an edit keeps: the netlist that it makes obeys the record rules, and both slices have room for it.
-- So the netlist, written out, is read and checked afresh in the same slices with the same reply and the same contents.
-- Assumes nothing.
use Prim.Native.Nat.{ℕ, ◌*◌, ◌≤◌}
use mathlib.Core.Path.{◌≡◌, refl, sym, subst, ◌∙◌}
use mathlib.Core.List.{List, [], ◌∷◌}
use native.Mathlib.Omega.{arith}
use borrow.Author.Tests.{ltb-false}
use lib.ListN.{length, take, drop, length-append}
use lib.Seq.{take_at}
use Rattle.rules.specs.declared.NodeRecord.{NodeRecord}
use Rattle.rules.specs.Records.{Netlist, WellFormed, with_node, written_out}
use Rattle.rules.specs.Families.{families, findings}
use Rattle.rules.specs.Checks.{Outcome, answered, refused, and_then, judged, slices_fit, admitted, node_check}
use Rattle.rules.specs.Slices.{node_records, work_bytes, filled, nodes_after, work_after, reply}
use Rattle.rule_laws.proofs.Records.{passes, answer}
use Rattle.rule_laws.proofs.Exit.{families_length}
use Rattle.rule_laws.proofs.Packing.{work_length}
use Rattle.rule_laws.proofs.Room.{Room, has_room}
use Rattle.rule_laws.proofs.Room as Room
use Rattle.rule_laws.proofs.Written.{write_read}
use Rattle.edit_rules.specs.Edits.{Edit, add, remove, offered, without_node, removed_if_unused, fits, edited, reply_after, records_after, bytes_after}
use Rattle.edit_rules.proofs.Adding.{offered_well_formed}
use Rattle.edit_rules.proofs.Removal.{lowered_most, Unused, removed_length, removed_well_formed}

-- an outcome that is answered goes on from an answer
record Through {A B : Type 0} (o : Outcome A) (f : A → Outcome B) (b : B) : Type 0 where
  answer : A
  first : o ≡ answered answer
  then : f answer ≡ answered b

through : {A B : Type 0} (o : Outcome A) (f : A → Outcome B) (b : B) → and_then o f ≡ answered b → Through o f b
unfolding and_then
through (answered a) f b e = record { answer = a; first = refl; then = e }
through (refused k p) f b e = let z : ◌≡◌ {A = ℕ} 0 1 = cc in absurd (omega arith)

-- what is made obeys the record rules, and has room
pub record Made (entries work : ℕ) (m : Netlist) : Type 0 where
  pub obeys : WellFormed m
  pub room : Room entries work m

without_made : (n : Netlist) (i entries work : ℕ) → WellFormed n → Room entries work n → Unused i n.nodes → Made entries work (without_node n i)
without_made n i entries work formed room unused =
    let fewer : length (without_node n i).nodes ≤ length n.nodes = omega (arith, removed_length n i, lowered_most i (length n.nodes)) in
    record {
      obeys = removed_well_formed n i unused formed;
      room = record { enough_entries = omega (arith, room.enough_entries); enough_work = omega (arith, room.enough_work) };
    }

removed_made : (n k l m : Netlist) (i entries work : ℕ) → WellFormed n → judged (node_check i n ∷ []) n ≡ answered k → slices_fit entries work k ≡ answered l
    → removed_if_unused i l ≡ answered m → Made entries work m
unfolding node_check removed_if_unused
removed_made n k l m i entries work formed there room free =
    let is_k : n ≡ k = answer _ n k there in
    let (is-l, has) = has_room entries work k l room in
    let n_is_l : n ≡ l = is_k ∙ is-l in
    let unused : Unused i l.nodes = ltb-false _ _ (passes _ (without_node l i) m free 0) in
    subst (Made entries work) (answer _ (without_node l i) m free)
    (without_made l i entries work (subst (λ (n : Netlist). WellFormed n) n_is_l formed) (subst (Room entries work) is-l has) unused)

pub made : (n : Netlist) (e : Edit) (entries work : ℕ) (m : Netlist) → WellFormed n → edited n e entries work ≡ answered m → Made entries work m
unfolding edited fits
made n (add bytes) entries work m formed e =
    let t = through (offered n bytes) _ m e in
    let (same, room) = has_room entries work (with_node n t.answer) m t.then in
    subst (Made entries work) same (record { obeys = offered_well_formed n bytes t.answer formed t.first; room = room })
made n (remove i) entries work m formed e =
    let u = through _ (removed_if_unused i) m e in
    let t = through (judged (node_check i n ∷ []) n) (slices_fit entries work) u.answer u.first in
    removed_made n t.answer u.answer m i entries work formed t.first t.then u.then

-- slices in which an edit is not refused by the state and the lengths alone have room for the block as it was
pub fits_room : (n : Netlist) (e : Edit) (entries work : ℕ) (m : Netlist) → fits n e entries work ≡ answered m → Room entries work n
unfolding fits
fits_room n (add bytes) entries work m e =
    let t = through (offered n bytes) _ m e in
    let room = (has_room entries work (with_node n t.answer) m t.then).1 in
    let more = length-append n.nodes (t.answer ∷ []) in
    record { enough_entries = omega (arith, room.enough_entries, more); enough_work = omega (arith, room.enough_work, more) }
fits_room n (remove i) entries work m e =
    let t = through (judged (node_check i n ∷ []) n) (slices_fit entries work) m e in
    subst (Room entries work) (sym (answer _ n t.answer t.first)) (has_room entries work t.answer m t.then).1

-- ---- the families in the work bytes

pub families_bytes : (n : Netlist) → length (work_bytes (families n)) ≡ 256 * length n.nodes
families_bytes n = omega (arith, work_length (families n), families_length n)

-- where they are written, they stand at the front
pub written_families : (n : Netlist) (before : List ℕ)
    → take (256 * length n.nodes) (filled (λ m. work_bytes (families m)) (answered n) before) ≡ work_bytes (families n)
unfolding filled
written_families n before = take_at (work_bytes (families n)) (drop (length (work_bytes (families n))) before) _ (families_bytes n)

-- ---- a fresh check of what is made

module _ (entries work : ℕ) (m : Netlist) (is : Made entries work m) where
  -- it is read, and admitted
  pub afresh_admitted : admitted (written_out m) entries work ≡ answered m
  unfolding admitted and_then
  afresh_admitted = rw (write_read m is.obeys) (Room.fits entries work m is.room)

  -- it gets the full answer
  pub afresh_reply : reply (written_out m) entries work ≡ answered (findings m)
  unfolding reply and_then
  afresh_reply = rw afresh_admitted

-- both slices then hold its node records and families, and beyond them what stood there
pub afresh_nodes : (before : List NodeRecord) (work : ℕ) (m : Netlist) → Made (length before) work m
    → nodes_after (written_out m) before work ≡ filled node_records (answered m) before
unfolding nodes_after
afresh_nodes before work m is = rw (afresh_admitted (length before) work m is)

pub afresh_work : (entries : ℕ) (before : List ℕ) (m : Netlist) → Made entries (length before) m
    → work_after (written_out m) entries before ≡ filled (λ n. work_bytes (families n)) (answered m) before
unfolding work_after
afresh_work entries before m is = rw (afresh_admitted entries (length before) m is)

-- The netlist after an edit that is made, written out and checked afresh in the same slices, gives the same
-- reply, node records and families.
pub checked_afresh : (n m : Netlist) (e : Edit) (nodes : List NodeRecord) (work : List ℕ) → WellFormed n → edited n e (length nodes) (length work) ≡ answered m
    → (reply_after n e (length nodes) (length work) ≡ reply (written_out m) (length nodes) (length work))
    × (records_after n e nodes (length work) ≡ nodes_after (written_out m) nodes (length work))
    × (bytes_after n e (length nodes) work ≡ work_after (written_out m) (length nodes) work)
unfolding reply_after records_after bytes_after and_then
checked_afresh n m e nodes work formed is =
    let fine = made n e (length nodes) (length work) m formed is in (
      rw is (sym (afresh_reply (length nodes) (length work) m fine)),
      rw is (sym (afresh_nodes nodes (length work) m fine)),
      rw is (sym (afresh_work (length nodes) work m fine)),
    )
