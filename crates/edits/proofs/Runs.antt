-- Any run of edits, each in slices of its own lengths. A block whose slices hold its node records and families is as a
-- check of its written-out netlist leaves it, and so it is in any longer slices, and in shorter ones that have room.
-- Opening gives such a block, and every edit, made or refused, in slices that have room or not, keeps it such.
-- So after any run of edits what both arrays hold is what checking the written-out block gives. Assumes nothing.
use Prim.Native.Nat.{ℕ, ◌*◌, ◌≤◌}
use mathlib.Core.Path.{◌≡◌, refl, sym, ap, subst, ◌∙◌}
use mathlib.Core.List.{List, [], ◌∷◌, ◌++◌, append-nil}
use native.Mathlib.Omega.{arith}
use lib.ListN.{length, take, drop, length-append, length-take, length-drop, take-append-drop}
use lib.Seq.{length_front, take-length, drop-length, take-append_seam, take-append-le, take-take}
use Rattle.rules.specs.declared.NodeRecord.{NodeRecord}
use Rattle.rules.specs.Lists.{tabulate}
use Rattle.rules.specs.Tables.{table}
use Rattle.rules.specs.Records.{Netlist, empty, WellFormed, written_out}
use Rattle.rules.specs.Families.{Findings, families, findings}
use Rattle.rules.specs.Checks.{Outcome, answered, refused, and_then, admitted}
use Rattle.rules.specs.Slices.{node_records, work_bytes, filled, nodes_after, work_after, reply, FromMarks}
use Rattle.rules.specs.Paper.{reply_of}
use Rattle.rule_laws.proofs.Exit.{records_length}
use Rattle.rule_laws.proofs.Marks.{from_marks}
use Rattle.rule_laws.proofs.Reading.{read_well_formed}
use Rattle.rule_laws.proofs.Room.{Room, admitted_says}
use Rattle.rule_laws.proofs.Written.{write_read}
use Rattle.edit_rules.specs.declared.State.{State}
use Rattle.edit_rules.specs.Edits.{Edit, fits, edited, otherwise, netlist_after, reply_after, records_after, bytes_after, Holds, OpenBlock, Lent, lent_of, given_back, after_opening, Call, after_call, after_calls, AsChecked}
use Rattle.edit_rules.specs.Meaning.{state_of, IsOpen}
use Rattle.edit_steps.proofs.Changing.{edited_refused}
use Rattle.edits.specs.declared.Edited.{Edited}
use Rattle.edit_rules.proofs.Kept.{Made, made, fits_room, families_bytes, written_families, afresh_reply, afresh_nodes, afresh_work}
use Rattle.edits.proofs.Promises.{Promised}

-- ---- what stands at the front of a slice

module _ {ℓ} {A : Type ℓ} where
  -- a list put in front of another, over its first entries
  front : (xs before : List A) → take (length xs) (xs ++ drop (length xs) before) ≡ xs
  front xs before = take-append_seam xs (drop (length xs) before)

  -- it is as long as before, if that has room
  front_length : (xs before : List A) → length xs ≤ length before → length (xs ++ drop (length xs) before) ≡ length before
  front_length xs before h = omega (arith, length-append xs (drop (length xs) before), length-drop (length xs) before)

  -- also where it is put over the front of the first k
  front_long : (xs before : List A) (k : ℕ) → length xs ≤ length (take k before)
      → length ((xs ++ drop (length xs) (take k before)) ++ drop k before) ≡ length before
  front_long xs before k h = length_front before (xs ++ drop (length xs) (take k before)) k (front_length xs (take k before) h)

  -- and changes nothing where it stood there
  front_same : (xs before : List A) → take (length xs) before ≡ xs → xs ++ drop (length xs) before ≡ before
  front_same xs before e = ap (λ (ys : List A). ys ++ drop (length xs) before) (sym e) ∙ take-append-drop (length xs) before

-- both slices that hold a netlist's node records and families have room for them, and keep their contents
-- where these are written once more
module _ (n : Netlist) (nodes : List NodeRecord) (work : List ℕ) (holds : Holds n nodes work) where
  pub holds_room : Room (length nodes) (length work) n
  holds_room =
      record {
        enough_entries = omega (arith, ap length holds.records, length-take (length n.nodes) nodes, records_length n);
        enough_work = omega (arith, ap length holds.families, length-take (256 * length n.nodes) work, families_bytes n);
      }

  holds_records : filled node_records (answered n) nodes ≡ nodes
  unfolding filled
  holds_records = front_same (node_records n) nodes (rw (records_length n) holds.records)

  holds_families : filled (λ m. work_bytes (families m)) (answered n) work ≡ work
  unfolding filled
  holds_families = front_same (work_bytes (families n)) work (rw (families_bytes n) holds.families)

-- what is written once is held
written_held : (n : Netlist) (nodes : List NodeRecord) (work : List ℕ)
    → Holds n (filled node_records (answered n) nodes) (filled (λ m. work_bytes (families m)) (answered n) work)
unfolding filled
written_held n nodes work =
    record {
      records = subst (λ (k : ℕ). take k (node_records n ++ drop (length (node_records n)) nodes) ≡ node_records n) (records_length n) (front (node_records n) nodes);
      families = written_families n work;
    }

-- what slices hold, longer ones hold too, whatever stands behind, and so do shorter ones that have room
module _ {n : Netlist} {nodes : List NodeRecord} {work : List ℕ} (holds : Holds n nodes work) where
  holds_behind : (others : List NodeRecord) (rest : List ℕ) → Holds n (nodes ++ others) (work ++ rest)
  holds_behind others rest =
      let room = holds_room n nodes work holds in
      record {
        records = take-append-le (length n.nodes) nodes others room.enough_entries ∙ holds.records;
        families = take-append-le (256 * length n.nodes) work rest room.enough_work ∙ holds.families;
      }

  holds_lent : (entries bytes : ℕ) → Room entries bytes n → Holds n (take entries nodes) (take bytes work)
  holds_lent entries bytes room =
      record {
        records = take-take (length n.nodes) entries nodes room.enough_entries ∙ holds.records;
        families = take-take (256 * length n.nodes) bytes work room.enough_work ∙ holds.families;
      }

-- ---- a block as a check leaves it

-- it is one whose slices hold its node records and families
pub as_checked : (n : Netlist) (nodes : List NodeRecord) (work : List ℕ) → WellFormed n → Holds n nodes work
    → AsChecked (record { netlist = n; nodes = nodes; work = work })
as_checked n nodes work formed holds =
    let fine : Made (length nodes) (length work) n = record { obeys = formed; room = holds_room n nodes work holds } in
    record {
      obeys = formed;
      answers = afresh_reply (length nodes) (length work) n fine;
      records = afresh_nodes nodes (length work) n fine ∙ holds_records n nodes work holds;
      families = afresh_work (length nodes) work n fine ∙ holds_families n nodes work holds;
    }

-- an answer comes of a netlist that is admitted
record Answers (o : Outcome Netlist) : Type 0 where
  netlist : Netlist
  is : o ≡ answered netlist

answers_of : (o : Outcome Netlist) (f : Findings) → and_then o (λ n. answered (findings n)) ≡ answered f → Answers o
unfolding and_then
answers_of (answered n) f e = record { netlist = n; is = refl }
answers_of (refused k p) f e = cc

pub checked_holds : (b : OpenBlock) → AsChecked b → Holds b.netlist b.nodes b.work
unfolding reply
checked_holds b checked =
    let n = b.netlist in
    let bytes = written_out n in
    let a = answers_of (admitted bytes (length b.nodes) (length b.work)) _ checked.answers in
    let says = admitted_says bytes (length b.nodes) (length b.work) a.netlist a.is in
    let is_read = write_read n checked.obeys in
    let same : a.netlist ≡ n = let z : answered a.netlist ≡ answered n = sym says.is_read ∙ is_read in cc in
    let fine : Made (length b.nodes) (length b.work) n = record { obeys = checked.obeys; room = subst (Room (length b.nodes) (length b.work)) same says.room } in
    let nodes = sym (afresh_nodes b.nodes (length b.work) n fine) ∙ checked.records in
    let work = sym (afresh_work (length b.nodes) b.work n fine) ∙ checked.families in
    subst (λ (w : List ℕ). Holds n b.nodes w) work
    (subst (λ (l : List NodeRecord). Holds n l (filled (λ m. work_bytes (families m)) (answered n) b.work)) nodes (written_held n b.nodes b.work))

-- so it is an open block, with its netlist's state: what the contract of an edit asks
pub checked_open : (b : OpenBlock) → AsChecked b → IsOpen b.netlist (state_of b.netlist) b.nodes b.work
checked_open b checked = record { obeys = checked.obeys; its_state = refl; holds = checked_holds b checked }

-- and in the slices that are lent of its arrays, where these have room, it is as a check leaves it there
pub lent_checked : (b : OpenBlock) (lent : Lent) → AsChecked b → Room lent.entries lent.bytes b.netlist → AsChecked (lent_of b lent)
unfolding lent_of
lent_checked b lent checked room =
    as_checked b.netlist _ _ checked.obeys (holds_lent (checked_holds b checked) lent.entries lent.bytes room)

-- ---- opening, one edit, and any run of them

-- in any arrays the block of no variables and no nodes is as a check leaves it
none_checked : (nodes : List NodeRecord) (work : List ℕ) → AsChecked (record { netlist = empty; nodes = nodes; work = work })
unfolding node_records tabulate work_bytes families table
none_checked nodes work =
    as_checked empty nodes work
    (record { few_variables = omega arith; few_nodes = omega arith; lower = λ i h. absurd (omega arith); declared = λ i h. absurd (omega arith) })
    (record { records = refl; families = refl })

-- what a call keeps: its block is as a check leaves it, in arrays as long as before
pub record Keeps (b after : OpenBlock) : Type 0 where
  pub checked : AsChecked after
  pub entries : length after.nodes ≡ length b.nodes
  pub bytes : length after.work ≡ length b.work

-- So it is of every call that comes to a netlist which obeys the record rules and fits the slices, and then writes it
-- over their front; or to a refusal, and then writes nothing.
comes_to : (b : OpenBlock) (lent : Lent) (before : Netlist) (o : Outcome Netlist) → AsChecked (record { netlist = before; nodes = b.nodes; work = b.work })
    → ((m : Netlist) → o ≡ answered m → Made (length (lent_of b lent).nodes) (length (lent_of b lent).work) m)
    → Keeps b
    (given_back b lent
    (record {
      netlist = otherwise before o;
      nodes = filled node_records o (lent_of b lent).nodes;
      work = filled (λ m. work_bytes (families m)) o (lent_of b lent).work;
    }))
unfolding lent_of given_back otherwise filled
comes_to b lent before (answered m) checked fine =
    let made = fine m refl in
    record {
      checked = as_checked m _ _ made.obeys (holds_behind (written_held m _ _) _ _);
      entries = front_long (node_records m) b.nodes lent.entries (omega (arith, made.room.enough_entries, records_length m));
      bytes = front_long (work_bytes (families m)) b.work lent.bytes (omega (arith, made.room.enough_work, families_bytes m));
    }
comes_to b lent before (refused k p) checked fine =
    rw (take-append-drop lent.entries b.nodes, take-append-drop lent.bytes b.work) (record { checked = checked; entries = refl; bytes = refl })

-- opening, answered or refused
pub opened : (b : OpenBlock) (bytes : List ℕ) (lent : Lent) → Keeps b (after_opening b bytes lent)
unfolding after_opening nodes_after work_after
opened b bytes lent =
    comes_to b lent empty (admitted bytes _ _) (none_checked b.nodes b.work)
    (λ m is. let says = admitted_says bytes _ _ m is in record { obeys = read_well_formed bytes m says.is_read; room = says.room })

-- an edit, made or refused, however much it is lent
pub call_keeps : (b : OpenBlock) (c : Call) → AsChecked b → Keeps b (after_call b c)
unfolding after_call netlist_after records_after bytes_after
call_keeps b c checked =
    comes_to b c.lent b.netlist (edited b.netlist c.edit _ _) checked (λ m is. made b.netlist c.edit _ _ m checked.obeys is)

pub calls_keep : (b : OpenBlock) (calls : List Call) → AsChecked b → Keeps b (after_calls b calls)
unfolding after_calls
calls_keep b [] checked = record { checked = checked; entries = refl; bytes = refl }
calls_keep b (c ∷ calls) checked =
    let once = call_keeps b c checked in
    let then = calls_keep (after_call b c) calls once.checked in
    record { checked = then.checked; entries = then.entries ∙ once.entries; bytes = then.bytes ∙ once.bytes }

-- Any run of edits, from any bytes, refused calls among them, each in slices of its own lengths: the netlist obeys the
-- record rules, and both arrays hold what checking its written-out bytes gives.
pub any_run : (b : OpenBlock) (bytes : List ℕ) (lent : Lent) (calls : List Call) → AsChecked (after_calls (after_opening b bytes lent) calls)
any_run b bytes lent calls = (calls_keep _ calls (opened b bytes lent).checked).checked

-- They are as long as they were.
pub run_lengths : (b : OpenBlock) (bytes : List ℕ) (lent : Lent) (calls : List Call)
    → let after = after_calls (after_opening b bytes lent) calls in
    (length after.nodes ≡ length b.nodes) × (length after.work ≡ length b.work)
run_lengths b bytes lent calls =
    let first = opened b bytes lent in
    let run = calls_keep (after_opening b bytes lent) calls first.checked in
    (run.entries ∙ first.entries, run.bytes ∙ first.bytes)

-- Each half of what checking them answers is the lowest marked node of its layer with its mark: the answer
-- after an edit is read from the marks.
pub marks_answer : (b : OpenBlock) → AsChecked b → FromMarks (findings b.netlist) b.nodes
marks_answer b checked = from_marks b.netlist b.nodes (checked_holds b checked).records

-- And the reply of the last edit, where it is made, is that of checking them; in the slices that were
-- lent too (`checked_afresh`).
pub last_reply : (b : OpenBlock) (c : Call) (f : Findings) → AsChecked b
    → reply_after b.netlist c.edit (length (lent_of b c.lent).nodes) (length (lent_of b c.lent).work) ≡ answered f
    → let after = after_call b c in
    reply (written_out after.netlist) (length after.nodes) (length after.work) ≡ answered f
unfolding given_back after_call reply_after netlist_after otherwise and_then
last_reply b c f checked says = (call_keeps b c checked).checked.answers ∙ go (edited b.netlist c.edit _ _) says
  where
    go : (o : Outcome Netlist) → and_then o (λ m. answered (findings m)) ≡ answered f → answered (findings (otherwise b.netlist o)) ≡ answered f
    go (answered m) e = e
    go (refused k p) e = cc

-- ---- in the words of the contracts

-- An open block, with its netlist's state: in the slices that are lent of its arrays,
-- where these have room, it is open,
module _ {n : Netlist} {state : State} {nodes : List NodeRecord} {work : List ℕ} (is : IsOpen n state nodes work) where
  pub lent_open : (entries bytes : ℕ) → Room entries bytes n → IsOpen n state (take entries nodes) (take bytes work)
  lent_open entries bytes room = record { obeys = is.obeys; its_state = is.its_state; holds = holds_lent is.holds entries bytes room }

  -- after a call, made or refused, it is open in its arrays, so the next call's contract speaks of it,
  pub call_stays_open : (c : Call)
      → let after = after_call (record { netlist = n; nodes = nodes; work = work }) c in
      IsOpen after.netlist (state_of after.netlist) after.nodes after.work
  call_stays_open c = checked_open _ (call_keeps _ c (as_checked n nodes work is.obeys is.holds)).checked

  -- also where all is lent;
  pub edit_stays_open : (e : Edit)
      → let m = netlist_after n e (length nodes) (length work) in
      IsOpen m (state_of m) (records_after n e nodes (length work)) (bytes_after n e (length nodes) work)
  unfolding lent_of given_back after_call
  edit_stays_open e =
      rw (take-length nodes, drop-length nodes, take-length work, drop-length work, append-nil (records_after n e nodes _), append-nil) at
      (call_stays_open (record { edit = e; lent = record { entries = length nodes; bytes = length work } }))

-- And what the contract of an edit says of a call is what the definitions do: reply, state and what both arrays
-- then hold. In slices too short for the block too, of which the contract says that the edit is refused and
-- changes nothing (`early`, `kept`).
module _ {n : Netlist} {state : State} {nodes : List NodeRecord} {work : List ℕ} (is : IsOpen n state nodes work) (c : Call) where
  -- the block, and the slices
  abbrev whole : OpenBlock
  whole = record { netlist = n; nodes = nodes; work = work }

  abbrev entries : List NodeRecord
  entries = take c.lent.entries nodes

  abbrev bytes : List ℕ
  bytes = take c.lent.bytes work

  lent_room : Room (length entries) (length bytes) n → Room c.lent.entries c.lent.bytes n
  lent_room room =
      record {
        enough_entries = omega (arith, room.enough_entries, length-take c.lent.entries nodes);
        enough_work = omega (arith, room.enough_work, length-take c.lent.bytes work);
      }

  pub as_promised : (given : Edited) (ns : List NodeRecord) (ws : List ℕ)
      → Promised state c.edit given (lent_of whole c.lent).nodes ns (lent_of whole c.lent).work ws
      → (reply_of given.reply ≡ reply_after n c.edit (length (lent_of whole c.lent).nodes) (length (lent_of whole c.lent).work))
      × (given.state ≡ state_of (after_call whole c).netlist)
      × (given_back whole c.lent (record { netlist = (after_call whole c).netlist; nodes = ns; work = ws }) ≡ after_call whole c)
  unfolding lent_of given_back after_call reply_after netlist_after records_after bytes_after and_then otherwise filled
  as_promised given ns ws promised = go (fits n c.edit (length entries) (length bytes)) refl
    where
      go : (o : Outcome Netlist) → fits n c.edit (length entries) (length bytes) ≡ o
          → (reply_of given.reply ≡ reply_after n c.edit (length entries) (length bytes))
          × (given.state ≡ state_of (netlist_after n c.edit (length entries) (length bytes)))
          × (given_back whole c.lent (record { netlist = netlist_after n c.edit (length entries) (length bytes); nodes = ns; work = ws }) ≡ after_call whole c)
      go (answered m) fit =
          let open_is = lent_open is c.lent.entries c.lent.bytes (lent_room (fits_room n c.edit (length entries) (length bytes) m fit)) in
          (promised.reply n open_is, promised.state_after n open_is, rw (promised.nodes n open_is, promised.work n open_is))
      go (refused k p) short =
          let none : edited n c.edit (length entries) (length bytes) ≡ refused k p = edited_refused n c.edit (length entries) (length bytes) k p short in
          let says = promised.early n is.obeys is.its_state k p short in
          let (same-state, same_nodes, same-work) = promised.kept.refused k p says in
          (says ∙ rw none, rw (none, same-state, is.its_state), rw (none, same_nodes, same-work))

-- Calls one after another to these in the end, each as the contract promises it, of the state and in the
-- arrays that the one before left.
pub data Ran (state' : State) (nodes' : List NodeRecord) (work' : List ℕ) : List Call → State → List NodeRecord → List ℕ → Type 0 where
  ended : Ran state' nodes' work' [] state' nodes' work'
  called : {calls : List Call} {state : State} {nodes : List NodeRecord} {work : List ℕ} (c : Call) (given : Edited) (ns : List NodeRecord) (ws : List ℕ)
      → Promised state c.edit given (take c.lent.entries nodes) ns (take c.lent.bytes work) ws
      → Ran state' nodes' work' calls given.state (ns ++ drop c.lent.entries nodes) (ws ++ drop c.lent.bytes work)
      → Ran state' nodes' work' (c ∷ calls) state nodes work

-- From an open block they end in the state and the arrays of which `any_run` and the rest speak.
abbrev EndsIn : State → List NodeRecord → List ℕ → OpenBlock → Type 0
EndsIn state nodes work b = (state ≡ state_of b.netlist) × (nodes ≡ b.nodes) × (work ≡ b.work)

abbrev Open : OpenBlock → State → Type 0
Open b state = IsOpen b.netlist state b.nodes b.work

pub run_as_promised : {state' : State} {nodes' : List NodeRecord} {work' : List ℕ} {state : State} {nodes : List NodeRecord} {work : List ℕ} {calls : List Call} {n : Netlist}
    → IsOpen n state nodes work → Ran state' nodes' work' calls state nodes work
    → EndsIn state' nodes' work' (after_calls (record { netlist = n; nodes = nodes; work = work }) calls)
unfolding lent_of given_back after_calls
run_as_promised is ended = (is.its_state, refl, refl)
run_as_promised {state'} {nodes'} {work'} {state} {nodes} {work} {n = n} is (called {calls} c given ns ws promised rest) =
    let (_, its-state, arrays) = as_promised is c given ns ws promised in
    let open-there = subst (λ (b : OpenBlock). Open b (state_of b.netlist)) (sym arrays) (call_stays_open is c) in
    subst (λ (b : OpenBlock). EndsIn state' nodes' work' (after_calls b calls)) arrays (run_as_promised (rw its-state open-there) rest)
