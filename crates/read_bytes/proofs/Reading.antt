-- The reading of a file, as a loop takes it: before each record the rules are still reading, with this netlist and at
-- this offset. A refusal and the end record end the reading with the rules' own outcome (`ends`); a variable or a node
-- that is stored behind the others is what the rules take next. Assumes nothing.
use Rattle.std.specs.Prelude.{Err}
use Prim.Native.Nat.{ℕ, ◌+◌, ◌≤◌, ◌<◌}
use mathlib.Core.Path.{◌≡◌, refl, sym, ap, ◌∙◌}
use mathlib.Core.List.{List}
use native.Mathlib.Numerals.{add-one}
use native.Mathlib.Omega.{arith}
use lib.ListN.{length, get_or, drop}
use borrow.Author.Tests.{leb-false, ltb-false}
use Rattle.rules.specs.declared.Node.{Node}
use Rattle.rules.specs.declared.Refusal.{Refusal}
use Rattle.rules.specs.Records.{Cell, Record, node, Netlist, WellFormed, with_variable, with_node, most_variables, most_nodes, most_body, last_kind, class_of, said, size}
use Rattle.rules.specs.Slices.{entry}
use Rattle.rules.specs.Checks.{Outcome, answered, refused, and_then, over_limit, judged_at, record_at, reading, taken, step, after, read_from}
use Rattle.rules.specs.Paper.{number_of, place_of}
use Rattle.rule_laws.proofs.Records.{Accepted, accepted, byte_of_class, said_same, says_end, says_variable, says_node}
use Rattle.rule_laws.proofs.Reading.{ends}
use Rattle.records.specs.declared.RecordBytes.{RecordBytes}
use Rattle.records.specs.Bytes.{record_bytes_at, accepted_if}
use Rattle.records.proofs.Judged.{body_seen, found_record}
use Rattle.netlists.specs.declared.Netlist.{Netlist as Flat}
use Rattle.netlists.specs.Netlists.{flat_of}
use Rattle.netlists.proofs.Netlists.{with_class, with_entry, value_variables, value_count, value_variable, value_node}
use Rattle.read_bytes.specs.Reading.{found_of, found_at}

-- after so many records behind `start` the rules are reading, with this netlist by value, at this offset
pub record Reached (start : Netlist) (bytes : List ℕ) (records : ℕ) (value : Flat) (here : ℕ) : Type 0 where
  pub netlist : Netlist
  pub is : value ≡ flat_of netlist
  pub so_far : after start bytes records ≡ reading netlist here

module _ {start : Netlist} (fit : WellFormed start) {bytes : List ℕ} {records : ℕ} {value : Flat} {here : ℕ} (r : Reached start bytes records value here) where
  -- what is judged of the next record is what the rules take
  next : (o : Outcome Record) → judged_at bytes value.variables value.count here ≡ o
      → (record_at bytes r.netlist here ≡ o) × (after start bytes (records + 1) ≡ taken r.netlist here o)
  unfolding after step record_at
  next o e =
      let same : record_at bytes r.netlist here ≡ o = rw (← value_variables r.netlist r.is, ← value_count r.netlist r.is) e in
      (same, rw (add-one, r.so_far, same))

  -- a refusal that is found is the file's
  pub refused_here : (refusal : Refusal) → found_of (Err refusal) ≡ found_at bytes value.variables value.count here
      → read_from start bytes ≡ refused (number_of refusal) (place_of refusal)
  unfolding accepted_if and_then
  refused_here refusal found = ends start fit bytes (records + 1) _ (unfold taken in (next _ (theirs _ refl)).1)
    where
      theirs : (o : Outcome Record) → judged_at bytes value.variables value.count here ≡ o → o ≡ refused (number_of refusal) (place_of refusal)
      theirs o e = go o (rw e at found)
        where
          go : (o : Outcome Record) → found_of (Err refusal) ≡ and_then (accepted_if o) (λ _. answered (record_bytes_at bytes here))
              → o ≡ refused (number_of refusal) (place_of refusal)
          go (answered r) f = cc
          go (refused number place) f = cc

-- and the record that is found next has these bytes
pub record Turn (start : Netlist) (bytes : List ℕ) (records : ℕ) (value : Flat) (here : ℕ) (own : RecordBytes) : Type 0 where
  pub fit : WellFormed start
  pub reached : Reached start bytes records value here
  pub found : answered own ≡ found_at bytes value.variables value.count here

module _ {start : Netlist} {bytes : List ℕ} {records : ℕ} {value : Flat} {here : ℕ} {own : RecordBytes} (t : Turn start bytes records value here own) where
  abbrev n : Netlist
  n = t.reached.netlist

  abbrev is : value ≡ flat_of n
  is = t.reached.is

  abbrev k : ℕ
  k = own.kind

  abbrev body : List ℕ
  body = own.body

  -- it is the file's, the rules accept it, and they take it
  found_here : (judged_at bytes value.variables value.count here ≡ answered (said (get_or bytes here 0) (drop (here + 1) bytes))) × (own ≡ record_bytes_at bytes here)
  found_here = found_record _ _ _ _ _ _ _ _ t.found

  seen : (j : ℕ) → j < most_body → get_or body j 0 ≡ get_or (drop (here + 1) bytes) j 0
  seen j h = ap (λ (x : RecordBytes). get_or x.body j 0) found_here.1 ∙ body_seen bytes here j h

  same_kind : k ≡ get_or bytes here 0
  same_kind = ap (λ (x : RecordBytes). x.kind) found_here.1

  says_own : said k body ≡ said (get_or bytes here 0) (drop (here + 1) bytes)
  says_own = ap (λ (j : ℕ). said j body) same_kind ∙ said_same (get_or bytes here 0) body (drop (here + 1) bytes) seen

  judged : (record_at bytes n here ≡ answered (said k body)) × (after start bytes (records + 1) ≡ taken n here (answered (said k body)))
  judged = next t.fit t.reached _ (found_here.0 ∙ ap answered (sym says_own))

  obeys : Accepted bytes n here (said k body)
  obeys = accepted bytes n here (said k body) judged.0

  pub inside : here < length bytes
  inside = obeys.inside

  pub known : k ≤ last_kind
  known = rw same_kind obeys.kind

  -- the end record ends the reading
  pub answered_here : k ≡ 0 → read_from start bytes ≡ answered n
  unfolding taken
  answered_here end = ends start t.fit bytes (records + 1) _ (rw (says_end k body end) at judged.1)

  -- a variable has room, and so has a node
  pub variable_room : k ≡ 1 → value.variables < most_variables
  unfolding over_limit
  variable_room one = rw (value_variables n is) (leb-false _ _ (rw (says_variable k body one) at obeys.allowed.room))

  pub node_room : 2 ≤ k → value.count < most_nodes
  unfolding over_limit
  node_room more = let (cell, says) = says_node k body more known in rw (value_count n is) (leb-false _ _ (rw says at obeys.allowed.room))

  -- and once it is stored, the next record is reached
  pub variable_stored : (s : ℕ) → k ≡ 1 → s ≡ size (said k body)
      → Reached start bytes (records + 1) (with_class value (get_or body 0 0)) (here + s)
  unfolding taken
  variable_stored s one sized =
      let says = says_variable k body one in
      let b = get_or body 0 0 in
      let low : b ≤ 2 = rw (seen 0 (omega arith)) (ltb-false _ _ (rw says at obeys.class)) in
      record {
        netlist = with_variable n (class_of b);
        is = rw (byte_of_class b low) at (value_variable n is (class_of b) (variable_room one));
        so_far = rw (judged.1, sized, says);
      }

  pub node_stored : (s : ℕ) (last : Node) → 2 ≤ k → s ≡ size (said k body) → ((cell : Cell) → said k body ≡ node cell → last ≡ entry cell)
      → Reached start bytes (records + 1) (with_entry value last) (here + s)
  unfolding taken
  node_stored s last more sized made =
      let (cell, says) = says_node k body more known in
      record {
        netlist = with_node n cell;
        is = rw (made cell says) (value_node n is cell (node_room more));
        so_far = rw (judged.1, sized, says);
      }
