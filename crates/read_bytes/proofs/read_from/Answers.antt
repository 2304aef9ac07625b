-- `read_bytes::read_from` meets its contract. Assumes nothing.
use Rattle.std.specs.Prelude.{Result}
use Rattle.std.proofs.Common.{◌≡◌, List, ℕ, ◌≤◌, ◌<◌, arith}
use mathlib.Core.Path.{refl, ap, subst, ◌∙◌}
use Rattle.std.proofs.lemmas.Result.{err_from_is_err_and}
use Rattle.rules.specs.declared.Refusal.{Refusal}
use Rattle.rules.specs.Records.{Netlist, most_nodes, most_variables, said, size}
use Rattle.rules.specs.Checks.{answered, after, most_records, outcome_of, read_from}
use Rattle.netlists.specs.declared.Netlist.{Netlist as Flat}
use Rattle.netlists.specs.Kinds.{byte_of}
use Rattle.netlists.specs.Netlists.{flat_of, Formed}
use Rattle.netlists.proofs.Bytes.{node_byte}
use Rattle.netlists.proofs.Netlists.{one_netlist}
use Rattle.records.specs.declared.Record.{Record}
use Rattle.read_bytes.specs.Reading.{Reads, bytes_of, found_at}
use Rattle.read_bytes.proofs.Files.{stands_read, refused_read}
use Rattle.read_bytes.proofs.Reading.{Reached, refused_here, Turn, inside, answered_here, variable_room, node_room, variable_stored, node_stored}
use Rattle.read_bytes.proofs.read_from.Goals as goal
use Rattle.read_bytes.proofs.read_from.Goals.{After-entry_by, After-netlist-1, After-size_by, in-Variable, in_default}

-- what a turn finds, behind a netlist that obeys the record rules
turn : {start value : Flat} {bytes own_bytes : List ℕ} {records here : ℕ} (f : Formed start) → own_bytes ≡ bytes
    → Reached f.netlist bytes records value here → (own : Record) → answered (bytes_of own) ≡ found_at own_bytes value.variables value.count here
    → Turn f.netlist bytes records value here (bytes_of own)
turn {value = value} {here = here} f same reached own is =
    record { fit = f.obeys; reached = reached; found = is ∙ ap (λ (b : List ℕ). found_at b value.variables value.count here) same }

-- what is read behind that netlist is read behind every netlist of this value, since it is the only one
all_netlists : {start : Flat} (bytes : List ℕ) (f : Formed start) (file : Result Flat Refusal) → Reads file (read_from f.netlist bytes)
    → (n : Netlist) → start ≡ flat_of n → Reads file (read_from n bytes)
all_netlists bytes f file r n e = subst (λ (m : Netlist). Reads file (read_from m bytes)) (one_netlist f n e) r

pub loop-records-init : goal.loop-records-init
unfolding after
loop-records-init c = record { bytes = refl; reached = λ f. record { netlist = f.netlist; is = f.is; so_far = refl } }

pub returns-in_err-own : goal.returns-in_err-own
returns-in_err-own c =
    let f = c.requires in
    let p = err_from_is_err_and c.from_residual.result c.from_residual.ensures.1 in
    let l = c.loop-records in
    let found = c.in_err-own.ensures ∙ ap (λ (b : List ℕ). found_at b l.netlist.variables l.netlist.count l.reader.here) l.invariant.bytes in
    all_netlists _ f _ (rw (p.1, p.2) (refused_read (refused_here f.obeys (l.invariant.reached f) _ found)))

pub returns-in-End : goal.returns-in-End
unfolding turn
returns-in-End c =
    let f = c.requires in
    let reached = c.loop-records.invariant.reached f in
    let t = turn f c.loop-records.invariant.bytes reached c.in_ok-own.own c.in_ok-own.ensures in
    all_netlists _ f _ (stands_read (record { netlist = reached.netlist; is = answered_here t (ap byte_of c.in-End.is); value = reached.is }))

variable_there : (c : After-netlist-1) → c.loop-records.netlist.variables < most_variables
variable_there c =
    variable_room (turn c.requires c.loop-records.invariant.bytes (c.loop-records.invariant.reached c.requires) c.in_ok-own.own c.in_ok-own.ensures) (ap byte_of c.in-Variable.is)

pub bounds-netlist-netlist : goal.bounds-netlist-netlist
bounds-netlist-netlist c = variable_there c

pub overflow_add-netlist : goal.overflow_add-netlist
overflow_add-netlist c = omega (arith, variable_there c)

-- a record that says neither the end nor a variable says a node, which has room
room : (c : After-entry_by) → c.loop-records.netlist.count < most_nodes
room c =
    node_room (turn c.requires c.loop-records.invariant.bytes (c.loop-records.invariant.reached c.requires) c.in_ok-own.own c.in_ok-own.ensures)
    (node_byte c.in_ok-own.own.kind c.in_default.not-End c.in_default.not-Variable)

pub offset_bounds-netlist-netlist : goal.offset_bounds-netlist-netlist
offset_bounds-netlist-netlist c = omega (arith, room c)

pub bounds-netlist-netlist-in_default : goal.bounds-netlist-netlist-in_default
bounds-netlist-netlist-in_default c = room c

pub overflow_add-netlist-in_default : goal.overflow_add-netlist-in_default
overflow_add-netlist-in_default c = omega (arith, room c)

pub overflow_add-reader : goal.overflow_add-reader
overflow_add-reader c =
    let t = turn c.requires c.loop-records.invariant.bytes (c.loop-records.invariant.reached c.requires) c.in_ok-own.own c.in_ok-own.ensures in
    let here = inside t in
    let few = c.size_by.ensures.few in
    omega arith

pub loop-records-preserved : goal.loop-records-preserved
loop-records-preserved c = record {
  bytes = c.loop-records.invariant.bytes;
  reached = λ f.
      let k = byte_of c.in_ok-own.own.kind in
      let t = turn f c.loop-records.invariant.bytes (c.loop-records.invariant.reached f) c.in_ok-own.own c.in_ok-own.ensures in
      let sized : 0 < k → c.size_by.result ≡ size (said k c.in_ok-own.own.body) = c.size_by.ensures.size c.in_ok-own.own.body in
      elim c.match-own.branch [
        | in-Variable w ↦
            let one : k ≡ 1 = ap byte_of w.in-Variable.is in rw w.netlist-is (variable_stored t _ one (sized (omega arith)))
        | in_default w ↦
            let more : 2 ≤ k = node_byte c.in_ok-own.own.kind w.in_default.not-End w.in_default.not-Variable in
            rw w.netlist-is (node_stored t _ _ more (sized (omega arith)) w.entry_by.ensures)
      ];
}

pub returns : goal.returns
unfolding read_from outcome_of
returns c =
    let all : c.loop-records.records ≡ most_records = omega arith in
    let reached = c.loop-records.invariant.reached c.requires in
    all_netlists _ c.requires _ (refused_read (rw (← all, reached.so_far, c.at.ensures)))
