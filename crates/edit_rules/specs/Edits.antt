-- Change request A3, "Cells come and go": an open block takes a new node at the end, or loses a node that no other uses
-- (the request: gives up a node that no other names). Its sentences in their order: the two edits, the refusals with
-- number and place, and what an edit leaves. `tested`, families, findings and what both slices hold are document 01's.
-- Assumes nothing.
use Rattle.std.specs.Prelude.{ℕ, suc, ◌*◌, ◌-◌, ◌≡◌, Bool, cond, ◌||◌, List, [], ◌∷◌, ◌++◌, map, leb, ltb, length, get_or, take, drop}
use Rattle.rules.specs.declared.NodeRecord.{NodeRecord}
use Rattle.rules.specs.Lists.{member, without}
use Rattle.rules.specs.Records.{Cell, input, Record, end, variable, node}
use Rattle.rules.specs.Records.{Netlist, empty, WellFormed, with_node, last_kind, said, size, operands, renamed, written_out}
use Rattle.rules.specs.Families.{families, Findings, findings}
use Rattle.rules.specs.Checks.{Outcome, answered, refused, and_then, check, judged}
use Rattle.rules.specs.Checks.{over_limit, undeclared_set, bad_operand, slices_fit, admitted, node_check}
use Rattle.rules.specs.Slices.{node_records, work_bytes, filled, reply, nodes_after, work_after}
use Rattle.rules.specs.Demands.{NoSuspect}

-- a new node, offered as one record's bytes; or a node to remove
pub data Edit : Type 0 where
  add : (bytes : List ℕ) → Edit
  remove : (node : ℕ) → Edit

-- ---- a new node at the end

-- the node that a record says (none of kind 0 or 1 is offered)
abbrev pub cell_of : Record → Cell
cell_of end = input 0
cell_of (variable c) = input 0
cell_of (node cell) = cell

-- The record of kind k with this body, of `total` bytes, is judged as the next of a file, after v variables and n
-- nodes: none get 8, kind 0 or 1 gets 1, surplus bytes get 9. The place of each is the number that the node would have.
unfoldable pub judged_node : (total v n k : ℕ) (body : List ℕ) → Outcome Cell
judged_node total v n k body =
    let r = said k body in
    judged
    (check 8 (leb total 0) n
    ∷ check 1 (ltb last_kind k || ltb k 2) n
    ∷ check 3 (over_limit v n r) n
    ∷ check 4 (ltb total (size r)) n
    ∷ check 6 (undeclared_set v r) n
    ∷ check 7 (bad_operand n r) n
    ∷ check 9 (ltb (size r) total) n
    ∷ [])
    (cell_of r)

-- the node that a record's bytes offer to a netlist, or the refusal
abbrev pub offered : Netlist → (bytes : List ℕ) → Outcome Cell
offered n bytes = judged_node (length bytes) (length n.variables) (length n.nodes) (get_or bytes 0 0) (drop 1 bytes)

-- ---- a node is removed

-- higher nodes move down by one, and operands follow
unfoldable pub lowered : (removed a : ℕ) → ℕ
lowered removed a = cond (ltb removed a) (a - 1) a

unfoldable pub without_node : Netlist → (removed : ℕ) → Netlist
without_node n removed = record { variables = n.variables; nodes = map (renamed (lowered removed)) (without removed n.nodes) }

-- whether a node uses node i
unfoldable pub uses : (i : ℕ) → Cell → Bool
uses i cell = member i (operands cell)

-- the lowest node that uses node i, or the number of nodes where none does
unfoldable pub lowest_user : (i : ℕ) → List Cell → ℕ
lowest_user i [] = 0
lowest_user i (cell ∷ cells) = cond (uses i cell) 0 (suc (lowest_user i cells))

-- the netlist without node i; refusal 14 if another node uses it (in a netlist that obeys the record
-- rules no node uses itself)
unfoldable pub removed_if_unused : (i : ℕ) → Netlist → Outcome Netlist
removed_if_unused i n = judged (check 14 (ltb (lowest_user i n.nodes) (length n.nodes)) (lowest_user i n.nodes) ∷ []) (without_node n i)

-- ---- the refusals, in their order

-- Refusals that go by the state and the lengths of both slices alone. An addition: those of its record,
-- then 10 and 11 for the nodes with the new one. A removal: 12, then 10 and 11 for the nodes that the block has.
-- The netlist is the one that the slices are to hold.
unfoldable pub fits : Netlist → Edit → (entries work : ℕ) → Outcome Netlist
fits n (add bytes) entries work = and_then (offered n bytes) (λ cell. slices_fit entries work (with_node n cell))
fits n (remove i) entries work = and_then (judged (node_check i n ∷ []) n) (slices_fit entries work)

-- the netlist with the edit made, or the refusal; 14 is checked last
unfoldable pub edited : Netlist → Edit → (entries work : ℕ) → Outcome Netlist
edited n (add bytes) entries work = fits n (add bytes) entries work
edited n (remove i) entries work = and_then (fits n (remove i) entries work) (removed_if_unused i)

-- ---- what an edit leaves

-- the netlist of the block as it now is: after a refusal the one before
unfoldable pub otherwise : Netlist → Outcome Netlist → Netlist
otherwise n (answered m) = m
otherwise n (refused k p) = n

unfoldable pub netlist_after : Netlist → Edit → (entries work : ℕ) → Netlist
netlist_after n e entries work = otherwise n (edited n e entries work)

-- the reply: a refusal, or the full answer for the block as it now is
unfoldable pub reply_after : Netlist → Edit → (entries work : ℕ) → Outcome Findings
reply_after n e entries work = and_then (edited n e entries work) (λ m. answered (findings m))

-- both slices at exit: the node records, marks included, and the families of the block as it now is,
-- and beyond them what stood there
unfoldable pub records_after : Netlist → Edit → (before : List NodeRecord) → (work : ℕ) → List NodeRecord
records_after n e before work = filled node_records (edited n e (length before) work) before

unfoldable pub bytes_after : Netlist → Edit → (entries : ℕ) → (before : List ℕ) → List ℕ
bytes_after n e entries before = filled (λ m. work_bytes (families m)) (edited n e entries (length before)) before

-- the work bytes hold a netlist's families at their front
abbrev pub HoldsFamilies : Netlist → (work : List ℕ) → Type 0
HoldsFamilies n work = take (256 * length n.nodes) work ≡ work_bytes (families n)

-- both slices hold a netlist's node records and families at their front
pub record Holds (n : Netlist) (nodes : List NodeRecord) (work : List ℕ) : Type 0 where
  pub records : take (length n.nodes) nodes ≡ node_records n
  pub families : HoldsFamilies n work

-- the edit is made, and in the block as it now is no tested node's glitch family holds a suspect set
pub record NothingSuspectAfter (n : Netlist) (e : Edit) (entries work : ℕ) : Type 0 where
  pub netlist : Netlist
  pub made : edited n e entries work ≡ answered netlist
  pub no_suspect : NoSuspect netlist

-- ---- any run of edits

-- an open block: its netlist, and what the two arrays hold of which each call is lent the front
pub record OpenBlock : Type 0 where
  pub netlist : Netlist
  pub nodes : List NodeRecord
  pub work : List ℕ

-- how much a call is lent of them: so many entries and so many work bytes, or all where there are not so many
pub record Lent : Type 0 where
  pub entries : ℕ
  pub bytes : ℕ

-- the block in the slices that are lent of its arrays
unfoldable pub lent_of : OpenBlock → Lent → OpenBlock
lent_of b lent = record { netlist = b.netlist; nodes = take lent.entries b.nodes; work = take lent.bytes b.work }

-- and in its arrays again, once a call left this in the slices: behind them stands what stood there
unfoldable pub given_back : OpenBlock → Lent → (left : OpenBlock) → OpenBlock
given_back b lent left = record {
  netlist = left.netlist;
  nodes = left.nodes ++ drop lent.entries b.nodes;
  work = left.work ++ drop lent.bytes b.work;
}

-- After opening, in any arrays: where it is refused the block has no variables and no nodes, as its state then says.
unfoldable pub after_opening : OpenBlock → (bytes : List ℕ) → Lent → OpenBlock
after_opening b bytes lent =
    let slices = lent_of b lent in
    given_back b lent record {
      netlist = otherwise empty (admitted bytes (length slices.nodes) (length slices.work));
      nodes = nodes_after bytes slices.nodes (length slices.work);
      work = work_after bytes (length slices.nodes) slices.work;
    }

-- a call: an edit, and how much it is lent
pub record Call : Type 0 where
  pub edit : Edit
  pub lent : Lent

-- after one call, and after a run of them, refused ones among them, each in slices of its own lengths
unfoldable pub after_call : OpenBlock → Call → OpenBlock
after_call b c =
    let slices = lent_of b c.lent in
    given_back b c.lent record {
      netlist = netlist_after b.netlist c.edit (length slices.nodes) (length slices.work);
      nodes = records_after b.netlist c.edit slices.nodes (length slices.work);
      work = bytes_after b.netlist c.edit (length slices.nodes) slices.work;
    }

unfoldable pub after_calls : OpenBlock → List Call → OpenBlock
after_calls b [] = b
after_calls b (c ∷ calls) = after_calls (after_call b c) calls

-- A block is as a check of its written-out netlist leaves it: the netlist obeys the record rules, the check refuses
-- nothing where it is lent all of both arrays and answers for that netlist, and they hold what it would write.
pub record AsChecked (b : OpenBlock) : Type 0 where
  pub obeys : WellFormed b.netlist
  pub answers : reply (written_out b.netlist) (length b.nodes) (length b.work) ≡ answered (findings b.netlist)
  pub records : nodes_after (written_out b.netlist) b.nodes (length b.work) ≡ b.nodes
  pub families : work_after (written_out b.netlist) (length b.nodes) b.work ≡ b.work
