-- `read_bytes::entry_by` meets its contract: the fields returned are those of the entry of the node that the bytes say,
-- an input's set or the first bytes of the body. Assumes nothing.
use Prim.Native.Nat.{ℕ, ◌+◌, ◌*◌, ◌<◌}
use mathlib.Core.Path.{◌≡◌, sym, ap, ap₂, ◌∙◌}
use mathlib.Core.List.{List}
use native.Mathlib.Omega.{arith}
use lib.ListN.{length, get_or}
use Rattle.rules.specs.Records.{operand_count, listed, first_of, Cell, input, gate, node, said, kind_of, operands, set_of, most_body}
use Rattle.rules.specs.Slices.{node_of, entry}
use Rattle.rule_laws.proofs.Operands.{listed_length}
use Rattle.rule_laws.proofs.Records.{says_gate, said_node}
use Rattle.netlists.specs.Kinds.{byte_of}
use Rattle.netlists.proofs.Bytes.{input_byte}
use Rattle.netlists.proofs.Netlists.{node_same}
use Rattle.read_bytes.proofs.entry_by.Goals as goal

-- where the bytes say a node, the entry is that node's
same-entry : (one cell : Cell) → node one ≡ node cell → entry one ≡ entry cell
same-entry one cell e = cc

input-entry : (k : ℕ) (body : List ℕ) (cell : Cell) → k ≡ 2 → said k body ≡ node cell → entry (input (get_or body 0 0 + 256 * get_or body 1 0)) ≡ entry cell
unfolding said
input-entry k body cell two e = same-entry _ cell (rw two at e)

-- the entry of every other node, by the count of its operands
gate-entry : (k : ℕ) (body : List ℕ) (count : ℕ) (first : List ℕ) (cell : Cell) → (k ≡ 2 → ⊥) → said k body ≡ node cell
    → ((c : Cell) → k ≡ kind_of c → count ≡ length (operands c))
    → ((j : ℕ) → j < most_body → get_or first j 0 ≡ get_or (listed count (first_of count body)) j 0) → node_of k first 0 ≡ entry cell
unfolding entry kind_of operands set_of
gate-entry k body count first cell other e counts same =
    let (above, below) = said_node k body cell e in
    let (kind, number, says) = says_gate k body (omega arith) below in
    let own : Cell = gate kind (first_of (operand_count kind) body) in
    let many : count ≡ operand_count kind = counts own (sym number) ∙ listed_length (operand_count kind) (first_of (operand_count kind) body) in
    node_same k 0 first (listed count (first_of count body)) same
    ∙ ap₂ (λ (j n : ℕ). node_of j (listed n (first_of n body)) 0) (sym number) many ∙ same-entry own cell (sym says ∙ e)

pub returns-in-Input : goal.returns-in-Input
unfolding entry kind_of operands set_of
returns-in-Input c cell e =
    let two = c.byte-kind.ensures ∙ ap byte_of c.in-Input.is in
    rw (c.node_of.ensures, two, c.set_of-set.ensures, c.no_operands.ensures.1) (input-entry _ _ cell (ap byte_of c.in-Input.is) e)

pub first_of-at-requires : goal.first_of-at-requires
first_of-at-requires c = c.operand_count-count.ensures.few

pub returns-in_default : goal.returns-in_default
returns-in_default c cell e =
    c.node_of-in_default.ensures
    ∙ gate-entry _ _ _ c.first_of-at.result cell (λ (two : c.byte-kind.result ≡ 2). c.in_default.not-Input (input_byte c.args.own.kind (sym c.byte-kind.ensures ∙ two)))
    (rw c.byte-kind.ensures e) c.operand_count-count.ensures.value c.first_of-at.ensures
