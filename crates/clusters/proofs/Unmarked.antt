-- A gate that has no mark: where the glitch mark of a gate or register is none, its own glitch family
-- holds no suspect set, whatever other nodes hold; so what is said of many probes holds round it.
-- Of the node records that a check leaves, and of those of an open block. Assumes nothing.
use Rattle.std.specs.Prelude.{Ok}
use Prim.Native.Nat.{ℕ, ◌<◌}
use mathlib.Core.Path.{◌≡◌, refl, sym, ap, subst, ◌∙◌}
use mathlib.Core.Bool.{true, not}
use mathlib.Core.List.{List, map}
use mathlib.Core.Option.{none}
use native.Mathlib.Omega.{arith}
use borrow.Author.Tests.{ne_eqb}
use lib.ListN.{length, get_or, take, get_or-map}
use lib.Seq.{get_or-take}
use Rattle.rules.specs.declared.Node.{Node}
use Rattle.rules.specs.declared.NodeRecord.{NodeRecord}
use Rattle.rules.specs.declared.Answer.{Answer}
use Rattle.rules.specs.Records.{Cell, input, Netlist, WellFormed, kind_of, written_out}
use Rattle.rules.specs.Families.{Family, families_at, tested, reported, mark, layer_marks, findings}
use Rattle.rules.specs.Checks.{Outcome, answered, refused, and_then, read, admitted}
use Rattle.rules.specs.Slices.{entry, mark_number, mark_of, node_record, node_records, nodes_after, reply}
use Rattle.rules.specs.Paper.{reply_of}
use Rattle.rule_laws.proofs.Halves.{reported_none, layer_mark}
use Rattle.rule_laws.proofs.Marks.{mark_written, mark_told, record_nodes, record_glitch, checked_records}
use Rattle.rule_laws.proofs.Room.{admitted_says}
use Rattle.rule_laws.proofs.Written.{write_read}
use Rattle.clusters.specs.Clusters.{ClearGate, ManyProbes, ManyWires, record_of, Unmarked, RoundUnmarked}
use Rattle.clusters.proofs.ManyProbes.{many_probes, many_wires}

-- a kind above 2 is tested
kind_tested : (cell : Cell) → 2 < kind_of cell → tested cell ≡ true
unfolding tested
kind_tested cell above = ap not (ne_eqb (kind_of cell) 2 (λ e. omega (arith, e)))

-- ---- a slice that holds the node records of a netlist at its front

module _ (n : Netlist) (nodes : List NodeRecord) (holds : take (length n.nodes) nodes ≡ node_records n) (gate : ℕ)
    (unmarked : Unmarked (length n.nodes) nodes gate) where
  abbrev cell : Cell
  cell = get_or n.nodes gate (input 0)

  abbrev F : Family
  F = (families_at n gate).glitch

  -- a field of the gate's record is that of the netlist's
  field : {A : Type 0} (f : NodeRecord → A) → f (record_of nodes gate) ≡ get_or (map f (node_records n)) gate (f (node_record (input 0) none none))
  field f =
      ap f (sym (get_or-take (length n.nodes) nodes gate _ unmarked.there) ∙ ap (λ (l : List NodeRecord). record_of l gate) holds)
      ∙ sym (get_or-map f (node_records n) gate (node_record (input 0) none none))

  -- so its kind is the node's, and its mark what the node reports, which is nothing
  own_kind : (record_of nodes gate).node.kind ≡ kind_of cell
  unfolding node_record entry
  own_kind =
      ap (λ (e : Node). e.kind)
      (field (λ r. r.node) ∙ ap (λ (l : List Node). get_or l gate (entry (input 0))) (record_nodes n) ∙ get_or-map entry n.nodes gate (input 0))

  own_mark : (record_of nodes gate).glitch ≡ mark_number (mark n.variables cell F)
  unfolding node_record mark_number
  own_mark =
      field (λ r. r.glitch)
      ∙ rw (record_glitch n) (mark_written (layer_marks (λ F. F.glitch) n) gate ∙ ap mark_number (layer_mark (λ F. F.glitch) n gate))

  no_report : reported n.variables F ≡ none
  unfolding mark mark_of
  no_report =
      rw (kind_tested cell (subst (λ (k : ℕ). 2 < k) own_kind unmarked.is_tested)) at
      (sym (mark_told n.variables cell F) ∙ ap mark_of (sym own_mark ∙ unmarked.no_mark))

  -- Where its glitch mark is none, a gate or register is clear.
  pub unmarked_clear : ClearGate n gate
  unfolding ClearGate
  unmarked_clear = reported_none n.variables F no_report

-- ---- where both hold

-- round a gate of any bytes that are read as the netlist
both_round : (bytes : List ℕ) (n : Netlist) (nodes : List NodeRecord) → take (length n.nodes) nodes ≡ node_records n → read bytes ≡ answered n
    → RoundUnmarked bytes nodes
unfolding RoundUnmarked ManyProbes ManyWires
both_round bytes n nodes holds is_read m reads-m gate unmarked =
    let same : n ≡ m = cc in
    let clear = unmarked_clear m nodes (subst (λ (k : Netlist). take (length k.nodes) nodes ≡ node_records k) same holds) gate unmarked in
    (clear, many_probes bytes m reads-m gate clear, many_wires bytes m reads-m gate clear)

-- Of the node records that a check leaves, as clauses `reply` and `nodes` of the contract of `check`
-- have it, where it answers.
pub checked_unmarked : (bytes : List ℕ) (before after : List NodeRecord) (work : ℕ) (a : Answer) → reply_of (Ok a) ≡ reply bytes (length before) work
    → after ≡ nodes_after bytes before work → RoundUnmarked bytes after
unfolding reply and_then
checked_unmarked bytes before after work a replied left = rw left (go (admitted bytes (length before) work) refl replied)
  where
    go : (o : Outcome Netlist) → admitted bytes (length before) work ≡ o → reply_of (Ok a) ≡ and_then o (λ n. answered (findings n))
        → RoundUnmarked bytes (nodes_after bytes before work)
    go (answered n) is says =
        both_round bytes n (nodes_after bytes before work) (checked_records bytes before work n is) (admitted_says bytes (length before) work n is).is_read
    go (refused k p) is says = absurd cc

-- And of those of an open block, after any run of edits: it obeys the record rules, and its
-- slice holds them at its front.
pub open_unmarked : (n : Netlist) (nodes : List NodeRecord) → WellFormed n → take (length n.nodes) nodes ≡ node_records n
    → RoundUnmarked (written_out n) nodes
open_unmarked n nodes formed holds = both_round (written_out n) n nodes holds (write_read n formed)
