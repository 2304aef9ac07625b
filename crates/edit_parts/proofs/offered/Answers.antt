-- `edit_parts::offered` meets its contract: a kind of 0 or 1 is refused first, and then the record is judged
-- as the next of a file (`Offers`), which refuses it, or accepts a node's record that has bytes left over or not.
-- Assumes nothing.
use Prim.Native.Nat.{ℕ, ◌<◌}
use mathlib.Core.Path.{◌≡◌, ap, ◌∙◌}
use mathlib.Core.List.{List}
use lib.ListN.{length, get_or, drop}
use Rattle.std.proofs.lemmas.Result.{err_from_is_err_and}
use Rattle.rules.specs.declared.Node.{Node}
use Rattle.rules.specs.Records.{Cell, size}
use Rattle.rules.specs.Slices.{entry}
use Rattle.rules.specs.Checks.{Outcome, answered, and_then}
use Rattle.records.specs.declared.RecordBytes.{RecordBytes}
use Rattle.records.specs.Bytes.{record_bytes_at}
use Rattle.records.proofs.Judged.{body_seen}
use Rattle.edit_rules.specs.Edits.{judged_node}
use Rattle.edit_parts.proofs.Offers.{FoundNext, no_node, refused_next, found_next, surplus_next, taken_next, offer_same}
use Rattle.edit_parts.proofs.offered.Goals as goal

-- the record of these bytes, behind so many variables and nodes, is offered
abbrev offer : (total variables nodes k : ℕ) (body : List ℕ) → Outcome Node
offer total variables nodes k body = and_then (judged_node total variables nodes k body) (λ cell. answered (entry cell))

-- the bytes that are read are its own
of-bytes : (bytes : List ℕ) (variables nodes : ℕ) (own : RecordBytes) (o : Outcome Node) → own ≡ record_bytes_at bytes 0
    → o ≡ offer (length bytes) variables nodes own.kind own.body
    → o ≡ offer (length bytes) variables nodes (get_or bytes 0 0) (drop 1 bytes)
of-bytes bytes variables nodes own o e h =
    (rw e at h)
    ∙ ap (λ (x : Outcome Cell). and_then x (λ cell. answered (entry cell))) (offer_same (length bytes) _ _ _ _ _ (body_seen bytes 0))

pub returns-then-own-lt2 : goal.returns-then-own-lt2
returns-then-own-lt2 c =
    let low = no_node _ _ _ _ _ _ c.if-bytes-gt0.true c.if-own-lt2.true in
    rw c.at.ensures (of-bytes _ _ _ _ _ c.bytes_at-own.ensures low)

pub returns-in_err-judge : goal.returns-in_err-judge
returns-in_err-judge c =
    let p = err_from_is_err_and c.from_residual.result c.from_residual.ensures.1 in
    let refuses = refused_next _ _ _ _ _ c.else-bytes-gt0.either _ _ c.in_err-judge.ensures.judged in
    rw (p.1, p.2) (of-bytes _ _ _ _ _ c.bytes_at-own.ensures refuses)

pub returns-then-size_of-bytes : goal.returns-then-size_of-bytes
returns-then-size_of-bytes c =
    let x = found_next _ _ _ _ _ c.else-bytes-gt0.either c.in_ok-judge.ensures.judged in
    let long = c.size_of.ensures.size _ x.above x.known ∙ ap size x.says in
    rw c.at-then-size_of-bytes.ensures
    (of-bytes _ _ _ _ _ c.bytes_at-own.ensures (surplus_next _ _ _ _ _ x _ _ long c.if-size_of-bytes.true))

pub returns : goal.returns
returns c =
    let x = found_next _ _ _ _ _ c.else-bytes-gt0.either c.in_ok-judge.ensures.judged in
    let long = c.size_of.ensures.size _ x.above x.known ∙ ap size x.says in
    of-bytes _ _ _ _ _ c.bytes_at-own.ensures
    (ap answered (c.entry_of.ensures x.cell x.says) ∙ taken_next _ _ _ _ _ x _ _ long c.if-size_of-bytes.false)
