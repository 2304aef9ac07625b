-- `read_bytes::record_at` meets its contract: `judge` is handed the bytes that the specification judges, as far as it
-- looks at them. Assumes nothing.
use Prim.Native.Nat.{ℕ, ◌+◌}
use mathlib.Core.Path.{◌≡◌, ap, ◌∙◌}
use mathlib.Core.List.{List}
use lib.ListN.{length, get_or, drop}
use Rattle.std.proofs.lemmas.Result.{err_from_is_err_and}
use Rattle.rules.specs.Checks.{Outcome, answered, and_then, judged_record, judged_at}
use Rattle.rule_laws.proofs.Records.{judged_same}
use Rattle.records.specs.declared.RecordBytes.{RecordBytes}
use Rattle.records.specs.Bytes.{body_at, record_bytes_at, accepted_if}
use Rattle.records.proofs.Judged.{body_seen}
use Rattle.read_bytes.specs.Reading.{found_at}
use Rattle.read_bytes.proofs.record_at.Goals as goal

seen : (bytes : List ℕ) (v n here : ℕ) → judged_record (length bytes) v n here (get_or bytes here 0) (body_at bytes here) ≡ judged_at bytes v n here
seen bytes v n here = judged_same (length bytes) v n here (get_or bytes here 0) (body_at bytes here) (drop (here + 1) bytes) (body_seen bytes here)

-- what is judged of these bytes is what is found
found : (bytes : List ℕ) (v n here : ℕ) (own : RecordBytes) (told : Outcome (Unit {0})) → own ≡ record_bytes_at bytes here
    → told ≡ accepted_if (judged_record (length bytes) v n here own.kind own.body) → and_then told (λ _. answered own) ≡ found_at bytes v n here
found bytes v n here own told is judged = rw (judged, is, seen bytes v n here)

pub returns : goal.returns
unfolding and_then
returns c =
    let a = c.args in
    ap (λ (k : ℕ). answered (record { kind = k; body = c.bytes_at-own.result.body })) c.in_ok-kind.ensures.kind
    ∙ found a.bytes.now a.variables a.nodes a.here c.bytes_at-own.result _ c.bytes_at-own.ensures c.in_ok-kind.ensures.judged

pub returns-in_err-kind : goal.returns-in_err-kind
unfolding and_then
returns-in_err-kind c =
    let a = c.args in
    let p = err_from_is_err_and c.from_residual.result c.from_residual.ensures.1 in
    rw (p.1, p.2) (found a.bytes.now a.variables a.nodes a.here c.bytes_at-own.result _ c.bytes_at-own.ensures c.in_err-kind.ensures.judged)
