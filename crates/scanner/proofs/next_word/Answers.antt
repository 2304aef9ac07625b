-- `scanner::next_word` meets its contract: one scan finds where the word starts, and another where it ends.
-- Assumes nothing.
use Rattle.std.proofs.Common.{◌+◌, arith, ap, ◌∙◌, rules}
use Rattle.scanner.specs.Words.{ends_word}
use Rattle.scanner.proofs.Scans.{stops, stops_nowhere, stops_or_ends}
use Rattle.scanner.proofs.Words.{starts_word, no_word, none_found, one_found}
use Rattle.scanner.proofs.next_word.Goals as goal

pub returns-in_err-from : goal.returns-in_err-from
returns-in_err-from c =
    rw c.from_residual.ensures (no_word _ _ (stops_nowhere starts_word c.args.line.now c.args.at c.in_err-from.ensures))

pub returns-then-long-eq0 : goal.returns-then-long-eq0
returns-then-long-eq0 c =
    let (blank, inside) = stops starts_word c.args.line.now c.args.at _ c.in_ok-from.ensures in
    let (end, within) = stops_or_ends ends_word c.args.line.now (c.args.at + c.in_ok-from.field-0) (omega arith) _ c.word_length.ensures in
    none_found _ _ _ _ (ap (λ n. c.args.at + n) blank) (c.unwrap_or-long.ensures ∙ end) c.if-long-eq0.true

pub overflow_add-result : goal.overflow_add-result
overflow_add-result c =
    let (blank, inside) = stops starts_word c.args.line.now c.args.at _ c.in_ok-from.ensures in
    let (end, within) = stops_or_ends ends_word c.args.line.now (c.args.at + c.in_ok-from.field-0) (omega arith) _ c.word_length.ensures in
    let is = c.unwrap_or-long.ensures in
    search rules

pub returns : goal.returns
returns c =
    let (blank, inside) = stops starts_word c.args.line.now c.args.at _ c.in_ok-from.ensures in
    let (end, within) = stops_or_ends ends_word c.args.line.now (c.args.at + c.in_ok-from.field-0) (omega arith) _ c.word_length.ensures in
    let is = c.unwrap_or-long.ensures in
    one_found _ _ _ _ (ap (λ n. c.args.at + n) blank) (is ∙ end) c.if-long-eq0.false (omega arith)
