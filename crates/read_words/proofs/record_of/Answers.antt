-- `read_words::record_of` meets its contract: the first word, and what stands behind it. Assumes nothing.
use Rattle.std.proofs.Common.{◌≡◌, ℕ, Option, List, drop, find, sym, ap, ◌∙◌, refl}
use Rattle.std.proofs.lemmas.Result.{err_from_is_err_and}
use Rattle.scanner.specs.Words.{words, same}
use Rattle.scanner.specs.Scans.{part, NextWord}
use Rattle.scanner.proofs.Scans.{to_the_end}
use Rattle.read_words.specs.declared.RecordForm.{RecordForm}
use Rattle.read_words.specs.declared.TheConstants.{FORMS}
use Rattle.read_words.specs.Words.{record_in}
use Rattle.read_words.specs.Meaning.{name_of, form_by, read_as}
use Rattle.read_words.proofs.Forms.{word_read}
use Rattle.read_words.proofs.Records.{no_value, some_value, record_in_lem}
use Rattle.read_words.proofs.record_of.Goals as goal

-- what the line says is what its first word and the words behind it say
says : (line : List ℕ) (from to : ℕ) (found : Option RecordForm) → NextWord line 0 from to
    → found ≡ find (λ form. same (part from to line) (name_of (form_by form))) FORMS → record_in (words line) ≡ read_as found (words (drop to line))
says line from to found next is = record_in_lem _ _ _ next.next ∙ word_read _ _ ∙ ap (λ (o : Option RecordForm). read_as o (words (drop to line))) (sym is)

pub returns-in_default : goal.returns-in_default
unfolding record_in
returns-in_default c = (ap record_in c.in_default.ensures, refl)

pub returns-in_err-form : goal.returns-in_err-form
returns-in_err-form c =
    let p = err_from_is_err_and c.from_residual.result c.from_residual.ensures.1 in
    let (none, fault) = no_value _ _ _ c.in_err-form.ensures.value in
    rw (p.1, p.2, fault) (says _ _ _ _ c.in-Some.ensures (rw none at c.form_of.ensures), refl)

pub returns-in_err-own : goal.returns-in_err-own
returns-in_err-own c =
    let p = err_from_is_err_and c.from_residual-in_err-own.result c.from_residual-in_err-own.ensures.1 in
    let some = some_value _ _ _ c.in_ok-form.ensures.value in
    rw (p.1, p.2) (says _ _ _ _ c.in-Some.ensures (rw some at c.form_of.ensures) ∙ rw to_the_end at c.in_err-own.ensures, refl)

pub returns : goal.returns
returns c =
    let some = some_value _ _ _ c.in_ok-form.ensures.value in
    rw (says _ _ _ _ c.in-Some.ensures (rw some at c.form_of.ensures)) (rw to_the_end at c.in_ok-own.ensures)
