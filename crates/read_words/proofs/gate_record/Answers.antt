-- `read_words::gate_record` meets its contract: as many operands as the kind has, each of a byte. Assumes nothing.
use Rattle.std.proofs.Common.{◌≡◌, ℕ, ◌<◌, length, refl, sym, ◌∙◌, arith, [], rules}
use Rattle.std.proofs.lemmas.Result.{err_from_is_err_and}
use Rattle.rules.specs.Records.{Kind, kind_number, operand_count, first_of, Cell, gate, kind_of, operands}
use Rattle.rule_laws.proofs.Operands.{listed_length}
use Rattle.netlists.specs.Netlists.{padded}
use Rattle.scanner.specs.Words.{words}
use Rattle.read_words.specs.Words.{with_operands}
use Rattle.read_words.proofs.Records.{no_value, some_value, so_many_operands, no_operand, one_operand, more_bytes, all_operands}
use Rattle.read_words.proofs.gate_record.Goals as goal

-- so many operands as the kind has
counted : (count k : ℕ) → ((cell : Cell) → k ≡ kind_of cell → count ≡ length (operands cell)) → (own : Kind) → k ≡ kind_number own → count ≡ operand_count own
unfolding kind_of operands
counted count k counts own e =
    let n = operand_count own in
    counts (gate own (first_of n [])) e ∙ listed_length n (first_of n [])

pub returns-in_err-has_numbers : goal.returns-in_err-has_numbers
unfolding with_operands
returns-in_err-has_numbers c own e =
    let p = err_from_is_err_and c.from_residual.result c.from_residual.ensures.1 in
    let count = counted _ _ c.operand_count-count.ensures.value own (c.byte-byte.ensures ∙ e) in
    rw (p.1, p.2) (rw count at c.in_err-has_numbers.ensures _)

pub loop-j-init : goal.loop-j-init
unfolding padded
loop-j-init c = (refl, refl)

pub returns-in_err-bytes : goal.returns-in_err-bytes
returns-in_err-bytes c own e =
    let p = err_from_is_err_and c.from_residual-in_err-bytes.result c.from_residual-in_err-bytes.ensures.1 in
    let (none, fault) = no_value _ _ _ c.in_err-bytes.ensures.value in
    let many = c.in_ok-has_numbers.ensures in
    let count = counted _ _ c.operand_count-count.ensures.value own (c.byte-byte.ensures ∙ e) in
    rw (
      p.1,
      p.2,
      fault,
      so_many_operands own _ (many ∙ count),
      c.loop-j.invariant.1,
      no_operand (words c.args.numbers.now) c.loop-j.j (omega (arith, many)) (rw none at c.operand_at.ensures),
    )

pub loop-j-preserved : goal.loop-j-preserved
loop-j-preserved c =
    let many = c.in_ok-has_numbers.ensures in
    let here : c.loop-j.j < length (words c.args.numbers.now) = omega (arith, many) in
    let is = rw (some_value _ _ _ c.in_ok-bytes.ensures.value) at c.operand_at.ensures in
    let byte : c.in_ok-bytes.field-0 < 256 = search rules in (
      rw (c.loop-j.invariant.0, is) (more_bytes _ c.loop-j.j here _ (omega (arith, c.operand_count-count.ensures.few))),
      c.loop-j.invariant.1 ∙ one_operand _ c.loop-j.j here (omega (arith, is, byte)),
    )

pub returns : goal.returns
returns c own e =
    let count = counted _ _ c.operand_count-count.ensures.value own (c.byte-byte.ensures ∙ e) in
    let many = c.in_ok-has_numbers.ensures in
    let all : c.loop-j.j ≡ c.operand_count-count.result = omega arith in
    rw (c.loop-j.invariant.0, ← all) (all_operands own _ _ _ (c.byte-byte.ensures ∙ e) (all ∙ count) (many ∙ sym all) c.loop-j.invariant.1)
