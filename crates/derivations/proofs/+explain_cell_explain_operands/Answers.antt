-- `explain_cell` and `explain_operands` meet their contracts: the step of the first rule that works, and behind it those
-- of what it needs. Assumes nothing.
use Rattle.std.proofs.Common.{ℕ, ◌≡◌, ◌<◌, ◌+◌, ◌*◌, ◌⊎◌, inl, inr, [], ◌∷◌, arith, append-nil}
use Rattle.netlists.specs.declared.Netlist.{Netlist}
use Rattle.derivation_rules.specs.Derivations.{explained}
use Rattle.derivation_steps.specs.Meaning.{claim_of, way_of}
use Rattle.derivation_steps.specs.declared.Claim.{Claim}
use Rattle.derivation_steps.specs.declared.Way.{Way}
use Rattle.derivation_steps.specs.declared.Way.TheVariants.{Own, Operand, Empty, First, Second, Both}
use Rattle.derivations.specs.Written.{Held, HeldEach}
use Rattle.derivations.proofs.Written.{written_none, written_full, written_over, written_more, written_step}
use Rattle.derivations.proofs.Known.{each_higher, node_number, set_number, record_there, steps_some, needs_true, steps_of}
use Rattle.derivations.proofs.+explain_cell_explain_operands.Invariants.{highest}
use Rattle.derivations.proofs.+explain_cell_explain_operands.Goals as goal

-- ---- a claim

-- the highest operand that a step needs is below its node
needs_fall : (value : Netlist) (bound : ℕ) (w : Way) → HeldEach value bound w → highest w < 2 * bound + 1
needs_fall value bound Own h = omega arith
needs_fall value bound (Operand c) h = omega (arith, h.below)
needs_fall value bound Empty h = omega arith
needs_fall value bound (First c) h = omega (arith, h.below)
needs_fall value bound (Second c) h = omega (arith, h.below)
needs_fall value bound (Both c d) (h, m) = omega (arith, h.below, m.below)

pub explain_cell-returns-then-room-at : goal.explain_cell-returns-then-room-at
explain_cell-returns-then-room-at t c =
    let (known, held, _, _) = c.requires in
    λ n e. written_full _ _ _ _ c.if-room-at.true (steps_some known held n e)

pub explain_cell-offset_bounds-netlist-claim : goal.explain_cell-offset_bounds-netlist-claim
explain_cell-offset_bounds-netlist-claim t c =
    let (known, held, _, _) = c.requires in omega (arith, node_number known held)

pub explain_cell-bounds-netlist-claim : goal.explain_cell-bounds-netlist-claim
explain_cell-bounds-netlist-claim t c = let (known, held, _, _) = c.requires in node_number known held

pub explain_cell-choose-way-requires : goal.explain_cell-choose-way-requires
explain_cell-choose-way-requires t c =
    let (known, held, _, _) = c.requires in
    (omega (arith, known.size), record_there known held, set_number known held)

pub explain_cell-put_step-requires : goal.explain_cell-put_step-requires
explain_cell-put_step-requires t c =
    let (known, held, long, _) = c.requires in
    (omega (arith, long, c.if-room-at.false), node_number known held, set_number known held)

pub explain_cell-explain_operands-requires : goal.explain_cell-explain_operands-requires
explain_cell-explain_operands-requires t c =
    let (known, held, long, few) = c.requires in
    let needs = needs_true known held _ c.choose-way.ensures in (
      omega (arith, needs_fall _ _ _ needs),
      (
        known,
        each_higher _ _ _ _ needs (omega (arith, held.below)),
        omega (arith, c.if-room-at.false),
        omega (arith, long, c.put_step.ensures.long),
        few,
      ),
    )

pub explain_cell-returns : goal.explain_cell-returns
explain_cell-returns t c =
    let (known, held, _, _) = c.requires in
    λ n e.
    rw (steps_of known held _ c.choose-way.ensures n e _ c.rule.ensures)
    (written_step _ c.if-room-at.false c.put_step.ensures (c.explain_operands.ensures n e))

-- ---- what a step needs

-- a way that needs nothing, or one claim
none_needed : {w : Way} → (w ≡ Own) ⊎ (w ≡ Empty) → (way_of w).needs ≡ []
none_needed (inl e) = rw e
none_needed (inr e) = rw e

one_needed : {w : Way} (d : Claim) → (w ≡ Operand d) ⊎ ((w ≡ First d) ⊎ (w ≡ Second d)) → (way_of w).needs ≡ claim_of d ∷ []
one_needed d (inl e) = rw e
one_needed d (inr (inl e)) = rw e
one_needed d (inr (inr e)) = rw e

both_held : {value : Netlist} {bound : ℕ} {w : Way} (c d : Claim) → w ≡ Both c d → HeldEach value bound w
    → (Held value bound c × (2 * c.node + 1 < highest w)) × (Held value bound d × (2 * d.node + 1 < highest w))
both_held c d e h = let (first, second) = rw e at h in ((first, rw e (omega arith)), (second, rw e (omega arith)))

pub explain_operands-explain_cell-requires : goal.explain_operands-explain_cell-requires
explain_operands-explain_cell-requires t c =
    let (known, needs, _, long, few) = c.requires in
    let ((need, falls), _) = both_held _ _ c.in-Both.is needs in
    (omega (arith, falls), (known, need, long, few))

pub explain_operands-returns-in-Own : goal.explain_operands-returns-in-Own
unfolding explained
explain_operands-returns-in-Own t c =
    let (_, _, fits, _, _) = c.requires in λ n e. rw (none_needed c.in-Own.is) (written_none _ _ _ fits)

pub explain_operands-returns-in_err-next-in-Both : goal.explain_operands-returns-in_err-next-in-Both
unfolding explained
explain_operands-returns-in_err-next-in-Both t c = λ n e.
    rw (c.from_residual.ensures, c.in-Both.is) (written_over _ (rw c.in_err-next-in-Both.was at (c.explain_cell.ensures n e)))

pub explain_operands-returns-in_ok-next-in-Both : goal.explain_operands-returns-in_ok-next-in-Both
unfolding explained
explain_operands-returns-in_ok-next-in-Both t c = λ n e.
    rw (c.in-Both.is, append-nil)
    (written_more (rw c.in_ok-next-in-Both.was at (c.explain_cell.ensures n e)) (c.explain_cell-in-Both.ensures n e))

pub explain_operands-returns-in-Operand : goal.explain_operands-returns-in-Operand
unfolding explained
explain_operands-returns-in-Operand t c = λ n e.
    rw (one_needed _ c.in-Operand.is, append-nil) (c.explain_cell-in-Operand.ensures n e)
