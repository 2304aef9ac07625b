-- What feeds a gate is what feeds its operands: the rule joins the points of these, which are lower nodes.
-- Assumes nothing.
use Prim.Native.Nat.{ℕ, ◌<◌}
use mathlib.Core.Path.{◌≡◌, refl}
use mathlib.Core.Logic.{⊎_elim}
use mathlib.Core.Bool.{Bool, true, false, cond}
use mathlib.Core.List.{List, [], ◌∷◌}
use lib.Dec.{T}
use lib.ListN.{length, get_or, take}
use lib.Seq.{get_or-take}
use Rattle.rules.specs.Lists.{member}
use Rattle.rules.specs.Records.{Cell, input, Netlist, WellFormed, operands}
use Rattle.rules.specs.Values.{is_point, joined, feeding_rule, feedings, feeding}
use Rattle.rule_laws.proofs.Lists.{member_head, member_tail, member_cases, union_left, union_right, union_cases}
use Rattle.rule_laws.proofs.Tables.{table_entry}

module _ (points_of : ℕ → List ℕ) (p : ℕ) where
  -- p feeds one of these nodes
  abbrev pub FeedsOne : List ℕ → Type 0
  FeedsOne nodes = (a : ℕ) × T (member a nodes) × T (member p (points_of a))

  pub joined_fed : (nodes : List ℕ) → FeedsOne nodes → T (member p (joined points_of nodes))
  unfolding joined
  joined_fed [] (a, m, t) = absurd (unfold member in m)
  joined_fed (b ∷ nodes) (a, m, t) =
      ⊎_elim (λ e. union_left p (points_of b) _ (rw e at t)) (λ r. union_right p (points_of b) _ (joined_fed nodes (a, r, t)))
      (member_cases a b nodes m)

  pub joined_of : (nodes : List ℕ) → T (member p (joined points_of nodes)) → FeedsOne nodes
  unfolding joined
  joined_of [] t = absurd (unfold member in t)
  joined_of (b ∷ nodes) t =
      ⊎_elim (λ u. (b, member_head b nodes, u)) (λ u. let (a, m, v) = joined_of nodes u in (a, member_tail a b nodes m, v))
      (union_cases p (points_of b) (joined points_of nodes) t)

-- a gate is fed by what feeds its operands, and a point by itself
pub gate_rule : (done : List (List ℕ)) (cell : Cell) → (T (is_point cell) → ⊥) → feeding_rule done cell ≡ joined (λ a. get_or done a []) (operands cell)
unfolding feeding_rule
gate_rule done cell gate = go (is_point cell) gate
  where
    go : (b : Bool) → (T b → ⊥) → cond b (length done ∷ []) (joined (λ a. get_or done a []) (operands cell)) ≡ joined (λ a. get_or done a []) (operands cell)
    go true other = absurd (other tt)
    go false other = refl

pub point_rule : (done : List (List ℕ)) (cell : Cell) → T (is_point cell) → feeding_rule done cell ≡ length done ∷ []
unfolding feeding_rule
point_rule done cell point = go (is_point cell) point
  where
    go : (b : Bool) → T b → cond b (length done ∷ []) (joined (λ a. get_or done a []) (operands cell)) ≡ length done ∷ []
    go true own = refl
    go false own = absurd own

module _ (n : Netlist) (formed : WellFormed n) (i : ℕ) (h : i < length n.nodes) where
  abbrev Gate : Type 0
  Gate = T (is_point (get_or n.nodes i (input 0))) → ⊥

  -- p feeds an operand of node i
  abbrev pub FeedsOperand : ℕ → Type 0
  FeedsOperand p = (a : ℕ) × T (member a (operands (get_or n.nodes i (input 0)))) × T (member p (feeding n a))

  by_rule : feeding n i ≡ feeding_rule (take i (feedings n)) (get_or n.nodes i (input 0))
  unfolding feeding feedings
  by_rule = table_entry feeding_rule n.nodes i [] (input 0) h

  lower_feeding : (a : ℕ) → T (member a (operands (get_or n.nodes i (input 0)))) → get_or (take i (feedings n)) a [] ≡ feeding n a
  unfolding feeding
  lower_feeding a m = get_or-take i (feedings n) a [] (formed.lower i h a m)

  pub operand_feeds : Gate → (p : ℕ) → FeedsOperand p → T (member p (feeding n i))
  operand_feeds gate p (a, m, t) = rw (by_rule, gate_rule _ _ gate) (joined_fed _ p _ (a, m, rw (lower_feeding a m) t))

  pub fed_operand : Gate → (p : ℕ) → T (member p (feeding n i)) → FeedsOperand p
  fed_operand gate p t = let (a, m, u) = joined_of _ p _ (rw (by_rule, gate_rule _ _ gate) at t) in (a, m, rw (lower_feeding a m) at u)
