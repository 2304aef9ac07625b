-- `is_point` meets its contract: the kind of a node's record is the node's. Assumes nothing.
use Prim.Native.Nat.{ℕ}
use mathlib.Core.Path.{◌≡◌, refl, ap, ◌∙◌}
use mathlib.Core.Logic.{◌⊎◌, inl, inr}
use mathlib.Core.Bool.{Bool, true, false, ◌||◌}
use native.Mathlib.Omega.{arith}
use borrow.Author.Tests.{ne_eqb}
use lib.Dec.{eqb}
use Rattle.rules.specs.declared.Node.{Node}
use Rattle.rules.specs.Records.{Cell}
use Rattle.rules.specs.Values.{is_point}
use Rattle.rules.specs.Slices.{entry}
use Rattle.netlists.specs.declared.Kind.{Kind}
use Rattle.netlists.specs.declared.Kind.TheVariants.{End, Variable, Input, Not, Xor, And, Or, Register}
use Rattle.netlists.specs.Kinds.{byte_of}
use Rattle.node_values.proofs.is_point.Goals as goal

-- whether the number is an input's or a register's
abbrev of_number : ℕ → Bool
of_number number = eqb number 2 || eqb number 7

by_number : (node : Node) (b : Bool) → b ≡ of_number node.kind → (cell : Cell) → node ≡ entry cell → b ≡ is_point cell
unfolding is_point entry
by_number node b e cell is = e ∙ ap (λ (n : Node). of_number n.kind) is

kept : {kind : Kind} → (kind ≡ Input) ⊎ (kind ≡ Register) → true ≡ of_number (byte_of kind)
kept (inl e) = rw e
kept (inr e) = rw e

handed : (kind : Kind) → (kind ≡ Input → ⊥) → (kind ≡ Register → ⊥) → false ≡ of_number (byte_of kind)
handed End input register = refl
handed Variable input register = refl
handed Input input register = absurd (input refl)
handed Not input register = refl
handed Xor input register = refl
handed And input register = refl
handed Or input register = refl
handed Register input register = absurd (register refl)

pub returns-in_default : goal.returns-in_default
returns-in_default c =
    let (_, over) = c.in_default.ensures in
    by_number _ _ (rw (ne_eqb c.args.node.kind 2 (λ kind. omega arith), ne_eqb c.args.node.kind 7 (λ kind. omega arith)))

pub returns-in-Input : goal.returns-in-Input
returns-in-Input c = by_number _ _ (rw (← c.in-Ok.ensures) (kept c.in-Input.is))

pub returns-in_default-matches : goal.returns-in_default-matches
returns-in_default-matches c =
    by_number _ _ (rw (← c.in-Ok.ensures) (handed _ c.in_default-matches.not-Input c.in_default-matches.not-Register))
