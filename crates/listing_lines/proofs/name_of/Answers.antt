-- `listing_lines::name_of` meets its contract: each arm has the name of the nodes whose kind has its number,
-- and the last arm that of a register. Assumes nothing.
use Prim.Native.Nat.{ℕ, ◌≤◌}
use mathlib.Core.Path.{◌≡◌, refl, sym, ap, ◌∙◌}
use mathlib.Core.List.{List, [], ◌∷◌}
use native.Mathlib.Omega.{arith}
use lib.ListN.{get_or}
use Rattle.rules.specs.Records.{NOT, XOR, AND, OR, register, last_kind, Cell, input, gate, kind_of}
use Rattle.rules.specs.Listing.{word, name_of, kind_name}
use Rattle.rule_laws.proofs.Operands.{known}
use Rattle.listing_lines.proofs.name_of.Goals as goal

-- the word for a kind
word_for : ℕ → List ℕ
word_for kind = get_or ([] ∷ [] ∷ word "in" ∷ word "not" ∷ word "xor" ∷ word "and" ∷ word "or" ∷ []) kind (word "reg")

named : (cell : Cell) → word_for (kind_of cell) ≡ kind_name cell
unfolding word_for kind_of kind_name name_of
named (input s) = refl
named (gate NOT ops) = refl
named (gate XOR ops) = refl
named (gate AND ops) = refl
named (gate OR ops) = refl
named (gate register ops) = refl

-- kinds are numbered from 2 to the last
numbered : (cell : Cell) → (2 ≤ kind_of cell) × (kind_of cell ≤ last_kind)
unfolding kind_of
numbered (input s) = omega arith
numbered (gate kind ops) = omega (arith, (known kind).above, (known kind).below)

-- where the kind is this number, its word is the name of each node of the kind
said : {kind : ℕ} (number : ℕ) → kind ≡ number → (cell : Cell) → kind ≡ kind_of cell → word_for number ≡ kind_name cell
said number k cell e = ap word_for (sym k ∙ e) ∙ named cell

pub returns-in-2-clause-named : goal.returns-in-2-clause-named
unfolding word_for word
returns-in-2-clause-named c = said 2 c.in-2.is

pub returns-in-3-clause-named : goal.returns-in-3-clause-named
unfolding word_for word
returns-in-3-clause-named c = said 3 c.in-3.is

pub returns-in-4-clause-named : goal.returns-in-4-clause-named
unfolding word_for word
returns-in-4-clause-named c = said 4 c.in-4.is

pub returns-in-5-clause-named : goal.returns-in-5-clause-named
unfolding word_for word
returns-in-5-clause-named c = said 5 c.in-5.is

pub returns-in-6-clause-named : goal.returns-in-6-clause-named
unfolding word_for word
returns-in-6-clause-named c = said 6 c.in-6.is

pub returns-in_default-clause-named : goal.returns-in_default-clause-named
unfolding word_for word
returns-in_default-clause-named c = λ cell e. said 7 (omega (arith, numbered cell)) cell e
