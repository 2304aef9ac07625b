-- The law of renumbering at work: block A with its inputs moved, a register taken in between and its operands
-- renumbered, where each node has what it had; and blocks A and B, which are no such case, whatever the numbers are,
-- since in block B the XOR uses the register that stands between. Assumes nothing.
use Prim.Native.Nat.{ℕ, zero, suc, ◌<◌}
use mathlib.Core.Path.{◌≡◌, refl, sym, ap, ◌∙◌}
use mathlib.Core.Logic.{◌↔◌, ◌⊎◌, inl, inr}
use mathlib.Core.Bool.{false}
use mathlib.Core.List.{[], ◌∷◌}
use mathlib.Core.Option.{none}
use native.Mathlib.Omega.{arith}
use lib.ListN.{get_or}
use Rattle.rules.specs.Lists.{digit, member, insert, union}
use Rattle.rules.specs.Tables.{table}
use Rattle.rules.specs.Records.{XOR, register, input, gate, listed, from_operands, renamed, renamed_all, kind_of, operands, set_of, Netlist, WellFormed}
use Rattle.rules.specs.Values.{Assignment, values, is_point, joined, feeding_rule, feedings, feeding}
use Rattle.rules.specs.Families.{product, spread, settled_of, glitch_of, family_rule, families_rule, families, families_at, Family, Families, layer_marks}
use Rattle.rules.specs.Blocks.{P9}
use Rattle.rule_laws.proofs.Members.{All, all_none, all_front, all_single}
use Rattle.rule_laws.proofs.Reading.{read_well_formed}
use Rattle.rule_laws.proofs.Renumbering.{Renumbers, Placed, values_renumbered, families_renumbered, feedings_renumbered, marks_renumbered, renumbered_formed}
use Rattle.rules.proofs.BlockCounts.{p9, p9_read, p10}

-- ---- nodes that move, and one that is taken in between

-- where each node of block A stands: its inputs 0, 1 and 2 at 1, 4 and 0, and its XORs at 3 and 5
abbrev place : ℕ → ℕ
place a = get_or (1 ∷ 4 ∷ 0 ∷ 3 ∷ 5 ∷ []) a a

-- and what stood there; node 2 is new, a register that no other node uses
abbrev back : ℕ → ℕ
back i = get_or (2 ∷ 0 ∷ 5 ∷ 3 ∷ 1 ∷ 4 ∷ []) i i

abbrev pub moved : Netlist
moved = record {
  variables = p9.variables;
  nodes = input 4 ∷ input 3 ∷ gate register (1, tt) ∷ gate XOR (1, (0, tt)) ∷ input 2 ∷ gate XOR (3, (4, tt)) ∷ [];
}

abbrev Old : ℕ → Type 0
Old a = a < 5

old_each : (P : ℕ → Type 0) → P 0 → P 1 → P 2 → P 3 → P 4 → (a : ℕ) → Old a → P a
old_each P p q r s t zero h = p
old_each P p q r s t (suc zero) h = q
old_each P p q r s t (suc (suc zero)) h = r
old_each P p q r s t (suc (suc (suc zero))) h = s
old_each P p q r s t (suc (suc (suc (suc zero)))) h = t
old_each P p q r s t (suc (suc (suc (suc (suc a))))) h = absurd (omega arith)

-- a node and its place are both there, or neither
abbrev Both : (k l a b : ℕ) → Type 0
Both k l a b = (a < k) ↔ (b < l)

moved_uses : (a : ℕ) → Old a → All (λ b. Old b × Both a (place a) b (place b)) (operands (get_or p9.nodes a (input 0)))
unfolding operands listed
moved_uses =
    old_each (λ a. All (λ b. Old b × Both a (place a) b (place b)) (operands (get_or p9.nodes a (input 0))))
    (all_none _) (all_none _) (all_none _)
    (all_front _ 0 (2 ∷ []) (omega arith, (λ h. omega arith, λ h. omega arith)) (all_single _ 2 (omega arith, (λ h. omega arith, λ h. omega arith))))
    (all_front _ 3 (1 ∷ []) (omega arith, (λ h. omega arith, λ h. omega arith)) (all_single _ 1 (omega arith, (λ h. omega arith, λ h. omega arith))))

placed_back : (a : ℕ) → Old a → back (place a) ≡ a
placed_back = old_each (λ a. back (place a) ≡ a) refl refl refl refl refl

pub moved_renumbers : Renumbers place Old p9.nodes moved.nodes
unfolding renamed renamed_all
moved_renumbers = record {
  there = old_each (λ a. Both 5 6 a (place a)) (λ h. omega arith, λ h. omega arith) (λ h. omega arith, λ h. omega arith) (λ h. omega arith, λ h. omega arith) (λ h. omega arith, λ h. omega arith) (λ h. omega arith, λ h. omega arith);
  cells = old_each (λ a. get_or moved.nodes (place a) (input 0) ≡ renamed place (get_or p9.nodes a (input 0))) refl refl refl refl refl;
  uses = moved_uses;
  apart = λ a b h k e. sym (placed_back a h) ∙ ap back e ∙ placed_back b k;
}

-- so node 4, at which block A is suspect, is node 5 with all that it had: families, values, marks and feeding points
pub moved_families : families_at p9 4 ≡ families_at moved 5
moved_families = families_renumbered place Old p9 moved moved_renumbers 4 (omega arith)

pub moved_values : (x : Assignment) → get_or (values p9 x) 4 false ≡ get_or (values moved x) 5 false
moved_values x = values_renumbered place Old p9 moved moved_renumbers x 4 (omega arith)

pub moved_marks : (layer : Families → Family) → get_or (layer_marks layer p9) 4 none ≡ get_or (layer_marks layer moved) 5 none
moved_marks layer = marks_renumbered place Old p9 moved moved_renumbers refl layer 4 (omega arith)

pub moved_feeding : (feeding p9 4 ≡ 0 ∷ 2 ∷ 1 ∷ []) × (feeding moved 5 ≡ 1 ∷ 0 ∷ 4 ∷ [])
unfolding member insert union table is_point kind_of operands listed joined feeding_rule feedings feeding
moved_feeding = (refl, (feedings_renumbered place Old p9 moved moved_renumbers 4 (omega arith)).points)

-- and the netlist obeys the record rules, since the register does too
pub moved_formed : WellFormed moved
unfolding operands listed set_of
moved_formed =
    renumbered_formed place Old p9 moved moved_renumbers refl (read_well_formed P9.bytes p9 p9_read) (omega arith) each
  where
    each : (i : ℕ) → i < 6 → ((a : ℕ) × Old a × (place a ≡ i)) ⊎ Placed place Old p9 moved moved_renumbers refl i
    each zero h = inl (2, omega arith, refl)
    each (suc zero) h = inl (0, omega arith, refl)
    each (suc (suc zero)) h = inr (record { lower = all_single _ 1 (omega arith); declared = omega arith })
    each (suc (suc (suc zero))) h = inl (3, omega arith, refl)
    each (suc (suc (suc (suc zero)))) h = inl (1, omega arith, refl)
    each (suc (suc (suc (suc (suc zero))))) h = inl (4, omega arith, refl)
    each (suc (suc (suc (suc (suc (suc i)))))) h = absurd (omega arith)

-- ---- a node that is taken in between and used

-- Block B is block A with a register taken in between its XORs, which the second one uses. In no renumbering that XOR,
-- node 4, becomes node 5: the set 1 of its glitch family would be there.
pub used_between : (f : ℕ → ℕ) (Kept : ℕ → Type 0) → f 4 ≡ 5 → Kept 4 → Renumbers f Kept p9.nodes p10.nodes → ⊥
unfolding member insert union table product spread settled_of glitch_of from_operands family_rule families_rule families families_at
used_between f Kept there kept r =
    let same : families_at p9 4 ≡ families_at p10 (f 4) = families_renumbered f Kept p9 p10 r 4 kept in
    let held : digit (member 1 (families_at p9 4).glitch) ≡ digit (member 1 (families_at p10 5).glitch) =
    ap (λ (F : Families). digit (member 1 F.glitch)) (rw there at same) in
    absurd (omega (arith, held))
