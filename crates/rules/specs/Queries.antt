-- Document 01, "Rules for the two families", its paragraph on the queries: the reply of each. Assumes nothing.
use Rattle.std.specs.Prelude.{ℕ, Bool, false, List, length, get_or}
use Rattle.rules.specs.Lists.{member, tabulate}
use Rattle.rules.specs.Records.{Netlist, most_nodes, bits}
use Rattle.rules.specs.Values.{values, feeding}
use Rattle.rules.specs.Families.{families_at}
use Rattle.rules.specs.Checks.{Outcome, answered, refused, queried, queried_with}

-- the reply to a query: whether it was refused, and what it gives all the same
pub record Given (A : Type 0) : Type 0 where
  pub outcome : Outcome (Unit {0})
  pub gives : A

-- a refused query gives `instead`
unfoldable pub given : {A : Type 0} → (instead : A) → (Netlist → A) → Outcome Netlist → Given A
given instead f (answered n) = record { outcome = answered tt; gives = f n }
given instead f (refused k p) = record { outcome = refused k p; gives = instead }

-- the settled value of a node under an assignment, which is numbered as sets are; refused: value 0
unfoldable pub value_query : List ℕ → (node assignment : ℕ) → Given Bool
value_query bytes i x =
    given false (λ n. get_or (values n (bits (length n.variables) x)) i false)
    (queried_with bytes i x)

-- the feeding points of a node, as 200 yes-or-no marks by node number; refused: every mark no
unfoldable pub feeding_query : List ℕ → (node : ℕ) → Given (List Bool)
feeding_query bytes i =
    given (tabulate (λ j. false) most_nodes) (λ n. tabulate (λ j. member j (feeding n i)) most_nodes)
    (queried bytes i)

-- whether a set is in the settled family, and whether it is in the glitch family
pub record Memberships : Type 0 where
  pub settled : Bool
  pub glitch : Bool

-- whether a set is in each of a node's two families; refused: both no
unfoldable pub membership_query : List ℕ → (node set : ℕ) → Given Memberships
membership_query bytes i A =
    given (record { settled = false; glitch = false })
    (λ n. record { settled = member A (families_at n i).settled; glitch = member A (families_at n i).glitch })
    (queried_with bytes i A)
