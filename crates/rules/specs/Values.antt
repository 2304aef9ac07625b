-- Document 01, "Values and feeding points": settled values, feeding points, the settings of each class, patterns,
-- and the number of mask settings that give a pattern. All of it follows from the netlist by these rules, and not from
-- anything that the checker wrote. Assumes nothing.
use Rattle.std.specs.Prelude.{ℕ, zero, suc, ◌/◌, ◌≡◌, Bool, true, false, not, cond, ◌&&◌, ◌||◌, List, [], ◌∷◌, ◌++◌, map, eqb, length, get_or}
use Rattle.std.specs.Bool.{xor, beq}
use Rattle.rules.specs.Lists.{union, count}
use Rattle.rules.specs.Tables.{table}
use Rattle.rules.specs.Records.{Class, secret, mask, public, class_byte, Netlist, odd}
use Rattle.rules.specs.Records.{Kind, NOT, XOR, AND, OR, register, operand_count, Rule, from_operands}
use Rattle.rules.specs.Records.{Cell, input, gate, kind_of, operands}

-- An assignment gives each variable 0 or 1: here its entry v is the value of variable v.
abbrev pub Assignment : Type 0
Assignment = List Bool

-- the exclusive-or of the variables of a set, 0 for the empty set
unfoldable pub exclusive_or : (set : ℕ) → Assignment → Bool
exclusive_or s [] = false
exclusive_or s (x ∷ xs) = xor (odd s && x) (exclusive_or (s / 2) xs)

-- The settled value of an input is the exclusive-or of its variables; of a register, its operand's value;
-- of a gate, the usual function.
unfoldable pub value_of : (kind : Kind) → Rule Bool Bool (operand_count kind)
value_of NOT = not
value_of XOR = xor
value_of AND = ◌&&◌
value_of OR = ◌||◌
value_of register = λ a. a

unfoldable pub value_rule : Assignment → List Bool → Cell → Bool
value_rule x done (input s) = exclusive_or s x
value_rule x done (gate kind ops) = from_operands (operand_count kind) (value_of kind) (λ a. get_or done a false) ops

-- the settled values of all nodes under an assignment
unfoldable pub values : Netlist → Assignment → List Bool
values n x = table (value_rule x) [] n.nodes

-- an input or a register (kinds 2 and 7)
unfoldable pub is_point : Cell → Bool
is_point cell = eqb (kind_of cell) 2 || eqb (kind_of cell) 7

-- all points of these nodes, each listed once
unfoldable pub joined : (points_of : ℕ → List ℕ) → (nodes : List ℕ) → List ℕ
joined points_of [] = []
joined points_of (a ∷ nodes) = union (points_of a) (joined points_of nodes)

-- The feeding points of an input or register are itself; of a gate, all those of its operands.
-- (The glitch-extended probe.)
unfoldable pub feeding_rule : List (List ℕ) → Cell → List ℕ
feeding_rule done cell = cond (is_point cell) (length done ∷ []) (joined (λ a. get_or done a []) (operands cell))

-- the feeding points of all nodes, and of node i
unfoldable pub feedings : Netlist → List (List ℕ)
feedings n = table feeding_rule [] n.nodes

unfoldable pub feeding : Netlist → ℕ → List ℕ
feeding n i = get_or (feedings n) i []

-- ---- settings

-- whether two classes are the same
unfoldable pub same : Class → Class → Bool
unfolding class_byte
same one other = eqb (class_byte one) (class_byte other)

-- how many variables of a class there are
unfoldable pub how_many : Class → List Class → ℕ
how_many class variables = count (same class) variables

-- A setting of a class gives each variable of that class 0 or 1, in their order. With k of them there
-- are 2 to the power k settings.
unfoldable pub settings : (k : ℕ) → List (List Bool)
settings zero = [] ∷ []
settings (suc k) = map (λ (s : List Bool). false ∷ s) (settings k) ++ map (λ (s : List Bool). true ∷ s) (settings k)

-- the first entry of a setting, and the others (a setting that is too short goes on with 0)
unfoldable pub next : List Bool → Bool
next [] = false
next (b ∷ bs) = b

unfoldable pub others : List Bool → List Bool
others [] = []
others (b ∷ bs) = bs

-- a setting of the secrets, one of the masks and one of the publics make an assignment
unfoldable pub make : List Class → (secrets masks publics : List Bool) → Assignment
make [] s m p = []
make (secret ∷ variables) s m p = next s ∷ make variables (others s) m p
make (mask ∷ variables) s m p = next m ∷ make variables s (others m) p
make (public ∷ variables) s m p = next p ∷ make variables s m (others p)

-- ---- patterns

-- A pattern gives each of some points 0 or 1: here it is a function of the node number, and only its values
-- at those points are looked at.
abbrev pub Pattern : Type 0
Pattern = ℕ → Bool

-- every point has the settled value that the pattern gives it
unfoldable pub matches : List Bool → List ℕ → Pattern → Bool
matches settled [] pattern = true
matches settled (i ∷ points) pattern = beq (get_or settled i false) (pattern i) && matches settled points pattern

-- the number of mask settings that give the pattern on these points, beside fixed publics and secrets
unfoldable pub giving : Netlist → (points : List ℕ) → Pattern → (publics secrets : List Bool) → ℕ
giving n points pattern p s =
    count (λ (m : List Bool). matches (values n (make n.variables s m p)) points pattern)
    (settings (how_many mask n.variables))

-- The counts agree on a set of points: for every setting of the publics, any two settings of the secrets
-- and every pattern on the points, the number of mask settings that give the pattern is the same for
-- both settings of the secrets.
unfoldable pub CountsAgree : Netlist → (points : List ℕ) → Type 0
CountsAgree n points =
    (publics secrets secrets' : List Bool) (pattern : Pattern)
    → giving n points pattern publics secrets ≡ giving n points pattern publics secrets'
