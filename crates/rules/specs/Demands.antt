-- The customer's demand 3 as statements about netlist bytes, and what the last line of their listing reads.
-- `Probe`, `Halves` and `ClearLine` of `rule_laws` prove them. Assumes nothing.
use Rattle.std.specs.Prelude.{ℕ, ◌<◌, ◌≡◌, not, List, [], ◌∷◌, ◌++◌, T, length, get_or}
use Rattle.rules.specs.Lists.{member}
use Rattle.rules.specs.Records.{input, Netlist}
use Rattle.rules.specs.Values.{feeding, CountsAgree}
use Rattle.rules.specs.Families.{families_at, suspect, tested, clear, Findings}
use Rattle.rules.specs.Checks.{Outcome, answered, refused, read, admitted}
use Rattle.rules.specs.Listing.{word, line, listing}

-- the checker answers clear for glitching signals: the glitch half of the answer that it returns is clear
unfoldable pub GlitchClear : Outcome Findings → Type 0
GlitchClear (answered answer) = answer.glitch ≡ clear
GlitchClear (refused k p) = ⊥

-- node i is there, and is tested
pub record TestedNode (n : Netlist) (i : ℕ) : Type 0 where
  pub there : i < length n.nodes
  pub is_tested : T (tested (get_or n.nodes i (input 0)))

-- no tested node's glitch family holds a suspect set
unfoldable pub NoSuspect : Netlist → Type 0
NoSuspect n =
    (i : ℕ) → TestedNode n i → (A : ℕ) → T (member A (families_at n i).glitch) → T (not (suspect n.variables A))

-- the checker refuses nothing, and the glitch families hold no suspect set at a tested node
pub record NothingSuspect (bytes : List ℕ) (entries work : ℕ) : Type 0 where
  pub netlist : Netlist
  pub admits : admitted bytes entries work ≡ answered netlist
  pub no_suspect : NoSuspect netlist

-- One probe on any gate or register: in the netlist that the bytes are, the counts agree on the feeding
-- points of every tested node.
unfoldable pub OneProbe : List ℕ → Type 0
OneProbe bytes = (n : Netlist) → read bytes ≡ answered n → (i : ℕ) → TestedNode n i → CountsAgree n (feeding n i)

-- the last line of the listing reads `glitch clear`: it stands behind a line feed, and nothing follows it
pub record EndsClear (bytes : List ℕ) : Type 0 where
  pub before : List ℕ
  pub ends : listing bytes ≡ before ++ (10 ∷ line (word "glitch" ∷ word "clear" ∷ []))
