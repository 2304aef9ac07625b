-- Change request A1, "Two probes": the pairs of tested nodes, the search over them under a limit, the reply that has
-- both the answer of one probe and what the search found, and what no pair means for the counts of mask settings.
-- Assumes nothing.
use Rattle.std.specs.Prelude.{ℕ, zero, suc, ◌≤◌, ◌<◌, ◌≡◌, Bool, not, cond, List, [], ◌∷◌, ◌++◌, map, T, ltb, length, get_or}
use Rattle.std.proofs.Math.Option.{Option, none, some}
use Rattle.rules.specs.Lists.{member, union}
use Rattle.rules.specs.Records.{input, Netlist}
use Rattle.rules.specs.Values.{feeding, CountsAgree}
use Rattle.rules.specs.Families.{Family, product, families_at, suspect, tested, reported}
use Rattle.rules.specs.Families.{Finding, clear, suspect_at, half, Findings, findings}
use Rattle.rules.specs.Checks.{Outcome, answered, refused, and_then, read, admitted}
use Rattle.rules.specs.Demands.{TestedNode, NoSuspect}

-- ---- the pairs, in their order

-- two nodes, i below j
pub record Pair : Type 0 where
  pub i : ℕ
  pub j : ℕ

-- whether node i is tested
unfoldable pub is_tested : Netlist → (i : ℕ) → Bool
is_tested n i = tested (get_or n.nodes i (input 0))

-- the tested nodes below k, from the lowest on
unfoldable pub tested_below : Netlist → (k : ℕ) → List ℕ
tested_below n zero = []
tested_below n (suc k) = tested_below n k ++ cond (is_tested n k) (k ∷ []) []

-- the pairs of node j, if it is tested, with the tested nodes i below a bound
unfoldable pub row : Netlist → (j bound : ℕ) → List Pair
row n j bound = cond (is_tested n j) (map (λ i. record { i = i; j = j }) (tested_below n bound)) []

-- the pairs of nodes below k, ordered by j and then i
unfoldable pub pairs_below : Netlist → (k : ℕ) → List Pair
pairs_below n zero = []
pairs_below n (suc j) = pairs_below n j ++ row n j j

-- the pairs of tested nodes i below j, ordered by j and then i
unfoldable pub pairs : Netlist → List Pair
pairs n = pairs_below n (length n.nodes)

-- the pair at a position, counted from 1
unfoldable pub at_position : List Pair → (position : ℕ) → Option Pair
at_position [] k = none
at_position (p ∷ ps) zero = none
at_position (p ∷ ps) (suc zero) = some p
at_position (p ∷ ps) (suc (suc k)) = at_position ps (suc k)

-- ---- suspect pairs

-- the product of the two glitch families
unfoldable pub pair_family : Netlist → Pair → Family
pair_family n p = product (families_at n p.i).glitch (families_at n p.j).glitch

-- the set of a pair, if it is suspect: the one that the rules report of that product
unfoldable pub pair_report : Netlist → Pair → Option ℕ
pair_report n p = reported n.variables (pair_family n p)

-- ---- the search under a limit

-- What is found: a node that is suspect by itself; no pair; the first suspect pair, with its set;
-- or that the limit is spent.
pub data PairFinding : Type 0 where
  single : (node set : ℕ) → PairFinding
  no_pair : PairFinding
  pair_at : (i j set : ℕ) → PairFinding
  spent : PairFinding

-- what is found, and how many pairs were looked at
pub record Searched : Type 0 where
  pub found : PairFinding
  pub looked : ℕ

-- once a pair was looked at: it is found if it reports a set, and else the search goes on
unfoldable pub onward : Pair → Option ℕ → (looked : ℕ) → Searched → Searched
onward p (some A) looked rest = record { found = pair_at p.i p.j A; looked = looked }
onward p none looked rest = rest

-- The search over some pairs, of which each reports a set or none, after so many that were looked at and were clear.
-- With no pair left it is no pair; with one left, and as many looked at as the limit allows, the limit is spent.
unfoldable pub search_from : (Pair → Option ℕ) → (limit looked : ℕ) → List Pair → Searched
search_from report limit looked [] = record { found = no_pair; looked = looked }
search_from report limit looked (p ∷ ps) =
    cond (ltb looked limit) (onward p (report p) (suc looked) (search_from report limit (suc looked) ps))
    record { found = spent; looked = looked }

-- a single suspect comes back as it is, and no pair is looked at
unfoldable pub unless_single : Finding → Searched → Searched
unless_single (suspect_at node set) rest = record { found = single node set; looked = 0 }
unless_single clear rest = rest

-- the search over the pairs of a netlist
unfoldable pub searched : Netlist → (limit : ℕ) → Searched
searched n limit = unless_single (half (λ F. F.glitch) n) (search_from (pair_report n) limit 0 (pairs n))

-- ---- the reply

-- the answer of one probe, beside what the search over the pairs found
pub record PairFindings : Type 0 where
  pub answer : Findings
  pub searched : Searched

unfoldable pub pair_findings : Netlist → (limit : ℕ) → PairFindings
pair_findings n limit = record { answer = findings n; searched = searched n limit }

-- the reply, for slices of so many entries and so many work bytes
unfoldable pub pairs_reply : List ℕ → (entries work limit : ℕ) → Outcome PairFindings
pairs_reply bytes entries work limit = and_then (admitted bytes entries work) (λ n. answered (pair_findings n limit))

-- the answer of one probe in it
unfoldable pub one_probe_reply : Outcome PairFindings → Outcome Findings
one_probe_reply outcome = and_then outcome (λ f. answered f.answer)

-- ---- what no pair means

-- the checker answers no pair
unfoldable pub NoPair : Outcome PairFindings → Type 0
NoPair (answered f) = f.searched.found ≡ no_pair
NoPair (refused k p) = ⊥

-- no pair of tested nodes is suspect: the product of the two glitch families holds no suspect set
unfoldable pub NoSuspectPair : Netlist → Type 0
NoSuspectPair n = (i j : ℕ) → TestedNode n i → TestedNode n j → i < j
    → (A : ℕ) → T (member A (pair_family n record { i = i; j = j })) → T (not (suspect n.variables A))

-- the checker refuses nothing, no tested node is suspect and no pair of them is, and the limit reaches to the last pair
pub record NothingSuspectInPairs (bytes : List ℕ) (entries work limit : ℕ) : Type 0 where
  pub netlist : Netlist
  pub admits : admitted bytes entries work ≡ answered netlist
  pub no_suspect : NoSuspect netlist
  pub no_suspect_pair : NoSuspectPair netlist
  pub reaches : length (pairs netlist) ≤ limit

-- Two probes on any two tested nodes, or both on one: in the netlist that the bytes are, the counts agree
-- on the feeding points of both.
unfoldable pub TwoProbes : List ℕ → Type 0
TwoProbes bytes = (n : Netlist) → read bytes ≡ answered n
    → (i j : ℕ) → TestedNode n i → TestedNode n j → CountsAgree n (union (feeding n i) (feeding n j))
