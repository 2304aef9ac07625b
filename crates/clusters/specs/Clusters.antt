-- Change request A4, "Many probes round one gate", as statements about netlist bytes: what feeds a cluster of nodes,
-- when the cluster lies round a gate, and what the probes on it see. A gate is given by its number; nothing is
-- asked of its kind, so all of it is said of registers and inputs too. Last what follows of a gate by its own mark.
-- `proofs/ManyProbes` and `proofs/Unmarked` prove the statements. Assumes nothing.
use Rattle.std.specs.Prelude.{ℕ, ◌<◌, ◌≡◌, not, List, T, length, get_or}
use Rattle.std.proofs.Math.Option.{none}
use Rattle.rules.specs.declared.NodeRecord.{NodeRecord}
use Rattle.rules.specs.Lists.{member}
use Rattle.rules.specs.Records.{input, Netlist}
use Rattle.rules.specs.Values.{joined, feeding, CountsAgree}
use Rattle.rules.specs.Families.{families_at, suspect}
use Rattle.rules.specs.Checks.{answered, read}
use Rattle.rules.specs.Slices.{node_record}
use Rattle.rules.specs.Demands.{TestedNode}

-- the feeding points of a cluster, which is any list of nodes: those of all of them together, each listed once
unfoldable pub feeding_of : Netlist → (cluster : List ℕ) → List ℕ
feeding_of n cluster = joined (feeding n) cluster

-- the cluster lies round a gate: the feeding points of its nodes are all among the gate's
unfoldable pub Round : Netlist → (gate : ℕ) → (cluster : List ℕ) → Type 0
Round n gate cluster =
    (i : ℕ) → T (member i cluster) → (point : ℕ) → T (member point (feeding n i)) → T (member point (feeding n gate))

-- the gate is clear for glitches: its own glitch family holds no suspect set, whatever other nodes hold
unfoldable pub ClearGate : Netlist → (gate : ℕ) → Type 0
ClearGate n gate = (A : ℕ) → T (member A (families_at n gate).glitch) → T (not (suspect n.variables A))

-- ---- what feeds the probed nodes

-- on the feeding points of every cluster round a gate, the counts agree
unfoldable pub ProbesRound : Netlist → (gate : ℕ) → Type 0
ProbesRound n gate = (cluster : List ℕ) → Round n gate cluster → CountsAgree n (feeding_of n cluster)

-- Round a gate that is clear for glitches any number of probes, on nodes that nothing feeds but what feeds the gate,
-- together see each pattern as often for one setting of the secrets as for any other.
unfoldable pub ManyProbes : List ℕ → Type 0
ManyProbes bytes = (n : Netlist) → read bytes ≡ answered n → (gate : ℕ) → ClearGate n gate → ProbesRound n gate

-- and so they do round every gate and register of the block
unfoldable pub ManyProbesEverywhere : List ℕ → Type 0
ManyProbesEverywhere bytes =
    (n : Netlist) → read bytes ≡ answered n → (gate : ℕ) → TestedNode n gate → ProbesRound n gate

-- ---- the wires themselves

-- on the nodes of every cluster round a gate, the counts agree: a pattern there gives the settled values
-- of the probed nodes themselves
unfoldable pub WiresRound : Netlist → (gate : ℕ) → Type 0
WiresRound n gate = (cluster : List ℕ) → Round n gate cluster → CountsAgree n cluster

-- Round a gate that is clear for glitches the settled values of any number of nodes that nothing feeds but what feeds
-- the gate are together seen as often for one setting of the secrets as for any other.
unfoldable pub ManyWires : List ℕ → Type 0
ManyWires bytes = (n : Netlist) → read bytes ≡ answered n → (gate : ℕ) → ClearGate n gate → WiresRound n gate

-- and so they are round every gate and register of the block
unfoldable pub ManyWiresEverywhere : List ℕ → Type 0
ManyWiresEverywhere bytes = (n : Netlist) → read bytes ≡ answered n → (gate : ℕ) → TestedNode n gate → WiresRound n gate

-- ---- a gate that has no mark

-- the record of a node among these, and beyond them that of an input
abbrev pub record_of : List NodeRecord → (node : ℕ) → NodeRecord
record_of nodes i = get_or nodes i (node_record (input 0) none none)

-- one of so many nodes is a gate or register, of a kind above an input's, and its glitch mark among
-- these node records is none
pub record Unmarked (count : ℕ) (nodes : List NodeRecord) (gate : ℕ) : Type 0 where
  pub there : gate < count
  pub is_tested : 2 < (record_of nodes gate).node.kind
  pub no_mark : (record_of nodes gate).glitch ≡ 0

-- Every gate and register of the block that has no glitch mark among these node records is clear, whatever marks others
-- have; so what is said of many probes holds round it.
unfoldable pub RoundUnmarked : List ℕ → (nodes : List NodeRecord) → Type 0
RoundUnmarked bytes nodes =
    (n : Netlist) → read bytes ≡ answered n → (gate : ℕ) → Unmarked (length n.nodes) nodes gate
    → ClearGate n gate × ProbesRound n gate × WiresRound n gate
