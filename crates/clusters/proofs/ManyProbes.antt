-- Many probes round one gate: where the gate's glitch family holds no suspect set, the counts agree on its feeding
-- points; so on those of a cluster round it, which are all among them, and on the cluster's nodes, which no other point
-- feeds. And so round every gate of a block that the checker answers clear for glitching signals. Assumes nothing.
use Rattle.std.specs.Prelude.{Result}
use Rattle.rules.specs.declared.Refusal.{Refusal}
use Rattle.rules.specs.declared.Answer.{Answer}
use Prim.Native.Nat.{ℕ}
use mathlib.Core.Path.{◌≡◌, subst}
use mathlib.Core.List.{List, [], ◌∷◌}
use lib.Dec.{T}
use Rattle.rules.specs.Lists.{member}
use Rattle.rules.specs.Records.{Netlist, most_nodes}
use Rattle.rules.specs.Values.{feeding}
use Rattle.rules.specs.Checks.{answered, read, most_work}
use Rattle.rules.specs.Slices.{reply}
use Rattle.rules.specs.Paper.{reply_of}
use Rattle.rules.specs.Demands.{GlitchClear, NoSuspect, TestedNode, OneProbe, EndsClear}
use Rattle.rule_laws.proofs.Lists.{member_head}
use Rattle.rule_laws.proofs.Members.{All, all_single}
use Rattle.rule_laws.proofs.Feeding.{joined_fed, joined_of}
use Rattle.rule_laws.proofs.Points.{agree_among}
use Rattle.rule_laws.proofs.Probe.{node_agrees, none_suspect}
use Rattle.rule_laws.proofs.ClearLine.{clear_line_lem}
use Rattle.clusters.specs.Clusters.{feeding_of, Round, ClearGate, ProbesRound, ManyProbes, ManyProbesEverywhere, WiresRound, ManyWires, ManyWiresEverywhere}
use Rattle.clusters.proofs.Following.{agree_fed}

-- ---- what feeds a cluster

module _ (n : Netlist) where
  -- what feeds a node of the cluster feeds the cluster
  pub node_feeds : (cluster : List ℕ) (i : ℕ) → T (member i cluster) → All (λ p. T (member p (feeding_of n cluster))) (feeding n i)
  unfolding feeding_of
  node_feeds cluster i m p t = joined_fed (feeding n) p cluster (i, m, t)

  -- and what feeds a cluster round a gate feeds the gate
  pub round_feeds : (gate : ℕ) (cluster : List ℕ) → Round n gate cluster → All (λ p. T (member p (feeding n gate))) (feeding_of n cluster)
  unfolding feeding_of Round
  round_feeds gate cluster round p t = let (i, m, u) = joined_of (feeding n) p cluster t in round i m p u

-- ---- one gate

-- Round a gate that is clear for glitches any number of probes learn nothing of the secrets.
pub many_probes : (bytes : List ℕ) → ManyProbes bytes
unfolding ManyProbes ProbesRound ClearGate
many_probes bytes n is_read gate clear cluster round =
    agree_among n (feeding n gate) (feeding_of n cluster) (round_feeds n gate cluster round) (node_agrees n gate clear)

-- Nor do the settled values of the probed nodes themselves: these follow from those of what feeds them.
pub many_wires : (bytes : List ℕ) → ManyWires bytes
unfolding ManyWires WiresRound ManyProbes ProbesRound
many_wires bytes n is_read gate clear cluster round =
    agree_fed n (feeding_of n cluster) cluster (node_feeds n cluster) (many_probes bytes n is_read gate clear cluster round)

-- ---- every gate of an accepted block

module _ (bytes : List ℕ) (entries work : ℕ) (answers-clear : GlitchClear (reply bytes entries work)) where
  -- every tested node is clear
  each_clear : (n : Netlist) → read bytes ≡ answered n → (gate : ℕ) → TestedNode n gate → ClearGate n gate
  unfolding ClearGate NoSuspect
  each_clear = none_suspect bytes entries work answers-clear

  -- Whenever the checker answers clear for glitching signals, that holds round every gate and register.
  pub clear_probes : ManyProbesEverywhere bytes
  unfolding ManyProbesEverywhere ManyProbes
  clear_probes n is_read gate node = many_probes bytes n is_read gate (each_clear n is_read gate node)

  pub clear_wires : ManyWiresEverywhere bytes
  unfolding ManyWiresEverywhere ManyWires
  clear_wires n is_read gate node = many_wires bytes n is_read gate (each_clear n is_read gate node)

  clear_both : ManyProbesEverywhere bytes × ManyWiresEverywhere bytes
  clear_both = (clear_probes, clear_wires)

-- So of a reply that is the rules' reply, as clause `reply` of the contract of `check` has it:
-- where its glitch half is clear, both hold.
pub checked_clear : (bytes : List ℕ) (entries work : ℕ) (r : Result Answer Refusal) → reply_of r ≡ reply bytes entries work → GlitchClear (reply_of r)
    → ManyProbesEverywhere bytes × ManyWiresEverywhere bytes
checked_clear bytes entries work r replied answers-clear = clear_both bytes entries work (subst GlitchClear replied answers-clear)

-- And of the listing: where its last line reads `glitch clear`, both hold.
pub clear_line_clusters : (bytes : List ℕ) → EndsClear bytes → ManyProbesEverywhere bytes × ManyWiresEverywhere bytes
clear_line_clusters bytes ends = clear_both bytes most_nodes most_work ((clear_line_lem bytes).0 ends)

-- The cluster of a gate alone is one probe: what is said of many says demand 3 again.
pub alone : (bytes : List ℕ) → ManyProbesEverywhere bytes → OneProbe bytes
unfolding ManyProbesEverywhere ProbesRound OneProbe Round
alone bytes everywhere n is_read i node =
    agree_among n (feeding_of n (i ∷ [])) (feeding n i) (node_feeds n (i ∷ []) i (member_head i []))
    (everywhere n is_read i node (i ∷ []) (all_single (λ k. (p : ℕ) → T (member p (feeding n k)) → T (member p (feeding n i))) i (λ p t. t)))
