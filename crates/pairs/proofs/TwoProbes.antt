-- Two probes: where no tested node is suspect and no pair of them is, the counts of mask settings agree on the
-- feeding points of any two tested nodes together. The patterns there are held by the empty set, both glitch families
-- and their product (`holds_both`), of which no set is suspect. And the checker answers no pair exactly then,
-- if the limit reaches. Assumes nothing.
use Prim.Native.Nat.{ℕ, ◌≤◌, ◌<◌}
use mathlib.Core.Path.{◌≡◌, refl, sym, ap, subst, fun_ext}
use mathlib.Core.Logic.{◌↔◌, ⊎_elim}
use mathlib.Core.Bool.{false, not, ◌&&◌}
use mathlib.Core.List.{List, [], ◌∷◌}
use native.Mathlib.Omega.{arith}
use lib.Dec.{T}
use lib.ListN.{length}
use Rattle.rules.specs.Lists.{member, union}
use Rattle.rules.specs.Records.{Class, secret, mask, Netlist}
use Rattle.rules.specs.Values.{values, feeding, matches, CountsAgree}
use Rattle.rules.specs.Families.{Family, product, spread, families_at, holds, suspect, findings}
use Rattle.rules.specs.Slices.{reply}
use Rattle.rules.specs.Checks.{Outcome, answered, refused, and_then, admitted}
use Rattle.rules.specs.Demands.{TestedNode, NoSuspect}
use Rattle.rule_laws.proofs.Tests.{pass, lt_or_le}
use Rattle.rule_laws.proofs.Lists.{insert_cases, union_left, union_right, union_cases}
use Rattle.rule_laws.proofs.Members.{all_union}
use Rattle.rule_laws.proofs.Room.{admitted_says}
use Rattle.rule_laws.proofs.Halves.{half_clear, reported_none, reported_clear}
use Rattle.rule_laws.proofs.Spans.{Holds, holds_both}
use Rattle.rule_laws.proofs.Points.{matches_union, agree_among}
use Rattle.rule_laws.proofs.Probe.{each_node, HoldsPatterns, counts_agree, node_agrees}
use Rattle.pair_search.specs.Pairs.{pairs, pair_family, pair_report, no_pair, Searched, searched, pair_findings, pairs_reply, one_probe_reply, NoPair, NoSuspectPair, NothingSuspectInPairs, TwoProbes}
use Rattle.pairs.proofs.Order.{lists_tested, lists_all}
use Rattle.pairs.proofs.Findings.{Means, search_exactly}

-- ---- sets that are not suspect

empty_holds : (class : Class) (variables : List Class) → holds class variables 0 ≡ false
unfolding holds
empty_holds class [] = refl
empty_holds class (c ∷ variables) = empty_holds class variables

-- the empty set, and so all sets that a gate of two such nodes would have
empty_clean : (variables : List Class) → T (not (suspect variables 0))
unfolding suspect
empty_clean variables = pass {b = not (holds secret variables 0 && not (holds mask variables 0))} (rw (empty_holds secret variables))

spread_clean : (variables : List Class) (F G : Family) → ((A : ℕ) → T (member A F) → T (not (suspect variables A)))
    → ((A : ℕ) → T (member A G) → T (not (suspect variables A))) → ((A : ℕ) → T (member A (product F G)) → T (not (suspect variables A)))
    → (A : ℕ) → T (member A (spread F G)) → T (not (suspect variables A))
unfolding spread
spread_clean variables F G f g both A m =
    ⊎_elim (λ e. subst (λ (B : ℕ). T (not (suspect variables B))) (sym e) (empty_clean variables))
    (λ u. ⊎_elim (f A) (λ v. ⊎_elim (g A) (both A) (union_cases A G (product F G) v)) (union_cases A F (union G (product F G)) u))
    (insert_cases A 0 (union F (union G (product F G))) m)

-- ---- the counts on the points of two nodes

module _ (n : Netlist) where
  -- the patterns of two nodes together
  both_hold : (i j : ℕ) → HoldsPatterns n (union (feeding n i) (feeding n j)) (spread (families_at n i).glitch (families_at n j).glitch)
  both_hold i j K L z =
      subst (Holds K L (spread (families_at n i).glitch (families_at n j).glitch))
      (fun_ext (λ x. sym (matches_union (values n x) (feeding n i) (feeding n j) z)))
      (holds_both K L (families_at n i).glitch (families_at n j).glitch (λ x. matches (values n x) (feeding n i) z)
      (λ x. matches (values n x) (feeding n j) z) (each_node K L n i z) (each_node K L n j z))

  pub two_nodes : NoSuspect n → NoSuspectPair n → (i j : ℕ) → TestedNode n i → TestedNode n j → CountsAgree n (union (feeding n i) (feeding n j))
  unfolding NoSuspect NoSuspectPair pair_family
  two_nodes singles both i j t u =
      ⊎_elim (below i j t u)
      (λ h. ⊎_elim (λ l. swapped (below j i u t l)) (λ l. let same : i ≡ j = omega arith in rw (← same) (once i t)) (lt_or_le j i))
      (lt_or_le i j)
    where
      below : (i j : ℕ) → TestedNode n i → TestedNode n j → i < j → CountsAgree n (union (feeding n i) (feeding n j))
      below i j t u h =
          counts_agree n _ _ (both_hold i j)
          (spread_clean n.variables (families_at n i).glitch (families_at n j).glitch (singles i t) (singles j u) (both i j t u h))

      -- in the other order the points are the same
      swapped : CountsAgree n (union (feeding n j) (feeding n i)) → CountsAgree n (union (feeding n i) (feeding n j))
      swapped =
          agree_among n (union (feeding n j) (feeding n i)) (union (feeding n i) (feeding n j))
          (all_union (λ p. T (member p (union (feeding n j) (feeding n i)))) (feeding n i) (feeding n j)
          (λ p. union_right p (feeding n j) (feeding n i)) (λ p. union_left p (feeding n j) (feeding n i)))

      -- and those of one node twice are its own
      once : (i : ℕ) → TestedNode n i → CountsAgree n (union (feeding n i) (feeding n i))
      once i t =
          agree_among n (feeding n i) (union (feeding n i) (feeding n i))
          (all_union (λ p. T (member p (feeding n i))) (feeding n i) (feeding n i) (λ p m. m) (λ p m. m))
          (node_agrees n i (singles i t))

-- ---- no pair

-- no pair is found exactly when no tested node is suspect, no pair of them is, and the limit reaches
pub no_pair_found : (n : Netlist) (limit : ℕ) → ((searched n limit).found ≡ no_pair) ↔ (NoSuspect n × NoSuspectPair n × (length (pairs n) ≤ limit))
unfolding NoSuspect NoSuspectPair pair_report
no_pair_found n limit = (forth, back)
  where
    forth : (searched n limit).found ≡ no_pair → NoSuspect n × NoSuspectPair n × (length (pairs n) ≤ limit)
    forth e =
        let s : Searched = searched n limit in
        let (singles, all, within, none_suspect) = subst (λ f. Means n limit f s.looked) e ((search_exactly n limit s).0 refl) in (
          (half_clear (λ F. F.glitch) n).0 singles,
          λ i j t u h. let (k, at) = lists_all n i j t u h in reported_none n.variables (pair_family n record { i = i; j = j }) (none_suspect k _ tt at),
          omega arith,
        )

    back : NoSuspect n × NoSuspectPair n × (length (pairs n) ≤ limit) → (searched n limit).found ≡ no_pair
    back (singles, both, within) =
        ap (λ (s : Searched). s.found)
        ((search_exactly n limit record { found = no_pair; looked = length (pairs n) }).1 (
          (half_clear (λ F. F.glitch) n).1 singles,
          refl,
          within,
          λ k p t at. let (first, second, below) = lists_tested n k p at in reported_clear n.variables (pair_family n p) (both p.i p.j first second below),
        ))

module _ (bytes : List ℕ) (entries work limit : ℕ) where
  -- the reply's answer of one probe is the checker's reply
  pub one_probe_reply_lem : one_probe_reply (pairs_reply bytes entries work limit) ≡ reply bytes entries work
  unfolding one_probe_reply pairs_reply reply and_then pair_findings
  one_probe_reply_lem = go (admitted bytes entries work)
    where
      go : (o : Outcome Netlist)
          → and_then (and_then o (λ n. answered (pair_findings n limit))) (λ f. answered f.answer) ≡ and_then o (λ n. answered (findings n))
      go (answered n) = refl
      go (refused k p) = refl

  -- the checker answers no pair exactly when it refuses nothing, no tested node is suspect and no pair
  -- of them is, and the limit reaches
  pub no_pair_exactly : NoPair (pairs_reply bytes entries work limit) ↔ NothingSuspectInPairs bytes entries work limit
  unfolding pairs_reply and_then NoPair pair_findings
  no_pair_exactly =
      (go (admitted bytes entries work) refl, λ s. rw s.admits ((no_pair_found s.netlist limit).1 (s.no_suspect, s.no_suspect_pair, s.reaches)))
    where
      go : (o : Outcome Netlist) → admitted bytes entries work ≡ o → NoPair (and_then o (λ n. answered (pair_findings n limit)))
          → NothingSuspectInPairs bytes entries work limit
      go (answered n) e found =
          let (singles, both, within) = (no_pair_found n limit).0 found in
          record { netlist = n; admits = e; no_suspect = singles; no_suspect_pair = both; reaches = within }
      go (refused k p) e found = absurd found

  -- Whenever the checker answers no pair, two probes on any two tested nodes learn nothing of the secrets.
  pub two_probes : NoPair (pairs_reply bytes entries work limit) → TwoProbes bytes
  unfolding TwoProbes
  two_probes found n is_read =
      let nothing = no_pair_exactly.0 found in
      let same : nothing.netlist ≡ n = let e = (admitted_says bytes entries work nothing.netlist nothing.admits).is_read in cc in
      two_nodes n (subst NoSuspect same nothing.no_suspect) (subst NoSuspectPair same nothing.no_suspect_pair)
