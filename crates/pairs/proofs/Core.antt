-- The ways through the core: where `examine` refuses so does `examine_pairs`, and else the search over the work bytes
-- is that over the pairs of the netlist; from that follow the promises of `examine_pairs`. Assumes nothing.
use Rattle.std.specs.Prelude.{Result, Ok, Err}
use Rattle.rules.specs.declared.Refusal.{Refusal}
use Prim.Native.Nat.{ℕ}
use mathlib.Core.Path.{◌≡◌, refl, sym, ap, ap₂, subst, ◌∙◌}
use mathlib.Core.Logic.{◌↔◌}
use mathlib.Core.List.{List}
use native.Mathlib.Omega.{arith}
use lib.ListN.{length, drop}
use Rattle.rules.specs.Records.{Netlist, empty, WellFormed}
use Rattle.rules.specs.Families.{families, half, Findings, findings}
use Rattle.rules.specs.Slices.{work_bytes, filled, work_after, reply}
use Rattle.rules.specs.Checks.{Outcome, answered, refused, and_then, admitted}
use Rattle.rules.specs.Demands.{GlitchClear, NothingSuspect, OneProbe}
use Rattle.rules.specs.Paper.{findings_of}
use Rattle.rules.specs.declared.Answer.{Answer}
use Rattle.rule_laws.proofs.Reading.{read_well_formed}
use Rattle.rule_laws.proofs.Room.{admitted_says}
use Rattle.rule_laws.proofs.Exit.{work_after_length}
use Rattle.rule_laws.proofs.Halves.{exactly_when}
use Rattle.rule_laws.proofs.Probe.{one_probe}
use Rattle.netlists.specs.declared.Netlist as Value
use Rattle.netlists.specs.Netlists.{flat_of, Ready, kept}
use Rattle.netlists.proofs.Netlists.{value_count}
use Rattle.marks.specs.Marks.{marks_of}
use Rattle.checker.specs.Work.{replied, kept_netlist, kept_marks}
use Rattle.pair_search.specs.declared.Search.{Search}
use Rattle.pair_search.specs.Pairs.{pairs, search_from, unless_single, searched, PairFindings, pair_findings, pairs_reply, one_probe_reply, NoPair, NothingSuspectInPairs, TwoProbes}
use Rattle.pair_search.specs.Meaning.{searched_of}
use Rattle.pair_search.specs.Work.{report_in}
use Rattle.pairs.proofs.Findings.{search_there}
use Rattle.pairs.specs.Meaning.{pairs_reply_of, pairs_replied, examined_in}
use Rattle.pairs.specs.declared.ExaminedPairs.{ExaminedPairs}
use Rattle.pairs.proofs.TwoProbes.{one_probe_reply_lem, no_pair_exactly, two_probes}

-- the empty netlist obeys the record rules
empty_obeys : WellFormed empty
empty_obeys = record {
  few_variables = omega arith;
  few_nodes = omega arith;
  lower = λ i h. absurd (omega arith);
  declared = λ i h. absurd (omega arith);
}

module _ (bytes : List ℕ) (entries : ℕ) where
  -- an answer of the checker is that of a netlist
  pub record Answers (work : ℕ) (f : Findings) : Type 0 where
    pub netlist : Netlist
    pub admits : admitted bytes entries work ≡ answered netlist
    pub says : f ≡ findings netlist

  pub of_answered : (work : ℕ) (f : Findings) → answered f ≡ reply bytes entries work → Answers work f
  unfolding reply and_then
  of_answered work f = go (admitted bytes entries work) refl
    where
      go : (o : Outcome Netlist) → admitted bytes entries work ≡ o → answered f ≡ and_then o (λ n. answered (findings n)) → Answers work f
      go (answered n) e same = record { netlist = n; admits = e; says = cc }
      go (refused l q) e same = absurd cc

  module _ (before : List ℕ) {value : Value.Netlist} (kept-is : value ≡ flat_of (kept (admitted bytes entries (length before)))) where
    -- whose value is what `examine` kept
    pub value_is : {n : Netlist} → admitted bytes entries (length before) ≡ answered n → value ≡ flat_of n
    unfolding kept
    value_is admits = rw admits at kept-is

    -- what it kept is ready for the search, on a refusal too
    pub ready : {after : List ℕ} → after ≡ work_after bytes entries before → Ready value (length after)
    unfolding kept
    ready {after} w = go (admitted bytes entries (length before)) refl
      where
        go : (o : Outcome Netlist) → admitted bytes entries (length before) ≡ o → Ready value (length after)
        go (answered n) e =
            let says = admitted_says bytes entries (length before) n e in
            let long = ap length w ∙ work_after_length bytes entries before in
            record {
              formed = record { netlist = n; is = value_is e; obeys = read_well_formed bytes n says.is_read };
              room = omega (arith, value_count n (value_is e), says.room.enough_work);
            }
        go (refused k p) e =
            let is : value ≡ flat_of empty = rw e at kept-is in
            record { formed = record { netlist = empty; is = is; obeys = empty_obeys }; room = omega (arith, value_count empty is) }

module _ (bytes : List ℕ) (entries limit : ℕ) where
  -- a refusal of the checker is one of the reply with pairs
  pub of_refused : (work k p : ℕ) → refused k p ≡ reply bytes entries work → refused k p ≡ pairs_reply bytes entries work limit
  unfolding reply pairs_reply and_then
  of_refused work k p = go (admitted bytes entries work)
    where
      go : (o : Outcome Netlist) → refused k p ≡ and_then o (λ n. answered (findings n)) → refused k p ≡ and_then o (λ n. answered (pair_findings n limit))
      go (answered n) e = absurd cc
      go (refused l q) e = let number : k ≡ l = cc in let place : p ≡ q = cc in rw (number, place)

  -- the search over the work bytes that the checker leaves, and so the whole reply
  pub searches : (answer : Answer) (looked : Search) (before : List ℕ) {after : List ℕ} (a : Answers bytes entries (length before) (findings_of answer))
      → after ≡ work_after bytes entries before
      → searched_of looked ≡ unless_single (half (λ F. F.glitch) a.netlist) (search_from (report_in a.netlist.variables after) limit 0 (pairs a.netlist))
      → pairs_reply_of (Ok (record { answer = answer; search = looked })) ≡ pairs_reply bytes entries (length before) limit
  unfolding pairs_reply and_then pair_findings searched findings work_after filled
  searches answer looked before a w found =
      let n = a.netlist in
      let says = admitted_says bytes entries (length before) n a.admits in
      let there = search_there n (read_well_formed bytes n says.is_read) (drop (length (work_bytes (families n))) before) limit in
      let held = ap (λ (after : List ℕ). search_from (report_in n.variables after) limit 0 (pairs n)) (rw a.admits at w) ∙ there in
      rw a.admits
      (ap₂ {C = Outcome PairFindings} (λ f s. answered (record { answer = f; searched = s })) a.says (found ∙ ap (unless_single (half (λ F. F.glitch) n)) held))

  -- the reply of one probe beside it
  pub one_probe_replied : (work : ℕ) (r : Result ExaminedPairs Refusal)
      → pairs_replied r ≡ pairs_reply bytes entries work limit
      → replied (examined_in r) ≡ reply bytes entries work
  unfolding one_probe_reply and_then
  one_probe_replied work (Ok e) is = ap one_probe_reply is ∙ one_probe_reply_lem bytes entries work limit
  one_probe_replied work (Err e) is = ap one_probe_reply is ∙ one_probe_reply_lem bytes entries work limit

  -- the promises of `examine_pairs`
  pub record Promises (r : Result ExaminedPairs Refusal) (before after : List ℕ) : Type 0 where
    pub reply : pairs_replied r ≡ pairs_reply bytes entries (length before) limit
    pub netlist : kept_netlist (examined_in r) ≡ flat_of (kept (admitted bytes entries (length before)))
    pub marks : kept_marks (examined_in r) ≡ marks_of (kept (admitted bytes entries (length before)))
    pub work : after ≡ work_after bytes entries before
    pub clear : GlitchClear (one_probe_reply (pairs_replied r)) ↔ NothingSuspect bytes entries (length before)
    pub probe : GlitchClear (one_probe_reply (pairs_replied r)) → OneProbe bytes
    pub pairs : NoPair (pairs_replied r) ↔ NothingSuspectInPairs bytes entries (length before) limit
    pub probes : NoPair (pairs_replied r) → TwoProbes bytes

  pub promises : (r : Result ExaminedPairs Refusal) (before after : List ℕ)
      → pairs_replied r ≡ pairs_reply bytes entries (length before) limit
      → kept_netlist (examined_in r) ≡ flat_of (kept (admitted bytes entries (length before)))
      → kept_marks (examined_in r) ≡ marks_of (kept (admitted bytes entries (length before)))
      → after ≡ work_after bytes entries before → Promises r before after
  promises r before after is is_value is-marked is_work =
      let checked = ap one_probe_reply is ∙ one_probe_reply_lem bytes entries (length before) limit in
      record {
        reply = is;
        netlist = is_value;
        marks = is-marked;
        work = is_work;
        clear =
            subst (λ o. GlitchClear o ↔ NothingSuspect bytes entries (length before)) (sym checked)
            (exactly_when bytes entries (length before));
        probe = subst (λ o. GlitchClear o → OneProbe bytes) (sym checked) (one_probe bytes entries (length before));
        pairs =
            subst (λ o. NoPair o ↔ NothingSuspectInPairs bytes entries (length before) limit) (sym is)
            (no_pair_exactly bytes entries (length before) limit);
        probes = subst (λ o. NoPair o → TwoProbes bytes) (sym is) (two_probes bytes entries (length before) limit);
      }
