-- A search that goes on node by node: it begins, goes a node further, and once it is done it is the search
-- over all pairs. Assumes nothing.
use Rattle.std.specs.Prelude.{Result, Ok}
use Rattle.rules.specs.declared.Refusal.{Refusal}
use Rattle.rules.specs.declared.Answer.{Answer}
use Prim.Native.Nat.{ℕ, ◌+◌, ◌-◌, ◌≤◌}
use mathlib.Core.Path.{◌≡◌, refl, sym, ap, ◌∙◌}
use mathlib.Core.Bool.{Bool, true, false, ◌||◌}
use mathlib.Core.Logic.{◌⊎◌, inl, inr, ⊎_elim}
use mathlib.Core.List.{List}
use native.Mathlib.Omega.{arith}
use borrow.Author.Tests.{leb-true, leb-false}
use lib.Dec.{leb}
use lib.ListN.{length}
use Rattle.rules.specs.Records.{Netlist}
use Rattle.rules.specs.Families.{half, Finding, clear, suspect_at, Findings, findings}
use Rattle.rules.specs.Slices.{work_after, reply}
use Rattle.rules.specs.Checks.{answered, and_then, admitted}
use Rattle.rules.specs.Paper.{reply_of, finding_of, findings_of}
use Rattle.netlists.specs.declared.Netlist as Value
use Rattle.netlists.specs.Netlists.{flat_of, kept}
use Rattle.netlists.proofs.Netlists.{value_count}
use Rattle.pair_search.specs.declared.Search.{Search}
use Rattle.pair_search.specs.Pairs.{row, pairs_below, pairs, no_pair, Searched, search_from, unless_single, pairs_reply}
use Rattle.pair_search.specs.Meaning.{searched_of}
use Rattle.pair_search.specs.Work.{report_in, over}
use Rattle.pair_search.proofs.Growing.{goes_on, stays_over, pairs_none, pairs_more}
use Rattle.pairs.specs.declared.Progress.{Progress}
use Rattle.pairs.specs.Underway.{is_done, Underway}
use Rattle.pairs.specs.Meaning.{pairs_reply_of}
use Rattle.pairs.proofs.Core.{value_is, ready, of_answered, searches}

-- both tests fail, or one holds
neither : (a b : Bool) → (a || b) ≡ false → (a ≡ false) × (b ≡ false)
neither true b e = absurd cc
neither false b e = (refl, e)

either : (a b : Bool) → (a || b) ≡ true → (a ≡ true) ⊎ (b ≡ true)
either true b e = inl refl
either false b e = inr e

-- a search that is not done has a node left, and found nothing that ends it
pub not_done : (progress : Progress) → is_done progress ≡ false → (progress.next + 1 ≤ progress.nodes) × (over (searched_of progress.search).found ≡ false)
not_done progress e =
    let (left, on) = neither (leb progress.nodes progress.next) (over (searched_of progress.search).found) e in
    (omega (arith, leb-false progress.nodes progress.next left), on)

-- what the half of an answer decides, the findings do that it says
pub by_findings : (answer : Answer) (looked : Search)
    → searched_of looked ≡ unless_single (finding_of answer.glitch) (record { found = no_pair; looked = 0 })
    → (f : Findings) → answered (findings_of answer) ≡ answered f
    → searched_of looked ≡ unless_single f.glitch (record { found = no_pair; looked = 0 })
by_findings answer looked is f e = let same : f ≡ findings_of answer = cc in rw same is

module _ (bytes : List ℕ) (entries limit : ℕ) (before : List ℕ) (netlist : Value.Netlist) (work : List ℕ) where
  -- no pair was looked at
  pub begins : (first : Result Answer Refusal) (looked : Search) (nodes : ℕ)
      → reply_of first ≡ reply bytes entries (length before)
      → netlist ≡ flat_of (kept (admitted bytes entries (length before))) → work ≡ work_after bytes entries before
      → nodes ≡ netlist.count
      → ((f : Findings) → reply_of first ≡ answered f → searched_of looked ≡ unless_single f.glitch (record { found = no_pair; looked = 0 }))
      → Underway bytes entries limit before netlist work
      (record { reply = first; search = looked; next = 0; nodes = nodes })
  unfolding reply and_then findings search_from
  begins first looked nodes replied value held count single = record {
    replied = replied;
    value = value;
    held = held;
    ready = ready bytes entries before value held;
    nodes = count;
    within = omega arith;
    found = λ n admits. rw (pairs_none n) (single (findings n) (rw admits at replied));
  }

  module _ (progress : Progress) (u : Underway bytes entries limit before netlist work progress) where
    -- the pairs of one node more
    pub goes_further : is_done progress ≡ false → (looked : Search)
        → ((n : Netlist) → netlist ≡ flat_of n
        → searched_of looked ≡ search_from (report_in n.variables work) limit progress.search.looked (row n progress.next progress.next))
        → Underway bytes entries limit before netlist work
        (record { reply = progress.reply; search = looked; next = progress.next + 1; nodes = progress.nodes })
    unfolding unless_single
    goes_further e looked finds =
        let (left, on) = not_done progress e in
        record {
          replied = u.replied;
          value = u.value;
          held = u.held;
          ready = u.ready;
          nodes = u.nodes;
          within = left;
          found = λ n admits. go n on (finds n (value_is bytes entries before u.value admits)) (half (λ F. F.glitch) n) (u.found n admits);
        }
      where
        go : (n : Netlist) → over (searched_of progress.search).found ≡ false
            → searched_of looked ≡ search_from (report_in n.variables work) limit progress.search.looked (row n progress.next progress.next)
            → (f : Finding) → searched_of progress.search ≡ unless_single f (search_from (report_in n.variables work) limit 0 (pairs_below n progress.next))
            → searched_of looked ≡ unless_single f (search_from (report_in n.variables work) limit 0 (pairs_below n (progress.next + 1)))
        go n on finds clear e = rw (pairs_more n progress.next, goes_on _ _ 0 (pairs_below n progress.next) (row n progress.next progress.next) _ e on) finds
        go n on finds (suspect_at node set) e =
            let ended : true ≡ false = sym (ap (λ (s : Searched). over s.found) e) ∙ on in
            absurd cc

    -- all pairs, once it is done
    pub all_found : is_done progress ≡ true → (n : Netlist) → admitted bytes entries (length before) ≡ answered n
        → searched_of progress.search ≡ unless_single (half (λ F. F.glitch) n) (search_from (report_in n.variables work) limit 0 (pairs n))
    unfolding pairs unless_single
    all_found e n admits = go (half (λ F. F.glitch) n) (u.found n admits)
      where
        all : progress.nodes ≡ length n.nodes
        all = u.nodes ∙ value_count n (value_is bytes entries before u.value admits)

        go : (f : Finding) → searched_of progress.search ≡ unless_single f (search_from (report_in n.variables work) limit 0 (pairs_below n progress.next))
            → searched_of progress.search ≡ unless_single f (search_from (report_in n.variables work) limit 0 (pairs_below n (length n.nodes)))
        go (suspect_at node set) found = found
        go clear found =
            ⊎_elim
            (λ last.
            let same : progress.next ≡ length n.nodes = omega (arith, leb-true progress.nodes progress.next last, u.within, all) in
            rw same at found)
            (λ ends.
            let rest : progress.next + (length n.nodes - progress.next) ≡ length n.nodes = omega (arith, u.within, all) in
            rw rest at (stays_over _ _ (pairs_below n) (λ j. row n j j) (pairs_more n) 0 progress.next (length n.nodes - progress.next) _ found ends))
            (either (leb progress.nodes progress.next) (over (searched_of progress.search).found) e)

    -- and, beside the answer of one probe, the whole reply
    pub whole : is_done progress ≡ true → (answer : Answer)
        → answered (findings_of answer) ≡ reply bytes entries (length before)
        → pairs_reply_of (Ok (record { answer = answer; search = progress.search }))
        ≡ pairs_reply bytes entries (length before) limit
    whole e answer replied =
        let answers = of_answered bytes entries (length before) (findings_of answer) replied in
        searches bytes entries limit answer progress.search before answers u.held
        (all_found e answers.netlist answers.admits)
