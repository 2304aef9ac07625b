-- The scan of one layer of the work bytes from a node on: a node is passed or reports by the sets looked at so far,
-- in the order of report, and the first node that reports is what the scan finds; over the bytes of a netlist's
-- families the nodes report what the rules say. Assumes nothing.
use Prim.Native.Nat.{ℕ, zero, suc, ◌+◌, ◌*◌, ◌-◌, ◌<◌, ◌≤◌}
use mathlib.Core.Path.{◌≡◌, refl, sym, ap₂, ◌∙◌}
use mathlib.Core.Logic.{⊎_elim}
use mathlib.Core.Bool.{Bool, true, false, ◌&&◌, cond}
use mathlib.Core.List.{List, [], ◌∷◌, ◌++◌, map}
use mathlib.Core.Option.{Option, none, some}
use native.Mathlib.Nat.{suc-add, add-suc, add-zero}
use native.Mathlib.Omega.{arith}
use borrow.Author.Count.{below_more}
use lib.ListN.{length, get_or, drop, length-map, get_or-map, get_or-eq_default}
use lib.Seq.{get_or-drop}
use Rattle.rules.specs.Lists.{member, tabulate}
use Rattle.rules.specs.Records.{Class, Cell, input, kind_of, Netlist, WellFormed, most_sets}
use Rattle.rules.specs.Families.{Family, Families, constant, families, families_at, suspect, tested, reported, clear, suspect_at, mark, marks, layer_marks, lowest}
use Rattle.rules.specs.Slices.{work_bytes}
use Rattle.rule_laws.proofs.Tests.{lt_or_le}
use Rattle.rule_laws.proofs.Halves.{marks_at}
use Rattle.rule_laws.proofs.Packing.{tabulate_length, tabulate_at}
use Rattle.rule_laws.proofs.Exit.{families_length}
use Rattle.rule_laws.proofs.Marks.{marks_length}
use Rattle.families.specs.Parts.{family_at}
use Rattle.families.proofs.Parts.{below_at}
use Rattle.families.proofs.Work.{Alike, settled_there, glitch_there}
use Rattle.set_order.specs.Order.{set_at}
use Rattle.suspect_sets.proofs.Sets.{reported_same, reported_nothing, reported_first}
use Rattle.suspects.specs.Suspects.{reports_in, found_from}

-- ---- the lowest node that reports

pub lowest_clear : (first : ℕ) (reports : List (Option ℕ)) → ((j : ℕ) → get_or reports j none ≡ none) → lowest first reports ≡ clear
unfolding lowest
lowest_clear first [] h = refl
lowest_clear first (none ∷ rest) h = lowest_clear (suc first) rest (λ j. h (suc j))
lowest_clear first (some A ∷ rest) h = let z : ◌≡◌ {A = ℕ} 0 1 = cc (h 0) in absurd (omega arith)

pub lowest_suspect : (first i A : ℕ) (reports : List (Option ℕ)) → get_or reports i none ≡ some A → ((j : ℕ) → j < i → get_or reports j none ≡ none)
    → lowest first reports ≡ suspect_at (first + i) A
unfolding lowest
lowest_suspect first i A [] e h = let z : ◌≡◌ {A = ℕ} 0 1 = cc in absurd (omega arith)
lowest_suspect first zero A (none ∷ rest) e h = let z : ◌≡◌ {A = ℕ} 0 1 = cc in absurd (omega arith)
lowest_suspect first (suc i) A (none ∷ rest) e h =
    lowest_suspect (suc first) i A rest e (λ j l. h (suc j) (omega arith)) ∙ rw (suc-add first i, add-suc first i)
lowest_suspect first zero A (some B ∷ rest) e h = let same : B ≡ A = cc in rw (same, add-zero first)
lowest_suspect first (suc i) A (some B ∷ rest) e h = let z : ◌≡◌ {A = ℕ} 0 1 = cc (h 0 (omega arith)) in absurd (omega arith)

-- ---- one node

-- what node i reports of a layer of the work bytes
unfoldable pub reports : Netlist → (layer : ℕ) → List ℕ → (i : ℕ) → Option ℕ
reports n layer bytes i = mark n.variables (get_or n.nodes i (input 0)) (family_at bytes (2 * i + layer))

-- whether a set is suspect and in the family there
abbrev pub suspect_in : Netlist → (layer : ℕ) → List ℕ → (i A : ℕ) → Bool
suspect_in n layer bytes i A = suspect n.variables A && member A (family_at bytes (2 * i + layer))

module _ (n : Netlist) (layer : ℕ) (bytes : List ℕ) (i : ℕ) where
  -- a node that is not tested reports nothing
  pub untested_none : tested (get_or n.nodes i (input 0)) ≡ false → reports n layer bytes i ≡ none
  unfolding reports mark
  untested_none e = rw e

  -- nor does one of whose sets none is suspect
  pub none_there : ((k : ℕ) → k < most_sets → suspect_in n layer bytes i (set_at k) ≡ false) → reports n layer bytes i ≡ none
  unfolding reports mark
  none_there passed = go (tested (get_or n.nodes i (input 0)))
    where
      go : (b : Bool) → cond b (reported n.variables (family_at bytes (2 * i + layer))) none ≡ none
      go true = reported_nothing n.variables (family_at bytes (2 * i + layer)) (below_at bytes (2 * i + layer)) passed
      go false = refl

  -- and one that is tested reports the first suspect set, in the order of report
  pub first_there : tested (get_or n.nodes i (input 0)) ≡ true → (place : ℕ) → place < most_sets
      → suspect_in n layer bytes i (set_at place) ≡ true → ((k : ℕ) → k < place → suspect_in n layer bytes i (set_at k) ≡ false)
      → reports n layer bytes i ≡ some (set_at place)
  unfolding reports mark
  first_there e place h here before =
      rw e (reported_first n.variables (family_at bytes (2 * i + layer)) (below_at bytes (2 * i + layer)) place h here before)

-- ---- all nodes

-- the nodes from `from` on and below i report nothing
abbrev pub Passed : Netlist → (layer : ℕ) → List ℕ → (from i : ℕ) → Type 0
Passed n layer bytes from i = (j : ℕ) → from ≤ j → j < i → reports n layer bytes j ≡ none

pub pass_more : (n : Netlist) (layer : ℕ) (bytes : List ℕ) (from i : ℕ) → Passed n layer bytes from i → reports n layer bytes i ≡ none
    → Passed n layer bytes from (i + 1)
pass_more n layer bytes from i passed here j h l =
    below_more (λ j. from ≤ j → reports n layer bytes j ≡ none) i (λ k m g. passed k g m) (λ g. here) j l h

module _ (n : Netlist) (layer : ℕ) (bytes : List ℕ) where
  -- the families, and the reports of the nodes one by one
  layer_families : List Family
  layer_families = tabulate (λ i. family_at bytes (2 * i + layer)) (length n.nodes)

  pub reports_length : length (reports_in n layer bytes) ≡ length n.nodes
  unfolding reports_in
  reports_length =
      marks_length n.variables n.nodes _ (sym (tabulate_length (λ i. family_at bytes (2 * i + layer)) (length n.nodes)))

  report_at : (j : ℕ)
      → get_or (reports_in n layer bytes) j none ≡ mark n.variables (get_or n.nodes j (input 0)) (get_or layer_families j [])
  unfolding layer_families reports_in
  report_at j =
      marks_at n.variables n.nodes layer_families [] j (sym (tabulate_length (λ i. family_at bytes (2 * i + layer)) (length n.nodes)))

  pub report_there : (j : ℕ) → j < length n.nodes → get_or (reports_in n layer bytes) j none ≡ reports n layer bytes j
  unfolding reports layer_families
  report_there j h = report_at j ∙ rw (tabulate_at (λ i. family_at bytes (2 * i + layer)) (length n.nodes) j [] h)

  report_beyond : (j : ℕ) → length n.nodes ≤ j → get_or (reports_in n layer bytes) j none ≡ none
  unfolding mark tested kind_of
  report_beyond j h = report_at j ∙ rw (get_or-eq_default n.nodes (input 0) {n = j} h)

  pub found_suspect : (from i A : ℕ) → from ≤ i → i < length n.nodes → Passed n layer bytes from i → reports n layer bytes i ≡ some A
      → found_from from (reports_in n layer bytes) ≡ suspect_at i A
  unfolding found_from
  found_suspect from i A l h passed here =
      let there : from + (i - from) ≡ i = omega arith in
      lowest_suspect from (i - from) A (drop from (reports_in n layer bytes))
      (get_or-drop from (reports_in n layer bytes) (i - from) none ∙ rw there (report_there i h ∙ here))
      (λ j k. get_or-drop from (reports_in n layer bytes) j none ∙ report_there (from + j) (omega arith) ∙ passed (from + j) (omega arith) (omega arith))
      ∙ rw there

  pub found_clear : (from : ℕ) → Passed n layer bytes from (length n.nodes) → found_from from (reports_in n layer bytes) ≡ clear
  unfolding found_from
  found_clear from passed =
      lowest_clear from (drop from (reports_in n layer bytes)) (λ j.
      get_or-drop from (reports_in n layer bytes) j none
      ∙ ⊎_elim (λ l. report_there (from + j) l ∙ passed (from + j) (omega arith) l) (report_beyond (from + j)) (lt_or_le (from + j) (length n.nodes)))

-- ---- over the bytes of a netlist's families

marks_same : (variables : List Class) (cells : List Cell) (Fs Gs : List Family) (d : Family) → length Fs ≡ length cells → length Gs ≡ length cells
    → ((i : ℕ) → i < length cells → Alike (get_or Fs i d) (get_or Gs i d))
    → marks variables cells Fs ≡ marks variables cells Gs
unfolding marks mark
marks_same variables [] Fs Gs d p q h = refl
marks_same variables (c ∷ cells) [] Gs d p q h = absurd (omega arith)
marks_same variables (c ∷ cells) (F ∷ Fs) [] d p q h = absurd (omega arith)
marks_same variables (c ∷ cells) (F ∷ Fs) (G ∷ Gs) d p q h =
    ap₂ {C = List (Option ℕ)} ◌∷◌ (rw (reported_same variables F G (h 0 (omega arith)).same))
    (marks_same variables cells Fs Gs d (omega arith) (omega arith) (λ i l. h (suc i) (omega arith)))

-- where a layer holds the sets of one of the two families of each node, the nodes report what
-- they report over that family
layer_reports : (n : Netlist) (layer : ℕ) (bytes : List ℕ) (pick : Families → Family)
    → ((i : ℕ) → i < length n.nodes → Alike (family_at bytes (2 * i + layer)) (pick (families_at n i)))
    → reports_in n layer bytes ≡ layer_marks pick n
unfolding reports_in layer_marks families_at
layer_reports n layer bytes pick held =
    marks_same n.variables n.nodes (tabulate at (length n.nodes)) (map pick (families n)) (pick constant)
    (tabulate_length at (length n.nodes))
    (length-map (families n) pick ∙ families_length n)
    (λ i h. rw (tabulate_at at (length n.nodes) i (pick constant) h, get_or-map pick (families n) i constant) (held i h))
  where
    at : ℕ → Family
    at i = family_at bytes (2 * i + layer)

-- in both layers of the bytes of the families the nodes report what the rules say
pub reports_are : (n : Netlist) → WellFormed n → (rest : List ℕ)
    → (reports_in n 0 (work_bytes (families n) ++ rest) ≡ layer_marks (λ F. F.settled) n)
    × (reports_in n 1 (work_bytes (families n) ++ rest) ≡ layer_marks (λ F. F.glitch) n)
reports_are n formed rest = (
  layer_reports n 0 _ (λ F. F.settled) (λ i h. rw (add-zero (2 * i)) (settled_there n formed rest i h)),
  layer_reports n 1 _ (λ F. F.glitch) (glitch_there n formed rest),
)
