-- Marks by value: what stands at a node's number, one mark more, what a scan that goes on has marked so far, the mark
-- of one node, and those behind a node that is removed; over work bytes that hold the families of a netlist, they are the
-- netlist's marks, from which both halves of its answer are read. Assumes nothing.
use Prim.Native.Nat.{ℕ, zero, suc, ◌+◌, ◌*◌, ◌-◌, ◌≤◌, ◌<◌}
use mathlib.Core.Path.{◌≡◌, refl, sym, ap, ap₂, subst, ◌∙◌}
use mathlib.Core.Logic.{◌≢◌, ⊎_elim}
use mathlib.Core.Bool.{true, false}
use mathlib.Core.List.{List, [], ◌∷◌, ◌++◌, map}
use mathlib.Core.Option.{Option, none, some}
use native.Mathlib.Numerals.{add-one}
use native.Mathlib.Omega.{arith}
use lib.ListN.{length, get_or, take, drop, set, replicate, length-append, length-map, length-take, length-replicate, get_or-eq_default}
use lib.Seq.{length-take-le, take_at, take-suc, get_or-take, get_or-drop, ext_get_or}
use Rattle.rules.specs.Lists.{without}
use Rattle.rules.specs.Records.{input, Netlist, WellFormed, most_nodes}
use Rattle.rules.specs.Families.{Family, Families, families, Finding, clear, suspect_at, tested, reported, mark, layer_marks, lowest, half}
use Rattle.rules.specs.Slices.{mark_number, mark_of, work_bytes}
use Rattle.rule_laws.proofs.Tests.{lt_or_le}
use Rattle.rule_laws.proofs.Halves.{NoneBefore, Lowest, lowest_says}
use Rattle.rule_laws.proofs.Marks.{mark_written, layer_marks_length, marks_told}
use Rattle.netlists.specs.Netlists.{padded}
use Rattle.netlists.proofs.Netlists.{padded_same, made_set}
use Rattle.netlists.proofs.Without.{without_before, without_behind, without_count, next_done, all_done}
use Rattle.families.specs.Parts.{family_at}
use Rattle.suspects.specs.Suspects.{reports_in, found_from}
use Rattle.suspects.proofs.Search.{reports, report_there, reports_are}
use Rattle.marks.specs.Marks.{flat_marks, marks_in, marks_of}

-- ---- one layer

-- what is not 0 is read as a set
pub mark_some : (A : ℕ) → A ≢ 0 → mark_of A ≡ some A
unfolding mark_of
mark_some zero h = absurd (h refl)
mark_some (suc A) h = refl

module _ (reports : List (Option ℕ)) where
  flat_length : length reports ≤ most_nodes → length (flat_marks reports) ≡ most_nodes
  unfolding flat_marks padded
  flat_length h =
      let many = length-map reports mark_number in
      length-append (map mark_number reports) (replicate (most_nodes - length (map mark_number reports)) 0)
      ∙ rw (length-replicate {A = ℕ} (most_nodes - length (map mark_number reports)) 0) (omega arith)

  -- the mark at a node's number
  pub flat_at : (i : ℕ) → get_or (flat_marks reports) i 0 ≡ mark_number (get_or reports i none)
  unfolding flat_marks
  flat_at i = padded_same most_nodes 0 (map mark_number reports) i ∙ mark_written reports i

  -- one mark more
  pub flat_more : (o : Option ℕ) → length reports < most_nodes → set (flat_marks reports) (length reports) (mark_number o) ≡ flat_marks (reports ++ (o ∷ []))
  unfolding flat_marks
  flat_more o h = made_set mark_number most_nodes 0 reports o h

-- ---- a scan that goes on

-- what the first `from` nodes report, at any number
taken_at : (reports : List (Option ℕ)) (from j : ℕ) → j < from → get_or (flat_marks (take from reports)) j 0 ≡ mark_number (get_or reports j none)
taken_at reports from j h = flat_at (take from reports) j ∙ ap mark_number (get_or-take from reports j none h)

beyond_taken : (reports : List (Option ℕ)) (from j : ℕ) → from ≤ j → get_or (flat_marks (take from reports)) j 0 ≡ 0
unfolding mark_number
beyond_taken reports from j h =
    flat_at (take from reports) j
    ∙ ap mark_number (get_or-eq_default (take from reports) none {n = j} (omega (arith, length-take from reports)))

taken_few : (reports : List (Option ℕ)) (from : ℕ) → length reports ≤ most_nodes → length (flat_marks (take from reports)) ≡ most_nodes
taken_few reports from few = flat_length (take from reports) (omega (arith, length-take from reports))

-- the nodes from `from` on and below i report nothing
abbrev NoneFrom : List (Option ℕ) → (from i : ℕ) → Type 0
NoneFrom reports from i = (j : ℕ) → from ≤ j → j < i → get_or reports j none ≡ none

-- so that the marks up to i are those up to `from`
none_more : (reports : List (Option ℕ)) (from i : ℕ) → length reports ≤ most_nodes → from ≤ i → NoneFrom reports from i
    → flat_marks (take from reports) ≡ flat_marks (take i reports)
unfolding mark_number
none_more reports from i few h nothing =
    ext_get_or 0 (flat_marks (take from reports)) (flat_marks (take i reports)) (taken_few reports from few ∙ sym (taken_few reports i few)) (λ j l.
    ⊎_elim (λ m. taken_at reports from j m ∙ sym (taken_at reports i j (omega arith)))
    (λ m.
    beyond_taken reports from j m
    ∙ ⊎_elim (λ k. sym (taken_at reports i j k ∙ ap mark_number (nothing j m k))) (λ k. sym (beyond_taken reports i j k)) (lt_or_le j i))
    (lt_or_le j from))

-- and one more, where node i reports A
one_more : (reports : List (Option ℕ)) (i A : ℕ) → length reports ≤ most_nodes → i < length reports → get_or reports i none ≡ some A
    → set (flat_marks (take i reports)) i A ≡ flat_marks (take (i + 1) reports)
unfolding mark_number
one_more reports i A few h here =
    let many = length-take-le i reports (omega arith) in
    ap (λ (k : ℕ). set (flat_marks (take i reports)) k A) (sym many)
    ∙ flat_more (take i reports) (some A) (omega arith)
    ∙ ap flat_marks (sym (rw (here) at (take-suc reports i none h)) ∙ rw (add-one i))

-- what a scan from a node on tells
scan_says : (reports : List (Option ℕ)) (from : ℕ) (f : Finding) → found_from from reports ≡ f → Lowest from (drop from reports) f
unfolding found_from
scan_says reports from f e = subst (Lowest from (drop from reports)) e (lowest_says from (drop from reports))

none_before : (reports : List (Option ℕ)) (from k : ℕ) → NoneBefore (drop from reports) k → NoneFrom reports from (from + k)
none_before reports from k before j h l =
    let there : from + (j - from) ≡ j = omega arith in
    rw there at (sym (get_or-drop from reports (j - from) none) ∙ before (j - from) (omega arith))

-- where it finds no other, all marks are found
pub all_found : (reports : List (Option ℕ)) (from : ℕ) → length reports ≤ most_nodes → from ≤ length reports → found_from from reports ≡ clear
    → flat_marks (take from reports) ≡ flat_marks (take (length reports) reports)
all_found reports from few h e =
    none_more reports from (length reports) few h
    (λ j m l. none_before reports from (length reports) (scan_says reports from clear e (length reports)) j m (omega arith))

-- where it finds a node, the marks up to that one are
pub next_found : (reports : List (Option ℕ)) (from i A : ℕ) → length reports ≤ most_nodes → i < length reports → found_from from reports ≡ suspect_at i A
    → set (flat_marks (take from reports)) i A ≡ flat_marks (take (i + 1) reports)
next_found reports from i A few h e =
    let (k, at, is, before) = scan_says reports from (suspect_at i A) e in
    let here : get_or reports i none ≡ some A = rw (← at) at (sym (get_or-drop from reports k none) ∙ is) in
    let nothing : NoneFrom reports from i = rw (← at) at (none_before reports from k before) in
    ap (λ (ms : List ℕ). set ms i A) (none_more reports from i few (omega arith) nothing) ∙ one_more reports i A few h here

-- ---- one node

-- what is looked at in the family of a node tells its mark: the set that it reports, or 0 for none
module _ (n : Netlist) (layer : ℕ) (bytes : List ℕ) (i : ℕ) (h : i < length n.nodes) where
  pub untested_mark : tested (get_or n.nodes i (input 0)) ≡ false → 0 ≡ mark_number (get_or (reports_in n layer bytes) i none)
  unfolding mark_number reports mark
  untested_mark e = rw (report_there n layer bytes i h, e)

  pub tested_mark : (o : Option ℕ) → tested (get_or n.nodes i (input 0)) ≡ true → o ≡ reported n.variables (family_at bytes (2 * i + layer))
      → mark_number o ≡ mark_number (get_or (reports_in n layer bytes) i none)
  unfolding reports mark
  tested_mark o e told = rw (report_there n layer bytes i h, e, ← told)

-- ---- marks that move down

module _ (reports : List (Option ℕ)) (removed : ℕ) where
  -- before the removed one each is its own, and from there on the mark behind
  before : (i : ℕ) → i < removed → get_or (flat_marks reports) i 0 ≡ get_or (flat_marks (without removed reports)) i 0
  before i h =
      flat_at reports i ∙ ap mark_number (sym (without_before none removed reports i h)) ∙ sym (flat_at (without removed reports) i)

  behind : (i : ℕ) → removed ≤ i → get_or (flat_marks reports) (suc i) 0 ≡ get_or (flat_marks (without removed reports)) i 0
  behind i h =
      flat_at reports (suc i) ∙ ap mark_number (sym (without_behind none removed reports i h)) ∙ sym (flat_at (without removed reports) i)

  -- where those behind it have moved down and the last place is emptied, they are the marks without it
  pub moved_down : length reports ≤ most_nodes → (moved : List ℕ) (last : ℕ) → length reports ≡ suc last → removed ≤ last
      → length moved ≡ length (flat_marks reports)
      → ((i : ℕ) → i < removed → get_or moved i 0 ≡ get_or (flat_marks reports) i 0)
      → ((i : ℕ) → removed ≤ i → i < last → get_or moved i 0 ≡ get_or (flat_marks reports) (suc i) 0)
      → ((i : ℕ) → last ≤ i → get_or moved i 0 ≡ get_or (flat_marks reports) i 0)
      → set moved last 0 ≡ flat_marks (without removed reports)
  unfolding mark_number
  moved_down few moved last many there size below copied from =
      let same = flat_length reports few in
      let fewer = flat_length (without removed reports) (omega (arith, without_count removed reports)) in
      let none_at : (k : ℕ) → suc last ≤ k → get_or (flat_marks reports) k 0 ≡ 0 = λ k h. flat_at reports k ∙ ap mark_number (get_or-eq_default reports none {n = k} (omega arith)) in
      all_done 0 _ _ _ (last + 1) (omega arith) (λ k h. none_at k (omega arith) ∙ sym (none_at (suc k) (omega arith)) ∙ behind k (omega arith))
      (next_done 0 _ _ moved last 0 (omega arith) (sym (none_at (suc last) (omega arith)) ∙ behind last there)
      record {
        many = size;
        done = λ k h. ⊎_elim (λ l. below k l ∙ before k l) (λ l. copied k l h ∙ behind k l) (lt_or_le k removed);
        left = from;
      })

-- ---- the marks of a netlist

-- what stands at a node's number says what it reports
layer_said : (layer : Families → Family) (n : Netlist) → map mark_of (take (length n.nodes) (flat_marks (layer_marks layer n))) ≡ layer_marks layer n
unfolding flat_marks padded
layer_said layer n =
    ap (map mark_of)
    (take_at (map mark_number (layer_marks layer n)) _ (length n.nodes) (length-map (layer_marks layer n) mark_number ∙ layer_marks_length layer n))
    ∙ marks_told layer n

-- each half is read from the marks
pub halves : (n : Netlist)
    → (lowest 0 (map mark_of (take (length n.nodes) (marks_of n).settled)) ≡ half (λ F. F.settled) n)
    × (lowest 0 (map mark_of (take (length n.nodes) (marks_of n).glitch)) ≡ half (λ F. F.glitch) n)
unfolding half marks_of marks_in
halves n = (ap (lowest 0) (layer_said (λ F. F.settled) n), ap (lowest 0) (layer_said (λ F. F.glitch) n))

-- over work bytes that begin with the families of a netlist, they are its own
pub marks_there : (n : Netlist) → WellFormed n → (rest : List ℕ)
    → marks_in (reports_in n 0 (work_bytes (families n) ++ rest)) (reports_in n 1 (work_bytes (families n) ++ rest)) ≡ marks_of n
unfolding marks_of
marks_there n formed rest = let are = reports_are n formed rest in ap₂ marks_in are.0 are.1
