-- What a half of the answer says: clear exactly when no tested node's family holds a suspect set, and else the
-- lowest node whose family does, with the set that it reports. First what `reported`, `lowest` and `mark` each tell
-- by what they return. Assumes nothing.
use Prim.Native.Nat.{ℕ, zero, suc, ◌+◌, ◌≤◌, ◌<◌}
use mathlib.Core.Path.{◌≡◌, refl, sym, ap, ◌∙◌, subst}
use mathlib.Core.Logic.{◌↔◌}
use mathlib.Core.Bool.{Bool, true, false, cond, not}
use mathlib.Core.List.{List, [], ◌∷◌, map}
use mathlib.Core.Option.{Option, none, some}
use native.Mathlib.Nat.{zero-add, le_refl, not-suc-le-zero, le_of_suc-le-suc}
use native.Mathlib.Decide.{dec_lt}
use native.Mathlib.Omega.{arith}
use lib.Dec.{T, T_not}
use lib.ListN.{length, get_or, get_or-eq_default, get_or-map, length-map}
use Rattle.rules.specs.Lists.{member}
use Rattle.rules.specs.Records.{Class, Cell, input, kind_of, Netlist, variable_count}
use Rattle.rules.specs.Families.{Family, Families, constant, families_rule, families, families_at, suspect, tested, earlier, better, reported, Finding, clear, suspect_at, mark, marks, layer_marks, lowest, half, findings}
use Rattle.rules.specs.Checks.{Outcome, answered, refused, and_then, admitted}
use Rattle.rules.specs.Slices.{reply}
use Rattle.rules.specs.Demands.{GlitchClear, TestedNode, NoSuspect, NothingSuspect}
use Rattle.rule_laws.proofs.Tests.{pass}
use Rattle.rule_laws.proofs.Lists.{member_head, member_tail}
use Rattle.rule_laws.proofs.Members.{all_none, all_front}
use Rattle.rule_laws.proofs.Tables.{table_length}
use Rattle.rule_laws.proofs.ReportOrder.{NotLater, not_later_self, earlier_not_later, not_earlier, not_later_trans, not_later_both}

-- ---- what a family reports

-- what `reported` tells of a family: that no set of it is suspect, or that A is suspect and in it,
-- and no suspect set of it comes before A
abbrev Reporting : List Class → Family → Option ℕ → Type 0
Reporting variables F none = (A : ℕ) → T (member A F) → T (not (suspect variables A))
Reporting variables F (some A) =
    T (member A F) × T (suspect variables A) × ((B : ℕ) → T (member B F) → T (suspect variables B) → NotLater A B)

module _ (variables : List Class) where
  -- a suspect A in front of suspects that are not earlier comes first
  leads : (A : ℕ) (F : Family) → T (suspect variables A) → ((B : ℕ) → T (member B F) → T (suspect variables B) → NotLater A B)
      → Reporting variables (A ∷ F) (some A)
  leads A F s first = (member_head A F, s, all_front (λ B. T (suspect variables B) → NotLater A B) A F (λ u. not_later_self A) first)

  -- the first, C, stays so behind a set that is not an earlier suspect
  stays : (A C : ℕ) (F : Family) → (T (suspect variables A) → NotLater C A) → Reporting variables F (some C)
      → Reporting variables (A ∷ F) (some C)
  stays A C F h r = (member_tail C A F r.0, r.1, all_front (λ B. T (suspect variables B) → NotLater C B) A F h r.2)

  with_suspect : (A : ℕ) (F : Family) (o : Option ℕ) → T (suspect variables A) → Reporting variables F o
      → Reporting variables (A ∷ F) (better A o)
  unfolding better
  with_suspect A F none s r = leads A F s (λ B m u. absurd (T_not (suspect variables B) (r B m) u))
  with_suspect A F (some C) s r = go (earlier C A) refl
    where
      go : (b : Bool) → earlier C A ≡ b → Reporting variables (A ∷ F) (some (cond b C A))
      go true e = stays A C F (λ u. earlier_not_later C A (pass e)) r
      go false e = leads A F s (λ B m u. not_later_trans A C B (not_earlier C A (λ t. rw e at t)) (r.2 B m u))

  not_suspect : (A : ℕ) (F : Family) (o : Option ℕ) → T (not (suspect variables A)) → Reporting variables F o
      → Reporting variables (A ∷ F) o
  not_suspect A F none s r = all_front (λ B. T (not (suspect variables B))) A F s r
  not_suspect A F (some C) s r = stays A C F (λ u. absurd (T_not (suspect variables A) s u)) r

  reporting : (F : Family) → Reporting variables F (reported variables F)
  unfolding reported
  reporting [] = all_none (λ B. T (not (suspect variables B)))
  reporting (A ∷ F) = go (suspect variables A) refl (reported variables F) (reporting F)
    where
      go : (b : Bool) → suspect variables A ≡ b → (o : Option ℕ) → Reporting variables F o
          → Reporting variables (A ∷ F) (cond b (better A o) o)
      go true e o r = with_suspect A F o (pass e) r
      go false e o r = not_suspect A F o (pass (ap not e)) r

-- nothing is reported of a family exactly when no set of it is suspect
pub reported_none : (variables : List Class) (F : Family) → reported variables F ≡ none
    → (A : ℕ) → T (member A F) → T (not (suspect variables A))
reported_none variables F e = subst (Reporting variables F) e (reporting variables F)

pub reported_clear : (variables : List Class) (F : Family) → ((A : ℕ) → T (member A F) → T (not (suspect variables A)))
    → reported variables F ≡ none
reported_clear variables F h = go (reported variables F) (reporting variables F)
  where
    go : (o : Option ℕ) → Reporting variables F o → o ≡ none
    go none r = refl
    go (some A) r = absurd (T_not (suspect variables A) (h A r.0) r.1)

-- What the reported set is: it is suspect, it is in the family, no suspect set of the family has fewer variables,
-- and none with as many has a lower number.
pub record Reports (variables : List Class) (F : Family) (A : ℕ) : Type 0 where
  pub is_suspect : T (suspect variables A)
  pub in_family : T (member A F)
  pub fewest_variables : (B : ℕ) → T (member B F) → T (suspect variables B) → variable_count A ≤ variable_count B
  pub lowest_number : (B : ℕ) → T (member B F) → T (suspect variables B) → variable_count B ≡ variable_count A → A ≤ B

-- a set is reported of a family exactly when it is that
pub reported_exactly : (variables : List Class) (F : Family) (A : ℕ) → (reported variables F ≡ some A) ↔ Reports variables F A
reported_exactly variables F A = (
  λ e. says A (subst (Reporting variables F) e (reporting variables F)),
  λ r. go r (reported variables F) (reporting variables F),
)
  where
    says : (C : ℕ) → Reporting variables F (some C) → Reports variables F C
    says C r = record {
      is_suspect = r.1;
      in_family = r.0;
      fewest_variables = λ B m s. (r.2 B m s).fewest;
      lowest_number = λ B m s. (r.2 B m s).lowest;
    }

    go : Reports variables F A → (o : Option ℕ) → Reporting variables F o → o ≡ some A
    go r none none_suspect = absurd (T_not (suspect variables A) (none_suspect A r.in_family) r.is_suspect)
    go r (some C) (m, s, first) =
        ap some
        (not_later_both C A (first A r.in_family r.is_suspect)
        record { fewest = r.fewest_variables C m s; lowest = r.lowest_number C m s })

-- ---- the lowest that reports

-- the first k report nothing
abbrev pub NoneBefore : List (Option ℕ) → ℕ → Type 0
NoneBefore reports k = (j : ℕ) → j < k → get_or reports j none ≡ none

-- what `lowest` tells of reports that count from `first`: that all are none, or that node i has the first that is not
abbrev pub Lowest : ℕ → List (Option ℕ) → Finding → Type 0
Lowest first reports clear = (k : ℕ) → NoneBefore reports k
Lowest first reports (suspect_at i A) = (k : ℕ) × (i ≡ first + k) × (get_or reports k none ≡ some A) × NoneBefore reports k

behind_none : (rest : List (Option ℕ)) (k : ℕ) → NoneBefore rest k → NoneBefore (none ∷ rest) (suc k)
behind_none rest k before zero h = refl
behind_none rest k before (suc j) h = before j (le_of_suc-le-suc h)

pub lowest_says : (first : ℕ) (reports : List (Option ℕ)) → Lowest first reports (lowest first reports)
unfolding lowest
lowest_says first [] = λ k j h. refl
lowest_says first (none ∷ rest) = go (lowest (suc first) rest) (lowest_says (suc first) rest)
  where
    go : (f : Finding) → Lowest (suc first) rest f → Lowest first (none ∷ rest) f
    go clear r = λ k j h. behind_none rest k (r k) j (omega arith)
    go (suspect_at i A) (k, e, s, before) = (suc k, omega arith, s, behind_none rest k before)
lowest_says first (some A ∷ rest) = (0, omega arith, refl, λ j h. absurd (not-suc-le-zero h))

-- ---- what a node reports

pub marks_at : (variables : List Class) (cells : List Cell) (Fs : List Family) (F : Family) (k : ℕ) → length cells ≡ length Fs
    → get_or (marks variables cells Fs) k none ≡ mark variables (get_or cells k (input 0)) (get_or Fs k F)
unfolding marks
marks_at variables [] Fs F k e = unfold mark tested kind_of in refl
marks_at variables (c ∷ cells) [] F k e = absurd (omega arith)
marks_at variables (c ∷ cells) (G ∷ Fs) F zero e = refl
marks_at variables (c ∷ cells) (G ∷ Fs) F (suc k) e = marks_at variables cells Fs F k (omega arith)

-- what `mark` tells of a node: that no set of its family is suspect if it is tested, or that it is tested and reports A
abbrev Marking : List Class → Cell → Family → Option ℕ → Type 0
Marking variables cell F none = T (tested cell) → Reporting variables F none
Marking variables cell F (some A) = T (tested cell) × Reporting variables F (some A)

marking : (variables : List Class) (cell : Cell) (F : Family) → Marking variables cell F (mark variables cell F)
unfolding mark
marking variables cell F = go (tested cell) refl (reported variables F) (reporting variables F)
  where
    go : (b : Bool) → tested cell ≡ b → (o : Option ℕ) → Reporting variables F o → Marking variables cell F (cond b o none)
    go true e none r = λ t. r
    go true e (some A) r = (pass e, r)
    go false e o r = λ t. absurd (rw e at t)

-- what is tested is there
tested_there : (n : Netlist) (i : ℕ) → T (tested (get_or n.nodes i (input 0))) → TestedNode n i
tested_there n i t = go (dec_lt i (length n.nodes))
  where
    go : Dec (i < length n.nodes) → TestedNode n i
    go (yes h) = record { there = h; is_tested = t }
    go (no h) = absurd (unfold tested kind_of in (rw (get_or-eq_default n.nodes (input 0) {n = i} (omega arith)) at t))

-- ---- what a half says

-- node i is the lowest tested node whose family holds a suspect set, and A is the set that it reports:
-- of its suspect sets with fewest variables the lowest-numbered
pub record NamesLowest (layer : Families → Family) (n : Netlist) (i A : ℕ) : Type 0 where
  pub tested_node : TestedNode n i
  pub in_family : T (member A (layer (families_at n i)))
  pub is_suspect : T (suspect n.variables A)
  pub fewest_variables : (B : ℕ) → T (member B (layer (families_at n i))) → T (suspect n.variables B) → variable_count A ≤ variable_count B
  pub lowest_number : (B : ℕ) → T (member B (layer (families_at n i))) → T (suspect n.variables B) → variable_count B ≡ variable_count A → A ≤ B
  pub lowest_node : (j : ℕ) → j < i → TestedNode n j
      → (B : ℕ) → T (member B (layer (families_at n j))) → T (not (suspect n.variables B))

-- what a half tells of the netlist
abbrev Says : (Families → Family) → Netlist → Finding → Type 0
Says layer n clear =
    (i : ℕ) → TestedNode n i → (A : ℕ) → T (member A (layer (families_at n i))) → T (not (suspect n.variables A))
Says layer n (suspect_at i A) = NamesLowest layer n i A

-- what the nodes report, one by one
pub layer_mark : (layer : Families → Family) (n : Netlist) (i : ℕ)
    → get_or (layer_marks layer n) i none ≡ mark n.variables (get_or n.nodes i (input 0)) (layer (families_at n i))
unfolding layer_marks families_at
layer_mark layer n i =
    rw (
      marks_at n.variables n.nodes (map layer (families n)) (layer constant) i
          (unfold families in (omega (arith, length-map (families n) layer, table_length families_rule [] n.nodes))),
      get_or-map layer (families n) i constant,
    )

node_says : (layer : Families → Family) (n : Netlist) (i : ℕ) (o : Option ℕ) → get_or (layer_marks layer n) i none ≡ o
    → Marking n.variables (get_or n.nodes i (input 0)) (layer (families_at n i)) o
node_says layer n i o e =
    subst (Marking n.variables (get_or n.nodes i (input 0)) (layer (families_at n i))) (sym (layer_mark layer n i) ∙ e)
    (marking n.variables (get_or n.nodes i (input 0)) (layer (families_at n i)))

half_says : (layer : Families → Family) (n : Netlist) → Says layer n (half layer n)
unfolding half
half_says layer n = go (lowest 0 (layer_marks layer n)) (lowest_says 0 (layer_marks layer n))
  where
    go : (f : Finding) → Lowest 0 (layer_marks layer n) f → Says layer n f
    go clear r = λ i t. node_says layer n i none (r (suc i) i (le_refl (suc i))) t.is_tested
    go (suspect_at i A) (k, e, s, before) =
        let (t, r) = node_says layer n k (some A) s in
        rw (e, zero-add) record {
          tested_node = tested_there n k t;
          in_family = r.0;
          is_suspect = r.1;
          fewest_variables = λ B m u. (r.2 B m u).fewest;
          lowest_number = λ B m u. (r.2 B m u).lowest;
          lowest_node = λ j h u. node_says layer n j none (before j h) u.is_tested;
        }

-- a half is clear exactly when no tested node's family holds a suspect set
pub half_clear : (layer : Families → Family) (n : Netlist) → (half layer n ≡ clear)
    ↔ ((i : ℕ) → TestedNode n i → (A : ℕ) → T (member A (layer (families_at n i))) → T (not (suspect n.variables A)))
half_clear layer n = (λ e. subst (Says layer n) e (half_says layer n), λ h. go h (half layer n) (half_says layer n))
  where
    go : Says layer n clear → (f : Finding) → Says layer n f → f ≡ clear
    go h clear r = refl
    go h (suspect_at i A) r = absurd (T_not (suspect n.variables A) (h i r.tested_node A r.in_family) r.is_suspect)

-- and where it is suspect it gives the lowest such node, with the set that it reports
pub half_suspect : (layer : Families → Family) (n : Netlist) (i A : ℕ) → half layer n ≡ suspect_at i A → NamesLowest layer n i A
half_suspect layer n i A e = subst (Says layer n) e (half_says layer n)

-- ---- the checker's answer

-- the checker answers clear for glitching signals exactly when it refuses nothing and no tested node's
-- glitch family holds a suspect set
pub exactly_when : (bytes : List ℕ) (entries work : ℕ) → GlitchClear (reply bytes entries work) ↔ NothingSuspect bytes entries work
unfolding reply GlitchClear and_then findings NoSuspect
exactly_when bytes entries work =
    (go (admitted bytes entries work) refl, λ s. rw s.admits ((half_clear (λ F. F.glitch) s.netlist).1 s.no_suspect))
  where
    go : (o : Outcome Netlist) → admitted bytes entries work ≡ o → GlitchClear (and_then o (λ n. answered (findings n)))
        → NothingSuspect bytes entries work
    go (answered n) e c = record { netlist = n; admits = e; no_suspect = (half_clear (λ F. F.glitch) n).0 c }
    go (refused k p) e c = absurd c
