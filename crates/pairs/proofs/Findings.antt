-- What a search says: each finding with its count, exactly when it is found, and that a larger limit never alters it.
-- By induction on the pairs that are left. Assumes nothing.
use Prim.Native.Nat.{ℕ, zero, suc, ◌+◌, ◌≤◌, ◌<◌}
use mathlib.Core.Path.{◌≡◌, refl, sym, ap, subst, ◌∙◌}
use mathlib.Core.Logic.{◌↔◌, ◌⊎◌, inl, inr, ⊎_elim}
use mathlib.Core.List.{List, [], ◌∷◌, ◌++◌}
use mathlib.Core.Option.{Option, none, some}
use native.Mathlib.Omega.{arith}
use borrow.Author.Tests.{lt-ltb, le-ltb}
use lib.ListN.{length}
use Rattle.rules.specs.Records.{Netlist, WellFormed}
use Rattle.rules.specs.Families.{families, Finding, clear, suspect_at, half}
use Rattle.rules.specs.Slices.{work_bytes}
use Rattle.rule_laws.proofs.Tests.{lt_or_le}
use Rattle.rules.proofs.Each.{Each}
use Rattle.pair_search.specs.Pairs.{Pair, pairs, at_position, pair_report, PairFinding, single, no_pair, pair_at, spent, Searched, onward, search_from, unless_single, searched}
use Rattle.pair_search.specs.Work.{report_in}
use Rattle.pair_search.proofs.Reports.{report_there}
use Rattle.pairs.proofs.Order.{each_more, none_first, pairs_there}

-- ---- reports that are the same

search_same : (report other : Pair → Option ℕ) (limit looked : ℕ) (ps : List Pair) → Each (λ p. report p ≡ other p) ps
    → search_from report limit looked ps ≡ search_from other limit looked ps
unfolding search_from
search_same report other limit looked [] h = refl
search_same report other limit looked (p ∷ ps) h = rw (h.0, search_same report other limit (suc looked) ps h.1)

-- over the bytes of a netlist's families they are the rules' reports
pub search_there : (n : Netlist) → WellFormed n → (rest : List ℕ) (limit : ℕ)
    → search_from (report_in n.variables (work_bytes (families n) ++ rest)) limit 0 (pairs n) ≡ search_from (pair_report n) limit 0 (pairs n)
search_there n formed rest limit =
    search_same _ _ limit 0 (pairs n) (each_more _ _ (pairs n) (λ p h. report_there n formed rest p h.0 h.1) (pairs_there n))

-- ---- a larger limit

larger_from : (report : Pair → Option ℕ) (limit more looked : ℕ) (ps : List Pair) → limit ≤ more
    → ((search_from report limit looked ps).found ≡ spent → ⊥) → search_from report more looked ps ≡ search_from report limit looked ps
unfolding search_from onward
larger_from report limit more looked [] h unspent = refl
larger_from report limit more looked (p ∷ ps) h unspent =
    ⊎_elim
    (λ l.
    rw (lt-ltb looked limit l, lt-ltb looked more (omega arith))
    (go (report p) (rw (lt-ltb looked limit l) at unspent) (larger_from report limit more (suc looked) ps h)))
    (λ l. absurd (unspent (rw (le-ltb looked limit l)))) (lt_or_le looked limit)
  where
    go : (o : Option ℕ) → ((onward p o (suc looked) (search_from report limit (suc looked) ps)).found ≡ spent → ⊥)
        → (((search_from report limit (suc looked) ps).found ≡ spent → ⊥)
        → search_from report more (suc looked) ps ≡ search_from report limit (suc looked) ps)
        → onward p o (suc looked) (search_from report more (suc looked) ps) ≡ onward p o (suc looked) (search_from report limit (suc looked) ps)
    go (some A) u rest = refl
    go none u rest = rest u

-- ---- what each finding says

-- no pair at the positions that pass the test is suspect
abbrev ClearAt : (Pair → Option ℕ) → List Pair → (ℕ → Type 0) → Type 0
ClearAt report ps test = (k : ℕ) (p : Pair) → test k → at_position ps k ≡ some p → report p ≡ none

module _ (report : Pair → Option ℕ) where
  clear_none : (test : ℕ → Type 0) → ClearAt report [] test
  unfolding at_position
  clear_none test k p t e = absurd cc

  clear_front : (test : ℕ → Type 0) (p : Pair) (ps : List Pair) → (test 1 → report p ≡ none) → ClearAt report ps (λ k. test (suc k))
      → ClearAt report (p ∷ ps) test
  unfolding at_position
  clear_front test p ps here rest zero q t e = absurd cc
  clear_front test p ps here rest (suc zero) q t e = let same : p ≡ q = cc in subst (λ (x : Pair). report x ≡ none) same (here t)
  clear_front test p ps here rest (suc (suc k)) q t e = rest (suc k) q t e

  -- of a search that has looked at `from` pairs before
  abbrev SaysFrom : (limit from : ℕ) → List Pair → PairFinding → (looked : ℕ) → Type 0
  SaysFrom limit from ps (single node set) looked = ⊥
  SaysFrom limit from ps no_pair looked = (looked ≡ from + length ps) × (looked ≤ limit) × ClearAt report ps (λ k. Unit {0})
  SaysFrom limit from ps (pair_at i j A) looked =
      (k : ℕ) × (looked ≡ from + k) × (looked ≤ limit) × (at_position ps k ≡ some (record { i = i; j = j }))
      × (report record { i = i; j = j } ≡ some A) × ClearAt report ps (λ l. l < k)
  SaysFrom limit from ps spent looked = (looked ≡ limit) × (limit < from + length ps) × ClearAt report ps (λ k. from + k ≤ limit)

  abbrev Says : (limit from : ℕ) → List Pair → Searched → Type 0
  Says limit from ps s = SaysFrom limit from ps s.found s.looked

  -- a pair that is clear, in front of the others
  says_front : (limit from : ℕ) (p : Pair) (ps : List Pair) → report p ≡ none → (found : PairFinding) (looked : ℕ)
      → SaysFrom limit (suc from) ps found looked → SaysFrom limit from (p ∷ ps) found looked
  unfolding at_position
  says_front limit from p ps e (single node set) looked h = h
  says_front limit from p ps e no_pair looked h = (omega (arith, h.0), h.1, clear_front (λ k. Unit {0}) p ps (λ t. e) h.2)
  says_front limit from p ps e (pair_at i j A) looked (zero, c, l, at, r, b) = absurd (cc (none_first ps))
  says_front limit from p ps e (pair_at i j A) looked (suc k, c, l, at, r, b) =
      (suc (suc k), omega arith, l, at, r, clear_front (λ m. m < suc (suc k)) p ps (λ t. e) (λ m q t. b m q (omega arith)))
  says_front limit from p ps e spent looked h =
      (h.0, omega (arith, h.1), clear_front (λ k. from + k ≤ limit) p ps (λ t. e) (λ k q t. h.2 k q (omega arith)))

  search_says : (limit from : ℕ) (ps : List Pair) → from ≤ limit → Says limit from ps (search_from report limit from ps)
  unfolding search_from onward
  search_says limit from [] h = (omega arith, h, clear_none (λ k. Unit {0}))
  search_says limit from (p ∷ ps) h =
      ⊎_elim (λ l. rw (lt-ltb from limit l) (go l (report p) refl (search_says limit (suc from) ps l)))
      (λ l.
      rw (le-ltb from limit l)
      (omega arith, omega arith, clear_front (λ k. from + k ≤ limit) p ps (λ t. absurd (omega arith)) (λ k q t. absurd (omega arith))))
      (lt_or_le from limit)
    where
      go : from < limit → (o : Option ℕ) → report p ≡ o → Says limit (suc from) ps (search_from report limit (suc from) ps)
          → Says limit from (p ∷ ps) (onward p o (suc from) (search_from report limit (suc from) ps))
      go l (some A) e says =
          (1, omega arith, l, unfold at_position in refl, e, clear_front (λ k. k < 1) p ps (λ t. absurd (omega arith)) (λ k q t. absurd (omega arith)))
      go l none e says =
          let rest = search_from report limit (suc from) ps in
          says_front limit from p ps e rest.found rest.looked says

-- ---- the search over the pairs of a netlist

module _ (n : Netlist) (limit : ℕ) where
  -- no node is suspect by itself
  abbrev SinglesClear : Type 0
  SinglesClear = half (λ F. F.glitch) n ≡ clear

  -- What each finding means, with its count: that node is the single suspect, and no pair was looked at;
  -- all pairs were looked at, within the limit, and are clear; the pair stands at the position that is the count,
  -- reports the set, and all before it are clear; as many as the limit were looked at, all are clear and more remain.
  abbrev pub Means : PairFinding → (looked : ℕ) → Type 0
  Means (single node set) looked = (half (λ F. F.glitch) n ≡ suspect_at node set) × (looked ≡ 0)
  Means no_pair looked = SinglesClear × (looked ≡ length (pairs n)) × (looked ≤ limit) × ClearAt (pair_report n) (pairs n) (λ k. Unit {0})
  Means (pair_at i j A) looked =
      SinglesClear × (at_position (pairs n) looked ≡ some (record { i = i; j = j })) × (looked ≤ limit)
      × (pair_report n record { i = i; j = j } ≡ some A) × ClearAt (pair_report n) (pairs n) (λ k. k < looked)
  Means spent looked = SinglesClear × (looked ≡ limit) × (limit < length (pairs n)) × ClearAt (pair_report n) (pairs n) (λ k. k ≤ limit)

  search_means : Means (searched n limit).found (searched n limit).looked
  unfolding searched unless_single
  search_means = go (half (λ F. F.glitch) n) refl
    where
      from_zero : SinglesClear → (found : PairFinding) (looked : ℕ) → SaysFrom (pair_report n) limit 0 (pairs n) found looked → Means found looked
      from_zero c (single node set) looked h = absurd h
      from_zero c no_pair looked h = (c, omega (arith, h.0), h.1, h.2)
      from_zero c (pair_at i j A) looked (k, e, l, at, r, b) = let same : k ≡ looked = omega arith in (c, rw same at at, l, r, rw same at b)
      from_zero c spent looked h = (c, h.0, omega (arith, h.1), λ k p l. h.2 k p (omega arith))

      go : (f : Finding) → half (λ F. F.glitch) n ≡ f
          → Means (unless_single f (search_from (pair_report n) limit 0 (pairs n))).found (unless_single f (search_from (pair_report n) limit 0 (pairs n))).looked
      go (suspect_at node set) e = (e, refl)
      go clear e =
          let s = search_from (pair_report n) limit 0 (pairs n) in
          from_zero e s.found s.looked (search_says (pair_report n) limit 0 (pairs n) (omega arith))

  -- two findings that both hold are one
  clear_or_suspect : {node set : ℕ} → SinglesClear → half (λ F. F.glitch) n ≡ suspect_at node set → ⊥
  clear_or_suspect c e = cc

  none_or_some : {A : ℕ} {o : Option ℕ} → o ≡ none → o ≡ some A → ⊥
  none_or_some e f = cc

  one_meaning : (f g : PairFinding) (k l : ℕ) → Means f k → Means g l → ◌≡◌ {A = Searched} (record { found = f; looked = k }) (record { found = g; looked = l })
  one_meaning (single i A) (single j B) k l p q = let first = p.0 in let second = q.0 in let k-zero = p.1 in let l-zero = q.1 in cc
  one_meaning (single i A) no_pair k l p q = absurd (clear_or_suspect q.0 p.0)
  one_meaning (single i A) (pair_at i' j' B) k l p q = absurd (clear_or_suspect q.0 p.0)
  one_meaning (single i A) spent k l p q = absurd (clear_or_suspect q.0 p.0)
  one_meaning no_pair (single j B) k l p q = absurd (clear_or_suspect p.0 q.0)
  one_meaning no_pair no_pair k l p q = let first = p.1 in let second = q.1 in cc
  one_meaning no_pair (pair_at i j B) k l p q = absurd (none_or_some (p.3 l _ tt q.1) q.3)
  one_meaning no_pair spent k l p q = absurd (omega (arith, p.1, p.2, q.2))
  one_meaning (pair_at i j A) (single j' B) k l p q = absurd (clear_or_suspect p.0 q.0)
  one_meaning (pair_at i j A) no_pair k l p q = absurd (none_or_some (q.3 k _ tt p.1) p.3)
  one_meaning (pair_at i j A) (pair_at i' j' B) k l p q =
      ⊎_elim (λ h. absurd (none_or_some (q.4 k _ h p.1) p.3))
      (λ h.
      ⊎_elim (λ m. absurd (none_or_some (p.4 l _ m q.1) q.3))
      (λ m.
      let same : k ≡ l = omega arith in
      let first = p.1 in
      let second = q.1 in
      let pair : ◌≡◌ {A = Pair} (record { i = i; j = j }) (record { i = i'; j = j' }) = cc in
      let lower : i ≡ i' = ap (λ (p : Pair). p.i) pair in
      let higher : j ≡ j' = ap (λ (p : Pair). p.j) pair in
      let reports = p.3 in
      let reports' = q.3 in
      cc)
      (lt_or_le l k))
      (lt_or_le k l)
  one_meaning (pair_at i j A) spent k l p q = absurd (none_or_some (q.3 k _ p.2 p.1) p.3)
  one_meaning spent (single j B) k l p q = absurd (clear_or_suspect p.0 q.0)
  one_meaning spent no_pair k l p q = absurd (omega (arith, q.1, q.2, p.2))
  one_meaning spent (pair_at i j B) k l p q = absurd (none_or_some (p.3 l _ q.2 q.1) q.3)
  one_meaning spent spent k l p q = let first = p.1 in let second = q.1 in cc

  -- The search gives a finding and a count exactly when that is what they mean.
  pub search_exactly : (s : Searched) → (searched n limit ≡ s) ↔ Means s.found s.looked
  search_exactly s = (
    λ e. subst (λ (t : Searched). Means t.found t.looked) e search_means,
    λ m. one_meaning (searched n limit).found s.found (searched n limit).looked s.looked search_means m,
  )

  -- a larger limit never alters a finding, nor its count
  pub larger_limit : (more : ℕ) → limit ≤ more → ((searched n limit).found ≡ spent → ⊥) → searched n more ≡ searched n limit
  unfolding searched unless_single
  larger_limit more h unspent = go (half (λ F. F.glitch) n) unspent
    where
      go : (f : Finding) → ((unless_single f (search_from (pair_report n) limit 0 (pairs n))).found ≡ spent → ⊥)
          → unless_single f (search_from (pair_report n) more 0 (pairs n)) ≡ unless_single f (search_from (pair_report n) limit 0 (pairs n))
      go (suspect_at node set) u = refl
      go clear u = larger_from (pair_report n) limit more 0 (pairs n) h u

-- and a smaller one gives the same, or is spent
pub smaller_limit : (n : Netlist) (limit less : ℕ) → less ≤ limit
    → (searched n less ≡ searched n limit) ⊎ (searched n less ≡ record { found = spent; looked = less })
smaller_limit n limit less h = go (searched n less).found (searched n less).looked refl (search_means n less)
  where
    same : {f : PairFinding} {k : ℕ} → searched n less ≡ record { found = f; looked = k } → (f ≡ spent → ⊥) → searched n less ≡ searched n limit
    same e unspent = sym (larger_limit n less limit h (λ u. unspent (cc)))

    go : (f : PairFinding) (k : ℕ) → searched n less ≡ record { found = f; looked = k } → Means n less f k
        → (searched n less ≡ searched n limit) ⊎ (searched n less ≡ record { found = spent; looked = less })
    go (single i A) k e m = inl (same e (λ u. cc))
    go no_pair k e m = inl (same e (λ u. cc))
    go (pair_at i j A) k e m = inl (same e (λ u. cc))
    go spent k e m = inr (e ∙ ap (λ (l : ℕ). record { found = spent; looked = l }) m.1)
