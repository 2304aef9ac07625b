-- The search over one list of pairs and then another, and over lists that grow by a turn of a loop: the pairs of one
-- node, and those of all nodes below a bound. Assumes nothing.
use Prim.Native.Nat.{ℕ, zero, suc, ◌+◌}
use mathlib.Core.Path.{◌≡◌, refl, sym, ◌∙◌}
use mathlib.Core.Bool.{Bool, true, false, cond, ◌&&◌}
use mathlib.Core.List.{List, [], ◌∷◌, ◌++◌, map, map-append}
use mathlib.Core.Option.{Option, none, some}
use native.Mathlib.Nat.{add-zero, add-suc}
use native.Mathlib.Numerals.{add-one}
use lib.Dec.{ltb}
use Rattle.rules.specs.Records.{Netlist}
use Rattle.pair_search.specs.Pairs.{Pair, is_tested, tested_below, row, pairs_below, spent, Searched, onward, search_from}
use Rattle.pair_search.specs.Work.{over}

-- ---- one list after the other

module _ (report : Pair → Option ℕ) (limit : ℕ) where
  -- a search goes on with further pairs, unless it is over
  abbrev go_on : Searched → List Pair → Searched
  go_on s ps = cond (over s.found) s (search_from report limit s.looked ps)

  pub search_append : (looked : ℕ) (ps qs : List Pair) → search_from report limit looked (ps ++ qs) ≡ go_on (search_from report limit looked ps) qs
  unfolding search_from onward
  search_append looked [] qs = refl
  search_append looked (p ∷ ps) qs = go (ltb looked limit) (report p) (search_append (suc looked) ps qs)
    where
      go : (b : Bool) (o : Option ℕ) → search_from report limit (suc looked) (ps ++ qs) ≡ go_on (search_from report limit (suc looked) ps) qs
          → cond b (onward p o (suc looked) (search_from report limit (suc looked) (ps ++ qs))) record { found = spent; looked = looked }
          ≡ go_on (cond b (onward p o (suc looked) (search_from report limit (suc looked) ps)) record { found = spent; looked = looked }) qs
      go true (some A) e = refl
      go true none e = e
      go false o e = refl

  -- it goes on with the second list where all of the first is clear, and else ends with the first
  pub goes_on : (looked : ℕ) (ps qs : List Pair) (s : Searched) → s ≡ search_from report limit looked ps → over s.found ≡ false
      → search_from report limit looked (ps ++ qs) ≡ search_from report limit s.looked qs
  goes_on looked ps qs s e h = search_append looked ps qs ∙ rw (← e, h)

  pub ends : (looked : ℕ) (ps qs : List Pair) (s : Searched) → s ≡ search_from report limit looked ps → over s.found ≡ true
      → s ≡ search_from report limit looked (ps ++ qs)
  ends looked ps qs s e h = sym (search_append looked ps qs ∙ rw (← e, h))

  -- over lists that grow: once it is over it stays as it is
  pub stays_over : (f g : ℕ → List Pair) → ((k : ℕ) → f (k + 1) ≡ f k ++ g k) → (looked k d : ℕ) (s : Searched)
      → s ≡ search_from report limit looked (f k) → over s.found ≡ true → s ≡ search_from report limit looked (f (k + d))
  stays_over f g more looked k zero s e h = rw (add-zero k) e
  stays_over f g more looked k (suc d) s e h =
      rw (add-suc k d, ← add-one (k + d), more (k + d)) (ends looked (f (k + d)) (g (k + d)) s (stays_over f g more looked k d s e h) h)

-- ---- the lists of the two loops

module _ (n : Netlist) where
  -- the pair of nodes k and j, if both are tested
  abbrev pub one_pair : (j k : ℕ) → List Pair
  one_pair j k = cond (is_tested n j && is_tested n k) (record { i = k; j = j } ∷ []) []

  pub row_none : (j : ℕ) → row n j 0 ≡ []
  unfolding row tested_below
  row_none j = go (is_tested n j)
    where
      go : (b : Bool) → cond b (map {B = Pair} (λ (i : ℕ). record { i = i; j = j }) []) [] ≡ []
      go true = refl
      go false = refl

  pub row_untested : (j k : ℕ) → is_tested n j ≡ false → row n j k ≡ []
  unfolding row
  row_untested j k e = rw e

  pub row_more : (j k : ℕ) → row n j (k + 1) ≡ row n j k ++ one_pair j k
  unfolding row tested_below
  row_more j k = rw (add-one k) (go (is_tested n j) (is_tested n k))
    where
      with_j : ℕ → Pair
      with_j i = record { i = i; j = j }

      go : (a b : Bool) → cond a (map with_j (tested_below n k ++ cond b (k ∷ []) [])) [] ≡ cond a (map with_j (tested_below n k)) [] ++ cond (a && b) (with_j k ∷ []) []
      go true true = map-append with_j (tested_below n k) (k ∷ [])
      go true false = map-append with_j (tested_below n k) []
      go false b = refl

  pub pairs_none : pairs_below n 0 ≡ []
  unfolding pairs_below
  pairs_none = refl

  pub pairs_more : (j : ℕ) → pairs_below n (j + 1) ≡ pairs_below n j ++ row n j j
  unfolding pairs_below
  pairs_more j = rw (add-one j)
