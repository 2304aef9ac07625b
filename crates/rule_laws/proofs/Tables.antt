-- Laws of tables, over the entries' type, the nodes' type and the step: length, append, one node more, the first nodes;
-- the entries so far are kept, and each entry is the step from those before it, whatever nodes come later.
-- Assumes nothing.
use Prim.Native.Nat.{ℕ, zero, suc, ◌+◌, ◌≤◌, ◌<◌}
use mathlib.Core.Path.{◌≡◌, refl, sym, ap, ◌∙◌, subst}
use mathlib.Core.List.{List, [], ◌∷◌, ◌++◌, append_assoc, append-nil}
use native.Mathlib.Nat.{add-zero, zero-add, not-suc-le-zero, le_of_suc-le-suc}
use native.Mathlib.Decide.{dec_le}
use native.Mathlib.Numerals.{add-one}
use native.Mathlib.Omega.{arith}
use lib.ListN.{length, get_or, take, drop, length-append, take-append-drop}
use lib.Seq.{take_at, take_all, take-suc, length-take-le, get_or_at}
use Rattle.rules.specs.Tables.{table}

module _ {ℓ κ} {A : Type ℓ} {B : Type κ} (step : List A → B → A) where
  pub table_length : (done : List A) (nodes : List B) → length (table step done nodes) ≡ length done + length nodes
  unfolding table
  table_length done [] = sym (add-zero (length done))
  table_length done (b ∷ nodes) =
      omega (arith, table_length (done ++ (step done b ∷ [])) nodes, length-append done (step done b ∷ []))

  pub table_append : (done : List A) (nodes more : List B) → table step done (nodes ++ more) ≡ table step (table step done nodes) more
  unfolding table
  table_append done [] more = refl
  table_append done (b ∷ nodes) more = table_append (done ++ (step done b ∷ [])) nodes more

  -- the entries so far stand first
  pub table_keeps : (done : List A) (nodes : List B) → (rest : List A) × (table step done nodes ≡ done ++ rest)
  unfolding table
  table_keeps done [] = ([], sym (append-nil done))
  table_keeps done (b ∷ nodes) =
      let more = table_keeps (done ++ (step done b ∷ [])) nodes in
      (step done b ∷ more.0, more.1 ∙ append_assoc done (step done b ∷ []) more.0)

  -- one node more is one entry more
  pub table_snoc : (nodes : List B) (b : B) → table step [] (nodes ++ (b ∷ [])) ≡ table step [] nodes ++ (step (table step [] nodes) b ∷ [])
  unfolding table
  table_snoc nodes b = table_append [] nodes (b ∷ [])

  -- those of the first i nodes: as many, and one more for the next node
  pub first_length : (nodes : List B) (i : ℕ) → i ≤ length nodes → length (table step [] (take i nodes)) ≡ i
  first_length nodes i h = omega (arith, table_length [] (take i nodes), length-take-le i nodes h)

  pub first_next : (nodes : List B) (i : ℕ) (b : B) → i < length nodes
      → table step [] (take i nodes) ++ (step (table step [] (take i nodes)) (get_or nodes i b) ∷ []) ≡ table step [] (take (i + 1) nodes)
  first_next nodes i b h = rw (add-one i, take-suc nodes i b h) (sym (table_snoc (take i nodes) (get_or nodes i b)))

  -- the first entries are those of the first nodes
  pub table_take : (nodes : List B) (k : ℕ) → take k (table step [] nodes) ≡ table step [] (take k nodes)
  table_take nodes k = go (dec_le k (length nodes))
    where
      first : List A
      first = table step [] (take k nodes)

      all : table step [] nodes ≡ table step first (drop k nodes)
      all = ap (table step []) (sym (take-append-drop k nodes)) ∙ table_append [] (take k nodes) (drop k nodes)

      go : Dec (k ≤ length nodes) → take k (table step [] nodes) ≡ first
      go (yes h) =
          let (rest, kept) = table_keeps first (drop k nodes) in
          rw (all, kept) (take_at first rest k (first_length nodes k h))
      go (no h) = rw (take_all k nodes (omega arith)) (take_all k _ (omega (arith, table_length [] nodes)))

  -- from the entries `done` on, the entry of node i is the step from all those before it
  entry_from : (done : List A) (nodes : List B) (i : ℕ) (a : A) (b : B) → i < length nodes
      → get_or (table step done nodes) (length done + i) a ≡ step (take (length done + i) (table step done nodes)) (get_or nodes i b)
  unfolding table
  entry_from done [] i a b h = absurd (not-suc-le-zero h)
  entry_from done (c ∷ nodes) zero a b h = go (table_keeps (done ++ (step done c ∷ [])) nodes)
    where
      t : List A
      t = table step (done ++ (step done c ∷ [])) nodes

      go : (rest : List A) × (t ≡ (done ++ (step done c ∷ [])) ++ rest) → get_or t (length done + 0) a ≡ step (take (length done + 0) t) c
      go (rest, e) =
          rw (add-zero (length done), e, append_assoc done (step done c ∷ []) rest)
          (get_or_at done (step done c) rest a (length done) refl
          ∙ ap (λ (l : List A). step l c) (sym (take_at done (step done c ∷ rest) (length done) refl)))
  entry_from done (c ∷ nodes) (suc i) a b h =
      subst
      (λ (k : ℕ). get_or (table step (done ++ (step done c ∷ [])) nodes) k a
      ≡ step (take k (table step (done ++ (step done c ∷ [])) nodes)) (get_or nodes i b))
      (omega (arith, length-append done (step done c ∷ [])))
      (entry_from (done ++ (step done c ∷ [])) nodes i a b (le_of_suc-le-suc h))

  -- each entry is the step from those before it
  pub table_entry : (nodes : List B) (i : ℕ) (a : A) (b : B) → i < length nodes
      → get_or (table step [] nodes) i a ≡ step (take i (table step [] nodes)) (get_or nodes i b)
  table_entry nodes i a b h =
      subst (λ (k : ℕ). get_or (table step [] nodes) k a ≡ step (take k (table step [] nodes)) (get_or nodes i b)) (zero-add i)
      (entry_from [] nodes i a b h)
