-- What an answer of `derive` is: the netlist was read, the set is in the family, its derivation fits; so the slice that
-- it is copied to is a certificate, and beyond it as it was. A refusal leaves the slice as it was. Assumes nothing.
use Rattle.std.specs.Prelude.{Ok, Err}
use Prim.Native.Nat.{ℕ, ◌*◌, ◌/◌, ◌≤◌, ◌<◌}
use mathlib.Core.Path.{◌≡◌, refl, sym, ◌∙◌}
use mathlib.Core.Bool.{Bool, true, false, not, cond}
use mathlib.Core.List.{List, ◌++◌}
use native.Mathlib.Omega.{arith}
use borrow.Author.Tests.{leb-false, ltb-true, ltb-false, not-false}
use lib.Dec.{T, ltb, ltb→lt}
use lib.ListN.{length, take, drop}
use lib.Seq.{take_at}
use Rattle.rules.specs.Records.{Netlist}
use Rattle.rules.specs.Checks.{Outcome, answered, refused, and_then, read, node_check, queried_with}
use Rattle.rules.specs.Slices.{filled}
use Rattle.rules.specs.Paper.{number_of, place_of}
use Rattle.rules.specs.declared.Refusal.{Refusal}
use Rattle.rule_laws.proofs.Tests.{pass, and_left, and_right}
use Rattle.rule_laws.proofs.Records.{passes, answer}
use Rattle.rule_laws.proofs.Reading.{read_well_formed}
use Rattle.derivation_rules.specs.Derivations.{step_size, steps_out, layer_of, in_family, derived, set_check, most_steps, fitting, explainable, derivable, steps_reply, steps_after, Certificate}
use Rattle.derivation_rules.proofs.Follows.{derivation_follows, out_length}
use Rattle.derivations.specs.Written.{derivable_in, Told}
use Rattle.derivations.proofs.Told.{derivable_in_lem}

-- ---- an answer

-- an outcome that leads to an answer is one
leads : {A B : Type 0} (o : Outcome A) (f : A → Outcome B) (b : B) → and_then o f ≡ answered b → (a : A) × (o ≡ answered a) × (f a ≡ answered b)
unfolding and_then
leads (answered a) f b e = (a, refl, e)
leads (refused k p) f b e = let no : ◌≡◌ {A = ℕ} 0 1 = cc in absurd (omega arith)

-- a query of a node and a set that stands
queried_says : (file : List ℕ) (i A : ℕ) (n : Netlist) → queried_with file i A ≡ answered n → (read file ≡ answered n) × (i < length n.nodes)
unfolding queried_with node_check
queried_says file i A n e =
    let (m, is, checks) = leads (read file) _ n e in
    let same = answer _ m n checks in
    (rw (← same) is, rw (← same) (leb-false _ _ (passes _ m n checks 0)))

module _ (file : List ℕ) (i k A room : ℕ) (n : Netlist) (is : derivable file i k A room ≡ answered n) where
  says : (read file ≡ answered n) × (i < length n.nodes) × T (in_family n i k A)
  unfolding derivable explainable set_check
  says =
      let (m, query, checks) = leads (queried_with file i A) _ n is in
      let same = answer _ m n checks in
      let (was_read, there) = queried_says file i A n (rw (← same) query) in
      let holds : not (in_family n i k A) ≡ false = rw (← same) (passes _ m n checks 0) in
      (was_read, there, pass (not-false (in_family n i k A) holds))

  -- the steps of an answer, at the front of a slice, are a certificate
  pub certificate : (slice rest : List ℕ) → slice ≡ steps_out (derived n i k A) ++ rest → Certificate file i k A (length (derived n i k A)) slice
  unfolding in_family derived
  certificate slice rest front =
      let (was_read, there, holds) = says in
      record {
        netlist = n;
        is = was_read;
        low = ltb→lt k 2 (and_left (ltb k 2) _ holds);
        steps = derived n i k A;
        many = refl;
        written = rw front (take_at _ rest _ (out_length (derived n i k A)));
        follows = derivation_follows n (read_well_formed file n was_read) i there (layer_of k) A (and_right (ltb k 2) _ holds);
      }

-- ---- the slice at exit

-- how many steps a slice takes
pub fitting_few : (bytes : ℕ) → (fitting bytes ≤ most_steps) × (step_size * fitting bytes ≤ bytes)
unfolding fitting
fitting_few bytes = go (ltb most_steps (bytes / step_size)) refl
  where
    go : (b : Bool) → ltb most_steps (bytes / step_size) ≡ b
        → (cond b most_steps (bytes / step_size) ≤ most_steps) × (step_size * cond b most_steps (bytes / step_size) ≤ bytes)
    go true e = (omega arith, omega (arith, ltb-true most_steps (bytes / step_size) e))
    go false e = (ltb-false _ _ e, omega arith)

module _ (outcome : Outcome Netlist) (i k A : ℕ) (before found : List ℕ) where
  -- a refusal leaves it as it was
  pub slice_kept : {refusal : Refusal} → Told outcome i k A (fitting (length before)) (Err refusal) found
      → before ≡ filled (λ n. steps_out (derived n i k A)) outcome before
  unfolding filled and_then
  slice_kept {refusal} told = go outcome told.reply
    where
      go : (o : Outcome Netlist) → refused (number_of refusal) (place_of refusal) ≡ and_then o (λ n. answered (length (derived n i k A)))
          → before ≡ filled (λ n. steps_out (derived n i k A)) o before
      go (answered n) e = let no : ◌≡◌ {A = ℕ} 0 1 = cc in absurd (omega arith)
      go (refused number place) e = refl

  -- an answer: the steps, and beyond them what stood there
  module _ {count : ℕ} (told : Told outcome i k A (fitting (length before)) (Ok count) found) where
    answer_of : (n : Netlist) × (outcome ≡ answered n) × (length (derived n i k A) ≡ count)
    answer_of = let (n, from, e) = leads outcome _ count (sym told.reply) in (n, from, cc e)

    pub count_few : count ≤ fitting (length before)
    count_few = let (n, from, many) = answer_of in rw many at (told.few n from)

    pub slice_written : (after : List ℕ) → after ≡ take (step_size * count) found ++ drop (step_size * count) before
        → after ≡ filled (λ n. steps_out (derived n i k A)) outcome before
    unfolding filled
    slice_written after copied = let (n, from, many) = answer_of in rw (from, out_length (derived n i k A)) (go n from many)
      where
        go : (n : Netlist) → outcome ≡ answered n → length (derived n i k A) ≡ count
            → after ≡ steps_out (derived n i k A) ++ drop (step_size * length (derived n i k A)) before
        go n from many = rw (copied, ← many, told.bytes n from)

-- ---- what is promised

-- of netlist bytes that are read as a netlist: the reply, and the slice at exit
module _ (file : List ℕ) (n : Netlist) (is : read file ≡ answered n) (i k A : ℕ) (before : List ℕ) where
  pub reply_read : (said : Outcome ℕ) → said ≡ and_then (derivable_in n i k A (fitting (length before))) (λ n. answered (length (derived n i k A)))
      → said ≡ steps_reply file i k A (length before)
  unfolding steps_reply
  reply_read said e = rw (derivable_in_lem n i k A (fitting (length before)) file is) e

  pub slice_read : (after : List ℕ) → after ≡ filled (λ n. steps_out (derived n i k A)) (derivable_in n i k A (fitting (length before))) before
      → after ≡ steps_after file i k A before
  unfolding steps_after
  slice_read after e = rw (derivable_in_lem n i k A (fitting (length before)) file is) e

-- of a query that is refused
pub query_refused : (file : List ℕ) (i k A number place : ℕ) → queried_with file i A ≡ refused number place → (before : List ℕ)
    → (refused number place ≡ steps_reply file i k A (length before)) × (before ≡ steps_after file i k A before)
unfolding steps_reply steps_after derivable filled and_then
query_refused file i k A number place e before = (rw e, rw e)

-- no refusal is an answer
pub no_answer : {number place count : ℕ} → refused number place ≡ answered count → ⊥
no_answer e = let no : ◌≡◌ {A = ℕ} 0 1 = cc in absurd (omega arith)

-- a reply and a slice at exit, where they are those of netlist bytes, are a certificate
pub certified : (file : List ℕ) (i k A : ℕ) (before after : List ℕ) (said : Outcome ℕ) → said ≡ steps_reply file i k A (length before)
    → after ≡ steps_after file i k A before → (count : ℕ) → said ≡ answered count → Certificate file i k A count after
unfolding steps_reply steps_after filled
certified file i k A before after said reply slice count is =
    let (n, from, e) = leads (derivable file i k A (fitting (length before))) _ count (sym reply ∙ is) in
    let same : length (derived n i k A) ≡ count = cc e in
    rw (← same) (certificate file i k A _ n from after _ (rw from at slice))
