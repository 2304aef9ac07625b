-- The definitions of the paper's numbers and values lose nothing: a refusal is told by its number and place,
-- and a reply by what it says. So a promise about what a reply says determines the reply. Assumes nothing.
use Rattle.std.specs.Prelude.{Result, Ok, Err}
use Prim.Native.Nat.{ℕ, suc, ◌≤◌}
use mathlib.Core.Path.{◌≡◌, refl, sym, ap, ap₂, ◌∙◌}
use mathlib.Core.Logic.{inl, inr}
use mathlib.Core.List.{List, [], ◌∷◌}
use native.Mathlib.Omega.{arith}
use denote.Struct.Field.{Field}
use denote.Enum.Declared.{Choice, values_one}
use Rattle.rules.specs.declared.Half.{Half}
use Rattle.rules.specs.declared.Half.TheVariants.{Clear, Suspect}
use Rattle.rules.specs.declared.Answer.{Answer}
use Rattle.rules.specs.declared.Reason.{Reason}
use Rattle.rules.specs.declared.Refusal.{Refusal}
use Rattle.rules.specs.declared.ValueReply.{ValueReply}
use Rattle.rules.specs.declared.FeedingReply.{FeedingReply}
use Rattle.rules.specs.declared.MembershipReply.{MembershipReply}
use Rattle.rules.specs.Families.{Finding, clear, suspect_at, Findings}
use Rattle.rules.specs.Checks.{Outcome, answered, refused, and_then}
use Rattle.rules.specs.Paper.{reason_number, number_of, place_of, finding_of, findings_of, outcome_by, reply_of, query_of, value_of, feeding_of, membership_of}
use Rattle.rules.specs.contracts.Reason.{the_parts as parts, as_values, the_make as make, the_eta as eta, enum}

-- choices of variants that hold nothing, with a number each, counted on from k
Counted : (Fss : List (List Field)) → (Choice Fss → ℕ) → ℕ → Type 0
Counted [] f k = Unit {0}
Counted ([] ∷ Fss) f k = (f (inl tt) ≡ k) × Counted Fss (λ c. f (inr c)) (suc k)
Counted ((F ∷ Fs) ∷ Fss) f k = ⊥

counted_from : (Fss : List (List Field)) (f : Choice Fss → ℕ) (k : ℕ) → Counted Fss f k → (c : Choice Fss) → k ≤ f c
unfolding Counted
counted_from [] f k on c = absurd c
counted_from ([] ∷ Fss) f k (here, on) (inl u) = omega arith
counted_from ([] ∷ Fss) f k (here, on) (inr c) = omega (arith, counted_from Fss (λ c. f (inr c)) (suc k) on c)
counted_from ((F ∷ Fs) ∷ Fss) f k on c = absurd on

-- such a number tells the choice
counted_one : (Fss : List (List Field)) (f : Choice Fss → ℕ) (k : ℕ) → Counted Fss f k → (c e : Choice Fss) → f c ≡ f e → c ≡ e
unfolding Counted
counted_one [] f k on c e p = absurd c
counted_one ([] ∷ Fss) f k (here, on) (inl u) (inl v) p = refl
counted_one ([] ∷ Fss) f k (here, on) (inl u) (inr e) p = absurd (omega (arith, counted_from Fss (λ c. f (inr c)) (suc k) on e))
counted_one ([] ∷ Fss) f k (here, on) (inr c) (inl v) p = absurd (omega (arith, counted_from Fss (λ c. f (inr c)) (suc k) on c))
counted_one ([] ∷ Fss) f k (here, on) (inr c) (inr e) p = ap inr (counted_one Fss (λ c. f (inr c)) (suc k) on c e p)
counted_one ((F ∷ Fs) ∷ Fss) f k on c e p = absurd on

-- the reasons are counted from 1 on
counted : Counted parts (λ c. reason_number (make c)) 1
unfolding Counted
counted = omega arith

-- so they are told by their number
same_reason : (r q : Reason) → reason_number r ≡ reason_number q → r ≡ q
same_reason r q e = values_one enum r q (counted_one parts (λ c. reason_number (make c)) 1 counted (as_values r) (as_values q) (rw (eta r, eta q) e))

-- and a refusal by its number and place
pub same_refusal : {A : Type 0} (r q : Refusal) → ◌≡◌ {A = Outcome A} (refused (number_of r) (place_of r)) (refused (number_of q) (place_of q)) → r ≡ q
same_refusal r q e = ap₂ (λ a p. record { reason = a; place = p }) (same_reason r.reason q.reason (cc)) (cc)

-- a half by what it says
half_of : Finding → Half
half_of clear = Clear
half_of (suspect_at i A) = Suspect i A

half_told : (h : Half) → half_of (finding_of h) ≡ h
unfolding half_of
half_told Clear = refl
half_told (Suspect i A) = refl

-- an answer by what it says
answer_saying : Findings → Answer
answer_saying a = record { variables = a.variables; nodes = a.nodes; settled = half_of a.settled; glitch = half_of a.glitch }

answer_told : (a : Answer) → answer_saying (findings_of a) ≡ a
unfolding answer_saying
answer_told a =
    ap₂ (λ (s g : Half). record { variables = a.variables; nodes = a.nodes; settled = s; glitch = g }) (half_told a.settled) (half_told a.glitch)

pub same_answer : (a b : Answer) → findings_of a ≡ findings_of b → a ≡ b
same_answer a b e = sym (answer_told a) ∙ ap answer_saying e ∙ answer_told b

-- a result by what it says, where that tells its values
pub same_result : {A B : Type 0} (meaning : A → B) → ((a b : A) → meaning a ≡ meaning b → a ≡ b)
    → (r q : Result A Refusal) → outcome_by meaning r ≡ outcome_by meaning q → r ≡ q
same_result meaning same (Err r) (Err q) e = ap Err (same_refusal r q e)
same_result meaning same (Err r) (Ok b) e = cc
same_result meaning same (Ok a) (Err q) e = cc
same_result meaning same (Ok a) (Ok b) e = ap Ok (same a b (cc))

-- a reply, and the reply to a query
pub same_reply : (r q : Result Answer Refusal) → reply_of r ≡ reply_of q → r ≡ q
same_reply = same_result findings_of same_answer

same_query : (r q : Result (Unit {0}) Refusal) → query_of r ≡ query_of q → r ≡ q
same_query = same_result (λ u. u) (λ u v e. e)

pub same_value : (r q : ValueReply) → value_of r ≡ value_of q → r ≡ q
same_value r q e = ap₂ (λ o v. record { outcome = o; value = v }) (same_query _ _ (ap (λ g. g.outcome) e)) (ap (λ g. g.gives) e)

pub same_feeding : (r q : FeedingReply) → feeding_of r ≡ feeding_of q → r ≡ q
same_feeding r q e = ap₂ (λ o m. record { outcome = o; marks = m }) (same_query _ _ (ap (λ g. g.outcome) e)) (ap (λ g. g.gives) e)

pub same_membership : (r q : MembershipReply) → membership_of r ≡ membership_of q → r ≡ q
same_membership r q e =
    ap₂ (λ o m. record { outcome = o; settled = m.settled; glitch = m.glitch }) (same_query _ _ (ap (λ g. g.outcome) e)) (ap (λ g. g.gives) e)

-- what is answered or refused, where it tells of this outcome and is refused: so is the outcome
pub query_refused : {A : Type 0} {told : Result (Unit {0}) Refusal} (o : Outcome A) (refusal : Refusal) → query_of told ≡ and_then o (λ a. answered tt)
    → told ≡ Err refusal → o ≡ refused (number_of refusal) (place_of refusal)
unfolding and_then
query_refused (answered a) refusal e is = cc (ap query_of is)
query_refused (refused k p) refusal e is = cc (ap query_of is)
