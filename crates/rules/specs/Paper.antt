-- What the enums that are answers mean in document 01: for each case its number and values.
-- Promises use these. Assumes nothing.
use Rattle.std.specs.Prelude.{ℕ, Bool, List, Result, Ok, Err}
use Rattle.rules.specs.declared.Half.{Half}
use Rattle.rules.specs.declared.Half.TheVariants.{Clear, Suspect}
use Rattle.rules.specs.declared.Answer.{Answer}
use Rattle.rules.specs.declared.Reason.{Reason}
use Rattle.rules.specs.declared.Refusal.{Refusal}
use Rattle.rules.specs.declared.ValueReply.{ValueReply}
use Rattle.rules.specs.declared.FeedingReply.{FeedingReply}
use Rattle.rules.specs.declared.MembershipReply.{MembershipReply}
use Rattle.rules.specs.Families.{Finding, clear, suspect_at, Findings}
use Rattle.rules.specs.Checks.{Outcome, answered, refused}
use Rattle.rules.specs.Queries.{Given, Memberships}

-- a reason's number, in document 01 and the requests
abbrev pub reason_number : Reason → ℕ
reason_number Reason.UnknownKind = 1
reason_number Reason.LateVariable = 2
reason_number Reason.OverLimit = 3
reason_number Reason.CutShort = 4
reason_number Reason.UnknownClass = 5
reason_number Reason.UndeclaredSet = 6
reason_number Reason.BadOperand = 7
reason_number Reason.NoEnd = 8
reason_number Reason.BytesAfterEnd = 9
reason_number Reason.FewEntries = 10
reason_number Reason.ShortWork = 11
reason_number Reason.NoSuchNode = 12
reason_number Reason.UndeclaredBit = 13
reason_number Reason.StillNamed = 14
reason_number Reason.TooManySteps = 15
reason_number Reason.NotInFamily = 16

-- a refusal's number and place
abbrev pub number_of : Refusal → ℕ
number_of r = reason_number r.reason

abbrev pub place_of : Refusal → ℕ
place_of r = r.place

-- a half: clear, or node and set
abbrev pub finding_of : Half → Finding
finding_of Clear = clear
finding_of (Suspect i A) = suspect_at i A

-- the answer's counts and halves
abbrev pub findings_of : Answer → Findings
findings_of a = record {
  variables = a.variables;
  nodes = a.nodes;
  settled = finding_of a.settled;
  glitch = finding_of a.glitch;
}

-- a result: what is answered, as a meaning of its values has it, or the refusal
abbrev pub outcome_by : {A B : Type 0} → (A → B) → Result A Refusal → Outcome B
outcome_by meaning (Ok a) = answered (meaning a)
outcome_by meaning (Err r) = refused (number_of r) (place_of r)

-- the whole reply
abbrev pub reply_of : Result Answer Refusal → Outcome Findings
reply_of = outcome_by findings_of

-- whether a query is answered
abbrev pub query_of : Result (Unit {0}) Refusal → Outcome (Unit {0})
query_of = outcome_by (λ u. u)

-- the whole reply to each query
abbrev pub value_of : ValueReply → Given Bool
value_of r = record { outcome = query_of r.outcome; gives = r.value }

abbrev pub feeding_of : FeedingReply → Given (List Bool)
feeding_of r = record { outcome = query_of r.outcome; gives = r.marks }

abbrev pub membership_of : MembershipReply → Given Memberships
membership_of r = record { outcome = query_of r.outcome; gives = record { settled = r.settled; glitch = r.glitch } }
