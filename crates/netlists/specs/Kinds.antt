-- The kinds of record and the classes of variables by their numbers. Cited by this crate's contracts and its callers'.
-- Assumes nothing.
use Rattle.std.specs.Prelude.{ℕ, ◌≡◌, ◌<◌, Result, MatchResult}
use Rattle.rules.specs.Records.{last_kind, class_byte}
use Rattle.rules.specs.Records as R
use Rattle.netlists.specs.declared.Kind.{Kind}
use Rattle.netlists.specs.declared.Kind.TheVariants.{End, Variable, Input, Not, Xor, And, Or, Register}
use Rattle.netlists.specs.declared.UnknownKind.{UnknownKind}
use Rattle.netlists.specs.declared.Class.{Class}
use Rattle.netlists.specs.declared.Class.TheVariants.{Secret, Mask, Public}
use Rattle.netlists.specs.declared.UnknownClass.{UnknownClass}

-- the number of a kind, in document 01
abbrev pub byte_of : Kind → ℕ
byte_of End = 0
byte_of Variable = 1
byte_of Input = 2
byte_of Not = 3
byte_of Xor = 4
byte_of And = 5
byte_of Or = 6
byte_of Register = 7

-- the kind with this number, or the number where it is above the last
abbrev pub Numbers : ℕ → Result Kind UnknownKind → Type 0
Numbers number r = MatchResult r (λ kind. byte_of kind ≡ number) (λ e. (e.0 ≡ number) × (last_kind < number))

-- the class of document 01, and the class with this number, or the number where it is above 2
abbrev pub class_in : Class → R.Class
class_in Secret = R.secret
class_in Mask = R.mask
class_in Public = R.public

abbrev pub Classes : ℕ → Result Class UnknownClass → Type 0
Classes number r = MatchResult r (λ class. class_byte (class_in class) ≡ number) (λ e. (e.0 ≡ number) × (2 < number))
