-- What the number of a kind says of it. By its cases. Assumes nothing.
use Prim.Native.Nat.{ℕ, zero, suc, ◌≤◌}
use mathlib.Core.Path.{◌≡◌, refl, sym, ap, ◌∙◌}
use native.Mathlib.Omega.{arith}
use Rattle.rules.specs.Records.{last_kind}
use Rattle.netlists.specs.declared.Kind.{Kind}
use Rattle.netlists.specs.declared.Kind.TheVariants.{End, Variable, Input, Not, Xor, And, Or, Register}
use Rattle.netlists.specs.Kinds.{byte_of}

-- it is at most the last
pub last_byte : (k : Kind) → byte_of k ≤ last_kind
last_byte End = omega arith
last_byte Variable = omega arith
last_byte Input = omega arith
last_byte Not = omega arith
last_byte Xor = omega arith
last_byte And = omega arith
last_byte Or = omega arith
last_byte Register = omega arith

-- a kind that is neither the end's nor a variable's is a node's
pub node_byte : (k : Kind) → (k ≡ End → ⊥) → (k ≡ Variable → ⊥) → 2 ≤ byte_of k
node_byte End e v = absurd (e refl)
node_byte Variable e v = absurd (v refl)
node_byte Input e v = omega arith
node_byte Not e v = omega arith
node_byte Xor e v = omega arith
node_byte And e v = omega arith
node_byte Or e v = omega arith
node_byte Register e v = omega arith

-- no two kinds have the same number: each is read back off its own
kind_at : ℕ → Kind
kind_at zero = End
kind_at (suc zero) = Variable
kind_at (suc (suc zero)) = Input
kind_at (suc (suc (suc zero))) = Not
kind_at (suc (suc (suc (suc zero)))) = Xor
kind_at (suc (suc (suc (suc (suc zero))))) = And
kind_at (suc (suc (suc (suc (suc (suc zero)))))) = Or
kind_at (suc (suc (suc (suc (suc (suc (suc k))))))) = Register

kind_back : (k : Kind) → kind_at (byte_of k) ≡ k
unfolding kind_at
kind_back End = refl
kind_back Variable = refl
kind_back Input = refl
kind_back Not = refl
kind_back Xor = refl
kind_back And = refl
kind_back Or = refl
kind_back Register = refl

pub one_kind : (k m : Kind) → byte_of k ≡ byte_of m → k ≡ m
one_kind k m e = sym (kind_back k) ∙ ap kind_at e ∙ kind_back m

-- so only an input has number 2, only a variable number 1
pub input_byte : (k : Kind) → byte_of k ≡ 2 → k ≡ Input
input_byte k e = one_kind k Input e

pub variable_byte : (k : Kind) → byte_of k ≡ 1 → k ≡ Variable
variable_byte k e = one_kind k Variable e
