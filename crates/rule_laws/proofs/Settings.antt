-- The settings of k variables are the 2 to the power k lists of k bits, each once; an assignment and its three settings
-- make one another. By induction on the number of variables, or on their list. Assumes nothing.
use Prim.Native.Nat.{ℕ, zero, suc, ◌+◌, ◌^◌}
use mathlib.Core.Path.{◌≡◌, refl, sym, ap, ◌∙◌}
use mathlib.Core.Logic.{◌≢◌}
use mathlib.Core.Bool.{Bool, true, false, ◌&&◌, cond, beq}
use mathlib.Core.List.{List, [], ◌∷◌}
use native.Mathlib.Nat.{two-pow-succ}
use native.Mathlib.Omega.{arith}
use lib.Dec.{T, eqb, eqb→eq, eqb_refl, eqb-zero-suc, eqb-suc-zero, eqb-suc-suc}
use lib.ListN.{length, length-append, length-map}
use Rattle.rules.specs.Lists.{digit, count}
use Rattle.rules.specs.Records.{Class, secret, mask, public}
use Rattle.rule_laws.proofs.Lists.{count_append, count_map, count_constant}
use Rattle.rules.specs.Values.{Assignment, same, how_many, settings, next, others, make}

-- ---- the settings of k variables

pub settings_length : (k : ℕ) → length (settings k) ≡ 2 ^ k
unfolding settings
settings_length zero = refl
settings_length (suc k) = simp (length-append, length-map, settings_length k, two-pow-succ)

-- whether two settings are the same
abbrev pub alike : List Bool → List Bool → Bool
alike [] [] = true
alike [] (b ∷ t) = false
alike (a ∷ s) [] = false
alike (a ∷ s) (b ∷ t) = beq a b && alike s t

-- it decides whether they are equal
pub alike_refl : (s : List Bool) → T (alike s s)
alike_refl [] = tt
alike_refl (true ∷ s) = alike_refl s
alike_refl (false ∷ s) = alike_refl s

pub alike→eq : (s t : List Bool) → T (alike s t) → s ≡ t
alike→eq [] [] h = refl
alike→eq [] (b ∷ t) h = absurd h
alike→eq (a ∷ s) [] h = absurd h
alike→eq (true ∷ s) (true ∷ t) h = ap {B = List Bool} (λ r. true ∷ r) (alike→eq s t h)
alike→eq (true ∷ s) (false ∷ t) h = absurd h
alike→eq (false ∷ s) (true ∷ t) h = absurd h
alike→eq (false ∷ s) (false ∷ t) h = ap {B = List Bool} (λ r. false ∷ r) (alike→eq s t h)

-- a count over the settings of one more variable: those that begin with 0, and those that begin with 1
pub settings_more : (test : List Bool → Bool) (k : ℕ)
    → count test (settings (suc k)) ≡ count (λ s. test (false ∷ s)) (settings k) + count (λ s. test (true ∷ s)) (settings k)
unfolding settings
settings_more test k = simp (count_append, count_map)

-- a setting is counted once where it has the length, and not otherwise
settings_count : (s : List Bool) (k : ℕ) → count (alike s) (settings k) ≡ digit (eqb (length s) k)
unfolding count settings
settings_count [] zero = refl
settings_count [] (suc k) = omega (arith, settings_more (alike []) k, count_constant false (settings k), ap digit (eqb-zero-suc k))
settings_count (a ∷ s) zero = sym (ap digit (eqb-suc-zero (length s)))
settings_count (a ∷ s) (suc k) =
    settings_more (alike (a ∷ s)) k ∙ either a ∙ settings_count s k ∙ sym (ap digit (eqb-suc-suc (length s) k))
  where
    either : (a : Bool)
        → count (λ t. alike (a ∷ s) (false ∷ t)) (settings k) + count (λ t. alike (a ∷ s) (true ∷ t)) (settings k) ≡ count (alike s) (settings k)
    either true = omega (arith, count_constant false (settings k))
    either false = omega (arith, count_constant false (settings k))

-- each setting is there once, and nothing else is
pub settings_once : (s : List Bool) → count (alike s) (settings (length s)) ≡ 1
settings_once s = settings_count s (length s) ∙ passed (eqb (length s) (length s)) (eqb_refl (length s))
  where
    passed : (b : Bool) → T b → digit b ≡ 1
    passed true h = refl
    passed false h = absurd h

pub settings_only : (k : ℕ) (s : List Bool) → length s ≢ k → count (alike s) (settings k) ≡ 0
settings_only k s h = settings_count s k ∙ failed (eqb (length s) k) (λ e. h (eqb→eq (length s) k e))
  where
    failed : (b : Bool) → (T b → ⊥) → digit b ≡ 0
    failed true f = absurd (f tt)
    failed false f = refl

-- ---- an assignment and its three settings

-- the setting of a class that an assignment holds
unfoldable pub part : Class → List Class → Assignment → List Bool
part class [] x = []
part class (c ∷ variables) x = cond (same class c) (next x ∷ part class variables (others x)) (part class variables (others x))

-- the parts of an assignment have the lengths of the classes, and what settings make has the length of the variables
pub part_length : (class : Class) (variables : List Class) (x : List Bool) → length (part class variables x) ≡ how_many class variables
unfolding part how_many count
part_length class [] x = refl
part_length class (c ∷ variables) x = go (same class c) (part class variables (others x)) (part_length class variables (others x))
  where
    go : (b : Bool) (r : List Bool) {n : ℕ} → length r ≡ n → length (cond b (next x ∷ r) r) ≡ digit b + n
    go true r e = omega arith
    go false r e = omega arith

pub make_length : (variables : List Class) (s m p : List Bool) → length (make variables s m p) ≡ length variables
unfolding make
make_length [] s m p = refl
make_length (secret ∷ variables) s m p = ap suc (make_length variables (others s) m p)
make_length (mask ∷ variables) s m p = ap suc (make_length variables s (others m) p)
make_length (public ∷ variables) s m p = ap suc (make_length variables s m (others p))

-- an assignment is what its three settings make
pub make_parts : (variables : List Class) (x : List Bool) → length x ≡ length variables
    → make variables (part secret variables x) (part mask variables x) (part public variables x) ≡ x
unfolding make part same next others
make_parts [] [] h = refl
make_parts [] (b ∷ x) h = absurd (omega arith)
make_parts (c ∷ variables) [] h = absurd (omega arith)
make_parts (secret ∷ variables) (b ∷ x) h = ap {B = List Bool} (λ r. b ∷ r) (make_parts variables x (omega arith))
make_parts (mask ∷ variables) (b ∷ x) h = ap {B = List Bool} (λ r. b ∷ r) (make_parts variables x (omega arith))
make_parts (public ∷ variables) (b ∷ x) h = ap {B = List Bool} (λ r. b ∷ r) (make_parts variables x (omega arith))

-- of three settings the one of the class
abbrev pub one_of : Class → (secrets masks publics : List Bool) → List Bool
one_of secret s m p = s
one_of mask s m p = m
one_of public s m p = p

none_left : (s : List Bool) → length s ≡ 0 → [] ≡ s
none_left [] h = refl
none_left (b ∷ s) h = absurd (omega arith)

one_taken : (s r : List Bool) (n : ℕ) → length s ≡ 1 + n → (length (others s) ≡ n → r ≡ others s) → next s ∷ r ≡ s
unfolding next others
one_taken [] r n h e = absurd (omega arith)
one_taken (b ∷ s) r n h e = ap {B = List Bool} (λ t. b ∷ t) (e (omega arith))

-- what settings of the right length make has them for its parts
pub part_make : (class : Class) (variables : List Class) (s m p : List Bool) → length (one_of class s m p) ≡ how_many class variables
    → part class variables (make variables s m p) ≡ one_of class s m p
unfolding make part same how_many count next others
part_make class [] s m p h = none_left (one_of class s m p) h
part_make secret (secret ∷ v) s m p h = one_taken s _ (how_many secret v) h (part_make secret v (others s) m p)
part_make secret (mask ∷ v) s m p h = part_make secret v s (others m) p (omega arith)
part_make secret (public ∷ v) s m p h = part_make secret v s m (others p) (omega arith)
part_make mask (secret ∷ v) s m p h = part_make mask v (others s) m p (omega arith)
part_make mask (mask ∷ v) s m p h = one_taken m _ (how_many mask v) h (part_make mask v s (others m) p)
part_make mask (public ∷ v) s m p h = part_make mask v s m (others p) (omega arith)
part_make public (secret ∷ v) s m p h = part_make public v (others s) m p (omega arith)
part_make public (mask ∷ v) s m p h = part_make public v s (others m) p (omega arith)
part_make public (public ∷ v) s m p h = one_taken p _ (how_many public v) h (part_make public v s m (others p))
