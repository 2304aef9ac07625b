-- Laws of operands, however many: as a list, as the first bytes of a body, renamed, and under a rule, which sees
-- nothing of them but their entries; and what is known of every kind. All else that is proved of nodes goes by these
-- and by `operands`. Assumes nothing.
use Prim.Native.Nat.{ℕ, zero, suc, ◌≤◌, ◌<◌}
use mathlib.Core.Path.{◌≡◌, refl, sym, ap, ap₂, ◌∙◌}
use mathlib.Core.List.{List, [], ◌∷◌, ◌++◌, map}
use native.Mathlib.Omega.{arith}
use lib.Dec.{T}
use lib.ListN.{length, get_or, take, get_or-eq_default}
use Rattle.rules.specs.Lists.{member}
use Rattle.rules.specs.Records.{Kind, NOT, XOR, AND, OR, register, kinds, kind_number, operand_count, last_kind, most_body}
use Rattle.rules.specs.Records.{Operands, listed, first_of, renamed_all, Rule, from_operands}
use Rattle.rules.specs.Records.{Cell, input, gate, operands, set_of, kind_of, renamed, node, said}
use Rattle.rule_laws.proofs.Lists.{member_head, member_tail}

-- ---- as lists

pub listed_length : (k : ℕ) (ops : Operands k) → length (listed k ops) ≡ k
unfolding listed
listed_length zero ops = refl
listed_length (suc k) (a, ops) = ap suc (listed_length k ops)

-- the first bytes of a body, and the operands whose bytes a body begins with
pub listed_first : (k : ℕ) (l : List ℕ) → k ≤ length l → listed k (first_of k l) ≡ take k l
unfolding listed first_of
listed_first zero l h = refl
listed_first (suc k) [] h = absurd (omega arith)
listed_first (suc k) (x ∷ l) h = ap (λ (t : List ℕ). x ∷ t) (listed_first k l (omega arith))

pub first_listed : (k : ℕ) (ops : Operands k) (rest : List ℕ) → first_of k (listed k ops ++ rest) ≡ ops
unfolding listed first_of
first_listed zero ops rest = refl
first_listed (suc k) (a, ops) rest = ap (λ (t : Operands k). (a, t)) (first_listed k ops rest)

-- entry by entry
pub first_at : (k : ℕ) (l : List ℕ) (j : ℕ) → j < k → get_or (listed k (first_of k l)) j 0 ≡ get_or l j 0
unfolding listed first_of
first_at zero l j h = absurd (omega arith)
first_at (suc k) [] zero h = refl
first_at (suc k) [] (suc j) h = first_at k [] j (omega arith)
first_at (suc k) (x ∷ l) zero h = refl
first_at (suc k) (x ∷ l) (suc j) h = first_at k l j (omega arith)

pub first_beyond : (k : ℕ) (l : List ℕ) (j : ℕ) → k ≤ j → get_or (listed k (first_of k l)) j 0 ≡ 0
first_beyond k l j h = get_or-eq_default (listed k (first_of k l)) 0 (omega (arith, listed_length k (first_of k l)))

-- bodies that begin with the same bytes have the same operands
pub first_same : (k : ℕ) (l m : List ℕ) → ((j : ℕ) → j < k → get_or l j 0 ≡ get_or m j 0) → first_of k l ≡ first_of k m
unfolding first_of
first_same zero l m e = refl
first_same (suc k) [] [] e = refl
first_same (suc k) [] (y ∷ m) e = ap₂ (λ (a : ℕ) (t : Operands k). (a, t)) (e 0 (omega arith)) (first_same k [] m (λ j h. e (suc j) (omega arith)))
first_same (suc k) (x ∷ l) [] e = ap₂ (λ (a : ℕ) (t : Operands k). (a, t)) (e 0 (omega arith)) (first_same k l [] (λ j h. e (suc j) (omega arith)))
first_same (suc k) (x ∷ l) (y ∷ m) e = ap₂ (λ (a : ℕ) (t : Operands k). (a, t)) (e 0 (omega arith)) (first_same k l m (λ j h. e (suc j) (omega arith)))

-- ---- under a rule

module _ {A B : Type 0} where
  -- a rule sees no more of the operands than their entries
  pub from_same : (k : ℕ) (rule : Rule A B k) (e f : ℕ → A) (ops : Operands k) → ((a : ℕ) → T (member a (listed k ops)) → e a ≡ f a)
      → from_operands k rule e ops ≡ from_operands k rule f ops
  unfolding from_operands listed
  from_same zero rule e f ops same = refl
  from_same (suc k) rule e f (a, ops) same =
      from_same k (rule (e a)) e f ops (λ b t. same b (member_tail b a (listed k ops) t))
      ∙ ap (λ (x : A). from_operands k (rule x) f ops) (same a (member_head a (listed k ops)))

  pub from_renamed : (g : ℕ → ℕ) (k : ℕ) (rule : Rule A B k) (e : ℕ → A) (ops : Operands k)
      → from_operands k rule e (renamed_all g k ops) ≡ from_operands k rule (λ a. e (g a)) ops
  unfolding from_operands renamed_all
  from_renamed g zero rule e ops = refl
  from_renamed g (suc k) rule e (a, ops) = from_renamed g k (rule (e (g a))) e ops

-- ---- renamed

pub listed_renamed : (g : ℕ → ℕ) (k : ℕ) (ops : Operands k) → listed k (renamed_all g k ops) ≡ map g (listed k ops)
unfolding listed renamed_all
listed_renamed g zero ops = refl
listed_renamed g (suc k) (a, ops) = ap (λ (t : List ℕ). g a ∷ t) (listed_renamed g k ops)

-- a node keeps its kind and its set, and its operands follow
pub operands_renamed : (g : ℕ → ℕ) (cell : Cell) → operands (renamed g cell) ≡ map g (operands cell)
unfolding operands renamed
operands_renamed g (input s) = refl
operands_renamed g (gate kind ops) = listed_renamed g (operand_count kind) ops

-- and it stays where they do
pub renamed_stays : (g : ℕ → ℕ) (cell : Cell) → ((a : ℕ) → T (member a (operands cell)) → g a ≡ a) → renamed g cell ≡ cell
unfolding operands renamed listed renamed_all
renamed_stays g (input s) same = refl
renamed_stays g (gate kind ops) same = ap (gate kind) (go (operand_count kind) ops same)
  where
    go : (k : ℕ) (ops : Operands k) → ((a : ℕ) → T (member a (listed k ops)) → g a ≡ a) → renamed_all g k ops ≡ ops
    go zero ops same = refl
    go (suc k) (a, ops) same =
        ap₂ (λ (b : ℕ) (t : Operands k). (b, t)) (same a (member_head a (listed k ops)))
        (go k ops (λ b t. same b (member_tail b a (listed k ops) t)))

pub set_renamed : (g : ℕ → ℕ) (cell : Cell) → set_of (renamed g cell) ≡ set_of cell
unfolding set_of renamed
set_renamed g (input s) = refl
set_renamed g (gate kind ops) = refl

pub kind_renamed : (g : ℕ → ℕ) (cell : Cell) → kind_of (renamed g cell) ≡ kind_of cell
unfolding kind_of renamed
kind_renamed g (input s) = refl
kind_renamed g (gate kind ops) = refl

-- ---- every kind

-- how many operands there are, by the kind's number
abbrev pub counts : List ℕ
counts = 0 ∷ 0 ∷ 0 ∷ map operand_count kinds

-- its number is from 3 to the last, it has an operand and the longest body has room for all, its number tells how many
-- they are, and a record of that number says it
pub record Known (kind : Kind) : Type 0 where
  pub above : 3 ≤ kind_number kind
  pub below : kind_number kind ≤ last_kind
  pub some : 1 ≤ operand_count kind
  pub few : operand_count kind ≤ most_body
  pub counted : get_or counts (kind_number kind) 0 ≡ operand_count kind
  pub says : (body : List ℕ) → said (kind_number kind) body ≡ node (gate kind (first_of (operand_count kind) body))

pub known : (kind : Kind) → Known kind
unfolding said
known NOT = record { above = omega arith; below = omega arith; some = omega arith; few = omega arith; counted = refl; says = λ body. refl }
known XOR = record { above = omega arith; below = omega arith; some = omega arith; few = omega arith; counted = refl; says = λ body. refl }
known AND = record { above = omega arith; below = omega arith; some = omega arith; few = omega arith; counted = refl; says = λ body. refl }
known OR = record { above = omega arith; below = omega arith; some = omega arith; few = omega arith; counted = refl; says = λ body. refl }
known register = record { above = omega arith; below = omega arith; some = omega arith; few = omega arith; counted = refl; says = λ body. refl }

pub few_operands : (cell : Cell) → length (operands cell) ≤ most_body
unfolding operands
few_operands (input s) = omega arith
few_operands (gate kind ops) = omega (arith, listed_length (operand_count kind) ops, (known kind).few)

pub last_most : (cell : Cell) → kind_of cell ≤ last_kind
unfolding kind_of
last_most (input s) = omega arith
last_most (gate kind ops) = (known kind).below

pub operands_counted : (cell : Cell) → get_or counts (kind_of cell) 0 ≡ length (operands cell)
unfolding kind_of operands
operands_counted (input s) = refl
operands_counted (gate kind ops) = (known kind).counted ∙ sym (listed_length (operand_count kind) ops)

-- and each number from 3 to the last is that of a kind
pub kind_of_number : (k : ℕ) → 3 ≤ k → k ≤ last_kind → (kind : Kind) × (kind_number kind ≡ k)
kind_of_number zero above below = absurd (omega arith)
kind_of_number (suc zero) above below = absurd (omega arith)
kind_of_number (suc (suc zero)) above below = absurd (omega arith)
kind_of_number (suc (suc (suc zero))) above below = (NOT, refl)
kind_of_number (suc (suc (suc (suc zero)))) above below = (XOR, refl)
kind_of_number (suc (suc (suc (suc (suc zero))))) above below = (AND, refl)
kind_of_number (suc (suc (suc (suc (suc (suc zero)))))) above below = (OR, refl)
kind_of_number (suc (suc (suc (suc (suc (suc (suc zero))))))) above below = (register, refl)
kind_of_number (suc (suc (suc (suc (suc (suc (suc (suc k)))))))) above below = absurd (omega arith)
