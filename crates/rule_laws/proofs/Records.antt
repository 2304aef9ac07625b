-- One record of a file. It is accepted exactly if it obeys the checks (`Accepted`), the bytes that say it are then
-- its writing-out, and its own writing-out says it. By the list of checks, row by row, and by cases on the kinds.
-- Assumes nothing.
use Prim.Native.Nat.{ℕ, zero, suc, ◌+◌, ◌*◌, ◌/◌, ◌%◌, ◌≤◌, ◌<◌}
use mathlib.Core.Path.{◌≡◌, refl, sym, ap, ◌∙◌, subst}
use mathlib.Core.Bool.{Bool, true, false, ◌&&◌, ◌||◌}
use mathlib.Core.List.{List, [], ◌∷◌, ◌++◌, map}
use native.Mathlib.Nat.{add-zero}
use native.Mathlib.Decide.{dec_le, ℕ_discrete}
use native.Mathlib.Numerals.{add-one}
use native.Mathlib.Omega.{arith}
use lib.Dec.{T, ltb}
use lib.ListN.{length, get_or, take, drop, length-append, length-drop, get_or-eq_default}
use lib.Seq.{take-add, drop-cons, drop-append-add, get_or-drop, get_or-append-add}
use borrow.Author.Tests.{leb-false, ltb-false, lt-leb, lt-ltb, le-ltb}
use Rattle.rules.specs.Records.{Class, secret, mask, public, Kind, kinds, kind_number, operand_count, Operands, listed, first_of, Cell, input, gate, Record, end, variable, node, Netlist, class_of, said, kind_of, body, class_byte, record_bytes, size, last_kind, most_body, most_record}
use Rattle.rules.specs.Checks.{answered, Check, check, judged, is_variable, is_end, over_limit, undeclared_set, bad_operand, judged_record, record_at}
use Rattle.rule_laws.proofs.Operands.{listed_length, listed_first, first_listed, first_same, known, kind_of_number}

abbrev pub condition : Check → Bool
condition (check k b p) = b

-- where a list of checks gives an answer, none of their conditions holds
pub passes : {A : Type 0} (cs : List Check) (a r : A) → judged cs a ≡ answered r → (i : ℕ) → condition (get_or cs i (check 0 false 0)) ≡ false
unfolding judged
passes [] a r e i = refl
passes (check k true p ∷ cs) a r e i = cc
passes (check k false p ∷ cs) a r e zero = refl
passes (check k false p ∷ cs) a r e (suc i) = passes cs a r e i

-- and the answer is the one given
pub answer : {A : Type 0} (cs : List Check) (a r : A) → judged cs a ≡ answered r → a ≡ r
unfolding judged
answer [] a r e = cc
answer (check k true p ∷ cs) a r e = cc
answer (check k false p ∷ cs) a r e = answer cs a r e

-- what the checks ask of a record behind the variables and nodes of n
pub record Allowed (n : Netlist) (r : Record) : Type 0 where
  pub ordered : (is_variable r && ltb 0 (length n.nodes)) ≡ false
  pub room : over_limit (length n.variables) (length n.nodes) r ≡ false
  pub declared : undeclared_set (length n.variables) r ≡ false
  pub below : bad_operand (length n.nodes) r ≡ false

-- what they ask of a record and of the bytes that say it
pub record Accepted (bytes : List ℕ) (n : Netlist) (here : ℕ) (r : Record) : Type 0 where
  pub allowed : Allowed n r
  pub says : said (get_or bytes here 0) (drop (here + 1) bytes) ≡ r
  pub inside : here < length bytes
  pub kind : get_or bytes here 0 ≤ last_kind
  pub fits : here + size r ≤ length bytes
  pub class : (is_variable r && ltb 2 (get_or (drop (here + 1) bytes) 0 0)) ≡ false
  pub last : (is_end r && ltb (here + 1) (length bytes)) ≡ false

-- an accepted record obeys the checks
pub accepted : (bytes : List ℕ) (n : Netlist) (here : ℕ) (r : Record) → record_at bytes n here ≡ answered r → Accepted bytes n here r
unfolding record_at judged_record
accepted bytes n here r e =
    let p = passes _ _ _ e in
    subst (Accepted bytes n here) (answer _ _ _ e)
    (record {
      allowed = record { ordered = p 2; room = p 3; declared = p 6; below = p 7 };
      says = refl;
      inside = leb-false _ _ (p 0);
      kind = ltb-false _ _ (p 1);
      fits = ltb-false _ _ (p 4);
      class = p 5;
      last = p 8;
    })

-- and a record that obeys them is accepted
accept : (bytes : List ℕ) (n : Netlist) (here : ℕ) (r : Record) → Accepted bytes n here r → record_at bytes n here ≡ answered r
unfolding record_at judged_record judged
accept bytes n here r a =
    let g = a.allowed in
    rw (a.says, lt-leb _ _ a.inside, le-ltb last_kind _ a.kind, g.ordered, g.room, le-ltb _ _ a.fits, a.class, g.declared, g.below, a.last)

-- no record has more bytes than the longest
pub size_most : (r : Record) → size r ≤ most_record
unfolding size record_bytes body
size_most end = omega arith
size_most (variable c) = omega arith
size_most (node (input s)) = omega arith
size_most (node (gate kind ops)) = omega (arith, listed_length (operand_count kind) ops, (known kind).few)

-- of a file's length a record sees only whether there is room for the longest record
pub total_unseen : (t u v n here k : ℕ) (body : List ℕ) → here + most_record ≤ t → here + most_record ≤ u
    → judged_record t v n here k body ≡ judged_record u v n here k body
unfolding judged_record judged
total_unseen t u v n here k body p q =
    let s = size (said k body) in
    let small = size_most (said k body) in
    rw (lt-leb t here (omega arith), le-ltb t (here + s) (omega arith), lt-ltb (here + 1) t (omega arith))
    (rw (lt-leb u here (omega arith), le-ltb u (here + s) (omega arith), lt-ltb (here + 1) u (omega arith)))

-- of the bytes behind its kind byte it sees those of the longest body alone
pub said_same : (k : ℕ) (l m : List ℕ) → ((j : ℕ) → j < most_body → get_or l j 0 ≡ get_or m j 0) → said k l ≡ said k m
unfolding said
said_same zero l m e = refl
said_same (suc zero) l m e = rw (e 0 (omega arith))
said_same (suc (suc zero)) l m e = rw (e 0 (omega arith), e 1 (omega arith))
said_same (suc (suc (suc k))) l m e = go kinds k
  where
    go : (ks : List Kind) (j : ℕ)
        → get_or (map (λ kind. node (gate kind (first_of (operand_count kind) l))) ks) j end
        ≡ get_or (map (λ kind. node (gate kind (first_of (operand_count kind) m))) ks) j end
    go [] j = refl
    go (kind ∷ ks) zero =
        ap (λ (ops : Operands (operand_count kind)). node (gate kind ops))
        (first_same (operand_count kind) l m (λ j h. e j (omega (arith, (known kind).few))))
    go (kind ∷ ks) (suc j) = go ks j

pub judged_same : (total v n here k : ℕ) (l m : List ℕ) → ((j : ℕ) → j < most_body → get_or l j 0 ≡ get_or m j 0)
    → judged_record total v n here k l ≡ judged_record total v n here k m
unfolding judged_record
judged_same total v n here k l m e = rw (said_same k l m e, e 0 (omega arith))

-- the class of a class's byte is that class, and a class byte is that of its class
pub class_of_byte : (c : Class) → class_of (class_byte c) ≡ c
unfolding class_of class_byte
class_of_byte secret = refl
class_of_byte mask = refl
class_of_byte public = refl

pub byte_of_class : (b : ℕ) → b ≤ 2 → class_byte (class_of b) ≡ b
unfolding class_byte class_of
byte_of_class zero h = refl
byte_of_class (suc zero) h = refl
byte_of_class (suc (suc zero)) h = refl
byte_of_class (suc (suc (suc b))) h = absurd (omega arith)

-- a kind from 3 to the last says a gate or a register, and only a kind from 2 to the last says a node
pub says_gate : (k : ℕ) (l : List ℕ) → 2 < k → k ≤ last_kind
    → (kind : Kind) × (kind_number kind ≡ k) × (said k l ≡ node (gate kind (first_of (operand_count kind) l)))
says_gate k l above below =
    let (kind, number) = kind_of_number k above below in
    (kind, number, subst (λ (j : ℕ). said j l ≡ node (gate kind (first_of (operand_count kind) l))) number ((known kind).says l))

-- kind 0 says the end, kind 1 a variable, and a kind from 2 to the last a node
pub says_end : (k : ℕ) (body : List ℕ) → k ≡ 0 → said k body ≡ end
unfolding said
says_end k body e = rw e

pub says_variable : (k : ℕ) (body : List ℕ) → k ≡ 1 → said k body ≡ variable (class_of (get_or body 0 0))
unfolding said
says_variable k body e = rw e

pub says_node : (k : ℕ) (body : List ℕ) → 2 ≤ k → k ≤ last_kind → (cell : Cell) × (said k body ≡ node cell)
says_node k body above below = go (ℕ_discrete k 2)
  where
    go : Dec (k ≡ 2) → (cell : Cell) × (said k body ≡ node cell)
    go (yes e) = (input (get_or body 0 0 + 256 * get_or body 1 0), unfold said in (rw e))
    go (no other) = let (kind, number, says) = says_gate k body (omega arith) below in (gate kind (first_of (operand_count kind) body), says)

no_node : (r : Record) (cell : Cell) → (is_end r || is_variable r) ≡ true → r ≡ node cell → ⊥
no_node r cell other e = let no : true ≡ false = sym other ∙ ap (λ (x : Record). is_end x || is_variable x) e in subst T no tt

pub said_node : (k : ℕ) (l : List ℕ) (cell : Cell) → said k l ≡ node cell → (2 ≤ k) × (k ≤ last_kind)
unfolding said
said_node zero l cell e = absurd (no_node end cell refl e)
said_node (suc zero) l cell e = absurd (no_node (variable (class_of (get_or l 0 0))) cell refl e)
said_node (suc (suc k)) l cell e = go (dec_le (suc (suc k)) last_kind)
  where
    rows : List Record
    rows = end ∷ variable (class_of (get_or l 0 0)) ∷ node (input (get_or l 0 0 + 256 * get_or l 1 0)) ∷ map (λ kind. node (gate kind (first_of (operand_count kind) l))) kinds

    go : Dec (suc (suc k) ≤ last_kind) → (2 ≤ suc (suc k)) × (suc (suc k) ≤ last_kind)
    go (yes h) = (omega arith, h)
    go (no h) = absurd (no_node end cell refl (sym (get_or-eq_default rows end {n = suc (suc k)} (omega arith)) ∙ e))

-- a kind byte and a body that say a record begin with its writing-out, where the body is whole
abbrev Begins : (k : ℕ) → List ℕ → Type 0
Begins k l = size (said k l) ≤ 1 + length l → record_bytes (said k l) ≡ take (size (said k l)) (k ∷ l)

gate_bytes : (kind : Kind) (l : List ℕ) → Begins (kind_number kind) l
unfolding size record_bytes kind_of body
gate_bytes kind l =
    let long = listed_length (operand_count kind) (first_of (operand_count kind) l) in
    rw ((known kind).says l, long) (λ whole. rw (listed_first (operand_count kind) l (omega arith)))

said_bytes : (k : ℕ) (l : List ℕ) → k ≤ last_kind → get_or l 0 0 < 256 → (is_variable (said k l) && ltb 2 (get_or l 0 0)) ≡ false → Begins k l
unfolding said size record_bytes kind_of body
said_bytes zero l h low e whole = refl
said_bytes (suc zero) [] h low e whole = absurd (omega arith)
said_bytes (suc zero) (b ∷ l) h low e whole = rw (byte_of_class b (ltb-false 2 b e))
said_bytes (suc (suc zero)) [] h low e whole = absurd (omega arith)
said_bytes (suc (suc zero)) (b ∷ []) h low e whole = absurd (omega arith)
said_bytes (suc (suc zero)) (b ∷ c ∷ l) h low e whole =
    let first : (b + 256 * c) % 256 ≡ b = omega arith in
    let second : (b + 256 * c) / 256 ≡ c = omega arith in
    cc
said_bytes (suc (suc (suc k))) l h low e whole =
    let (kind, number) = kind_of_number (suc (suc (suc k))) (omega arith) h in
    subst (λ (j : ℕ). Begins j l) number (gate_bytes kind l) whole

-- each entry of a file is a byte
abbrev pub Bytes : List ℕ → Type 0
Bytes bytes = (i : ℕ) → get_or bytes i 0 < 256

-- the bytes from an accepted record to the next are its writing-out
pub next_bytes : (bytes : List ℕ) (n : Netlist) (here : ℕ) (r : Record) → Bytes bytes → Accepted bytes n here r
    → take (here + size r) bytes ≡ take here bytes ++ record_bytes r
next_bytes bytes n here r low a =
    let l = drop (here + 1) bytes in
    let from : drop here bytes ≡ get_or bytes here 0 ∷ l = rw (add-one here) (drop-cons bytes here 0 a.inside) in
    let first : get_or l 0 0 < 256 = rw (get_or-drop (here + 1) bytes 0 0) (low (here + 1 + 0)) in
    let whole : size (said (get_or bytes here 0) l) ≤ 1 + length l = rw (a.says, length-drop (here + 1) bytes) (omega (arith, a.fits, a.inside)) in
    let out = said_bytes (get_or bytes here 0) l a.kind first (rw a.says a.class) whole in
    take-add here (size r) bytes ∙ ap (λ (t : List ℕ). take here bytes ++ t) (ap (take (size r)) from ∙ sym (rw a.says at out))

-- what a record's own bytes say, whatever comes behind them
back : (r : Record) (rest : List ℕ) → let l = record_bytes r ++ rest in
    (said (get_or l 0 0) (drop 1 l) ≡ r) × (get_or l 0 0 ≤ last_kind) × ((is_variable r && ltb 2 (get_or (drop 1 l) 0 0)) ≡ false) × (1 ≤ size r)
unfolding size said class_of record_bytes kind_of body class_byte
back end rest = (refl, omega arith, refl, omega arith)
back (variable secret) rest = (refl, omega arith, refl, omega arith)
back (variable mask) rest = (refl, omega arith, refl, omega arith)
back (variable public) rest = (refl, omega arith, refl, omega arith)
back (node (input s)) rest = (let e : s % 256 + 256 * (s / 256) ≡ s = omega arith in cc, omega arith, refl, omega arith)
back (node (gate kind ops)) rest = (
  (known kind).says (listed (operand_count kind) ops ++ rest)
      ∙ ap (λ (t : Operands (operand_count kind)). node (gate kind t)) (first_listed (operand_count kind) ops rest),
  (known kind).below,
  refl,
  omega arith,
)

-- a record that is allowed behind n is accepted from its bytes, wherever they stand
pub accept_out : (before rest : List ℕ) (n : Netlist) (r : Record) → Allowed n r
    → (is_end r && ltb (length before + 1) (length (before ++ (record_bytes r ++ rest)))) ≡ false
    → record_at (before ++ (record_bytes r ++ rest)) n (length before) ≡ answered r
unfolding size
accept_out before rest n r allowed last =
    let (says, kind, class, some) = back r rest in
    let at = get_or-append-add before (record_bytes r ++ rest) in
    let first = rw add-zero at (at 0 0) in
    let behind = drop-append-add before (record_bytes r ++ rest) 1 in
    accept _ n _ r
    (record {
      allowed = allowed;
      says = rw (first, behind) says;
      inside = simp length-append (omega arith);
      kind = rw first kind;
      fits = simp length-append (omega arith);
      class = rw behind class;
      last = last;
    })
