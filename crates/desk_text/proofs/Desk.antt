-- Fields behind fields; and what is printed beside what the documents say: of a refusal and of an answer lines of the
-- listing, of the bytes of a step the step. Assumes nothing.
use Prim.Native.Nat.{ℕ, ◌+◌, ◌*◌, ◌/◌, ◌%◌}
use mathlib.Core.Path.{◌≡◌, refl, sym, ap}
use mathlib.Core.Bool.{Bool, true, false}
use mathlib.Core.List.{List, [], ◌∷◌, ◌++◌, map, append-nil, append_assoc}
use native.Mathlib.Numerals.{add-one}
use native.Mathlib.Omega.{arith}
use lib.ListN.{get_or}
use Rattle.rules.specs.Records.{Netlist}
use Rattle.rules.specs.Families.{families, Finding, clear, suspect_at, findings}
use Rattle.rules.specs.Checks.{refused}
use Rattle.rules.specs.Listing.{word, decimal, line, node_lines, half_line, netlist_text, text_of}
use Rattle.derivation_rules.specs.Derivations.{Step, layer_number, step_bytes}
use Rattle.desk_text.specs.Desk.{behind, parted, refusal_text, counts_text, half_text, step_text, marked_below}

-- fields, and others behind them
pub parted_more : (field : List ℕ) (fields more : List (List ℕ)) → parted (field ∷ fields) ++ behind more ≡ parted (field ∷ fields ++ more)
unfolding behind parted
parted_more field fields more = rw append_assoc (ap (λ (rest : List ℕ). field ++ rest) (joined fields))
  where
    joined : (fields : List (List ℕ)) → behind fields ++ behind more ≡ behind (fields ++ more)
    joined [] = refl
    joined (next ∷ fields) = rw (append_assoc, joined fields)

-- numbers, and one more behind them
pub numbers_more : (numbers : List ℕ) (x : ℕ) → behind (map decimal numbers) ++ (32 ∷ decimal x) ≡ behind (map decimal (numbers ++ (x ∷ [])))
unfolding behind
numbers_more [] x = rw append-nil
numbers_more (y ∷ numbers) x = rw (append_assoc, numbers_more numbers x)

-- the next node is marked, or is not
module _ (marks : List Bool) (i : ℕ) where
  pub marked_more : get_or marks i false ≡ true
      → behind (map decimal (marked_below marks i)) ++ (32 ∷ decimal i) ≡ behind (map decimal (marked_below marks (i + 1)))
  unfolding marked_below
  marked_more e = rw (add-one, marked_below, e) (numbers_more (marked_below marks i) i)

  pub marked_same : get_or marks i false ≡ false → behind (map decimal (marked_below marks i)) ≡ behind (map decimal (marked_below marks (i + 1)))
  unfolding marked_below
  marked_same e = rw (add-one, marked_below, e, append-nil)

-- a line is its fields, parted by a blank, and a line feed
pub line_parted : (fields : List (List ℕ)) → line fields ≡ parted fields ++ (10 ∷ [])
unfolding line behind parted
line_parted [] = refl
line_parted (field ∷ []) = rw append-nil
line_parted (field ∷ other ∷ fields) = rw (line_parted (other ∷ fields)) (simp append_assoc)

-- ---- what is printed, beside the documents

-- a refusal and a line feed are the listing of a file that is refused
pub refusal_listed : (k p : ℕ) → refusal_text k p ++ (10 ∷ []) ≡ text_of (refused k p)
unfolding refusal_text text_of
refusal_listed k p = sym (line_parted _)

-- a half and a line feed are its line of the listing
half_listed : (name : List ℕ) (f : Finding) → half_text name f ++ (10 ∷ []) ≡ half_line name f
unfolding half_text half_line
half_listed name clear = sym (line_parted _)
half_listed name (suspect_at node set) = sym (line_parted _)

-- an answer's counts and halves, a line feed behind each, are the first line of the listing and its last two,
-- which has those of the nodes between them
pub answer_listed : (n : Netlist) → let f = findings n in
    (counts_text f.variables f.nodes ++ (10 ∷ [])) ++ node_lines 0 n.nodes (families n) ++ (half_text (word "settled") f.settled ++ (10 ∷ []))
    ++ (half_text (word "glitch") f.glitch ++ (10 ∷ []))
    ≡ netlist_text n
unfolding findings counts_text netlist_text
answer_listed n = rw (half_listed (word "settled") _, half_listed (word "glitch") _, ← line_parted _)

-- five bytes that are those of a step print its node, layer, rule and set
pub step_told : (s : Step) (node layer rule low high : ℕ) → node ∷ layer ∷ rule ∷ low ∷ high ∷ [] ≡ step_bytes s
    → step_text node layer rule (low + 256 * high) ≡ step_text s.node (layer_number s.layer) s.rule s.set
unfolding step_bytes
step_told s node layer rule low high e =
    let node_is : node ≡ s.node = cc in
    let layer_is : layer ≡ layer_number s.layer = cc in
    let rule_is : rule ≡ s.rule = cc in
    let low_is : low ≡ s.set % 256 = cc in
    let high_is : high ≡ s.set / 256 = cc in
    let set_is : low + 256 * high ≡ s.set = omega arith in
    rw (node_is, layer_is, rule_is, set_is)
