-- Demand 3: where no tested node's glitch family holds a suspect set, the counts of mask settings agree on the
-- feeding points of each tested node. Each node's settled family spans its value and its glitch family holds
-- every pattern on its feeding points, by the rules of its kind; the weight 1 is balanced with every set that
-- is not suspect. Assumes nothing.
use Prim.Native.Nat.{ℕ}
use mathlib.Core.Path.{◌≡◌, refl, sym, ap, ◌∙◌, subst, fun_ext}
use mathlib.Core.Bool.{Bool, true, false, not, ◌&&◌, beq, and-true}
use mathlib.Core.List.{List, [], ◌∷◌, map}
use native.Mathlib.Omega.{arith}
use lib.Dec.{T}
use lib.ListN.{length, get_or, take}
use Rattle.rules.specs.Lists.{member, union, count}
use Rattle.rules.specs.Tables.{table}
use Rattle.rules.specs.Records.{secret, mask, NOT, XOR, AND, OR, register, Cell, input, gate, Netlist, listed, from_operands, kind_of, operands}
use Rattle.rules.specs.Values.{Assignment, exclusive_or, value_of, value_rule, values, is_point, joined, feeding_rule, feedings, feeding, how_many, settings, make, Pattern, matches, giving, CountsAgree}
use Rattle.rules.specs.Families.{Family, Families, constant, spread, settled_of, glitch_of, family_rule, families_rule, families, families_at, holds, suspect}
use Rattle.rules.specs.Checks.{answered, read}
use Rattle.rules.specs.Slices.{reply}
use Rattle.rules.specs.Demands.{GlitchClear, NoSuspect, NothingSuspect, OneProbe}
use Rattle.rule_laws.proofs.Tests.{pass}
use Rattle.rule_laws.proofs.Lists.{insert_old, count_map, count_ext}
use Rattle.rule_laws.proofs.Tables.{table_entry}
use Rattle.rule_laws.proofs.Entries.{each_entry, length_done}
use Rattle.rule_laws.proofs.Room.{admitted_says}
use Rattle.rule_laws.proofs.Halves.{exactly_when}
use Rattle.rule_laws.proofs.Points.{matches_union}
use Rattle.rule_laws.proofs.Weights.{plus, twist, keep, pluses, minuses, Balanced, kept_sum, twisted_sum}
use Rattle.rule_laws.proofs.Characters.{no_secret, masked}
use Rattle.rule_laws.proofs.Spans.{Spans, Holds, spans_input, spans_constant, spans_not, spans_xor, spans_and, spans_or, holds_nothing, holds_more, holds_point, holds_both}

-- ---- the three tables side by side

-- a node's families, its feeding points, and its value under each assignment
data Layer : Type 0 where
  families_of feeding_of : Layer
  value_under : Assignment → Layer

abbrev Entry : Layer → Type 0
Entry families_of = Families
Entry feeding_of = List ℕ
Entry (value_under x) = Bool

abbrev rule : (l : Layer) → List (Entry l) → Cell → Entry l
rule families_of = families_rule
rule feeding_of = feeding_rule
rule (value_under x) = value_rule x

abbrev default : (l : Layer) → Entry l
default families_of = constant
default feeding_of = []
default (value_under x) = false

-- ---- every node, over any two lists of assignments
module _ (K L : List Assignment) (settled : Assignment → List Bool) where
  -- the settled family spans the value, and the glitch family holds every pattern on the points
  record Good (F : Families) (points : List ℕ) (value : Assignment → Bool) : Type 0 where
    spans : Spans K L F.settled value
    patterns : (z : Pattern) → Holds K L F.glitch (λ x. matches (settled x) points z)

  good_constant : Good constant [] (λ x. false)
  unfolding matches
  good_constant = record { spans = spans_constant K L; patterns = λ z. holds_nothing K L (0 ∷ []) }

  -- a node that is its own feeding point
  good_point : (F : Family) (i : ℕ) (g : Assignment → Bool) → ((x : Assignment) → get_or (settled x) i false ≡ g x) → Spans K L F g
      → Good (record { settled = F; glitch = F }) (i ∷ []) g
  unfolding matches
  good_point F i g own sg = record { spans = sg; patterns = λ z. subst (Holds K L F) (fun_ext (λ x. sym (named x z))) (holds_point K L F g (z i) sg) }
    where
      named : (x : Assignment) (z : Pattern) → (beq (get_or (settled x) i false) (z i) && true) ≡ beq (g x) (z i)
      named x z = and-true (beq (get_or (settled x) i false) (z i)) ∙ ap (λ (b : Bool). beq b (z i)) (own x)

  -- a family holds every pattern on some points
  abbrev HoldsOn : Family → List ℕ → Type 0
  HoldsOn F P = (z : Pattern) → Holds K L F (λ x. matches (settled x) P z)

  -- those of an operand, of a family that has more, of the last operand, and of an operand with those behind it
  holds_within : (F G : Family) (P : List ℕ) → ((A : ℕ) → T (member A F) → T (member A G)) → HoldsOn F P → HoldsOn G P
  holds_within F G P more holds z = holds_more K L F G (λ x. matches (settled x) P z) more (holds z)

  holds_last : (F : Family) (P : List ℕ) → HoldsOn F P → HoldsOn F (union P [])
  unfolding matches
  holds_last F P holds z =
      subst (Holds K L F) (fun_ext (λ x. sym (matches_union (settled x) P [] z ∙ and-true (matches (settled x) P z)))) (holds z)

  holds_with : (F G : Family) (P Q : List ℕ) → HoldsOn F P → HoldsOn G Q → HoldsOn (spread F G) (union P Q)
  holds_with F G P Q p q z =
      subst (Holds K L (spread F G)) (fun_ext (λ x. sym (matches_union (settled x) P Q z)))
      (holds_both K L F G (λ x. matches (settled x) P z) (λ x. matches (settled x) Q z) (p z) (q z))

  -- entries of the three tables that belong together
  abbrev GoodEntries : ((l : Layer) → Entry l) → Type 0
  GoodEntries e = Good (e families_of) (e feeding_of) (λ x. e (value_under x))

  module _ (done : (l : Layer) → List (Entry l)) (so_far : (k : ℕ) → GoodEntries (λ l. get_or (done l) k (default l))) where
    abbrev value : ℕ → Assignment → Bool
    value a = λ x. get_or (done (value_under x)) a false

    abbrev own_families : ℕ → Families
    own_families a = get_or (done families_of) a constant

    abbrev points : ℕ → List ℕ
    points a = get_or (done feeding_of) a []

    -- the patterns of two operands
    both_patterns : (a b : ℕ) → HoldsOn (spread (own_families a).glitch (own_families b).glitch) (union (points a) (union (points b) []))
    both_patterns a b = holds_with _ _ _ _ (so_far a).patterns (holds_last _ _ (so_far b).patterns)

    -- the rules of each kind, at node i
    good_node : (i : ℕ) → length (done feeding_of) ≡ i → (cell : Cell)
        → ((x : Assignment) → get_or (settled x) i false ≡ value_rule x (done (value_under x)) cell) → GoodEntries (λ l. rule l (done l) cell)
    unfolding families_rule family_rule settled_of glitch_of feeding_rule is_point joined kind_of operands listed value_rule value_of from_operands
    good_node i e (input s) own = rw e (good_point (s ∷ []) i (exclusive_or s) own (spans_input K L s))
    good_node i e (gate NOT (a, ops)) own = record {
      spans = spans_not K L _ (value a) (so_far a).spans;
      patterns = holds_within _ _ _ (λ A inF. insert_old A 0 _ inF) (holds_last _ _ (so_far a).patterns);
    }
    good_node i e (gate XOR (a, (b, ops))) own = record {
      spans = spans_xor K L _ _ (value a) (value b) (so_far a).spans (so_far b).spans;
      patterns = both_patterns a b;
    }
    good_node i e (gate AND (a, (b, ops))) own = record {
      spans = spans_and K L _ _ (value a) (value b) (so_far a).spans (so_far b).spans;
      patterns = both_patterns a b;
    }
    good_node i e (gate OR (a, (b, ops))) own = record {
      spans = spans_or K L _ _ (value a) (value b) (so_far a).spans (so_far b).spans;
      patterns = both_patterns a b;
    }
    good_node i e (gate register (a, ops)) own = rw e (good_point _ i (value a) own (so_far a).spans)

-- the glitch family of each node holds every pattern on its feeding points
pub each_node : (K L : List Assignment) (n : Netlist) (i : ℕ) (z : Pattern)
    → Holds K L (families_at n i).glitch (λ x. matches (values n x) (feeding n i) z)
unfolding values families feedings families_at feeding
each_node K L n i z =
    (each_entry rule n.nodes default (input 0) (λ m e. GoodEntries K L (values n) e)
    record {
      stays = λ m j e h good. good;
      defaults = good_constant K L (values n);
      stepped = λ j there before.
          good_node K L (values n) (λ l. take j (table (rule l) [] n.nodes)) before j (length_done feeding_rule n.nodes j there)
          (get_or n.nodes j (input 0))
          (λ x. table_entry (value_rule x) n.nodes j false (input 0) there);
    }
    i
    ).patterns z

-- ---- over all mask settings, beside the one setting of the secrets and beside the other

module _ (n : Netlist) (p : List Bool) where
  abbrev masks : List (List Bool)
  masks = settings (how_many mask n.variables)

  abbrev made : List Bool → List Bool → Assignment
  made secrets m = make n.variables secrets m p

  abbrev beside : List Bool → List Assignment
  beside secrets = map (made secrets) masks

  -- the weight 1 with the character of a set
  character_sum : (A : ℕ) (secrets : List Bool)
      → (pluses (λ x. twist (exclusive_or A x) plus) (beside secrets) ≡ count (λ m. not (exclusive_or A (made secrets m))) masks)
      × (minuses (λ x. twist (exclusive_or A x) plus) (beside secrets) ≡ count (λ m. exclusive_or A (made secrets m)) masks)
  character_sum A secrets =
      let sums = twisted_sum (exclusive_or A) (beside secrets) in (
        sums.0 ∙ count_map (λ x. not (exclusive_or A x)) (made secrets) masks,
        sums.1 ∙ count_map (exclusive_or A) (made secrets) masks,
      )

  -- is balanced where the set is not suspect: with a mask in it the sums are 0, and with no
  -- secret in it they are the same
  unsuspected : (s t : List Bool) (A : ℕ) → T (not (suspect n.variables A)) → Balanced (beside s) (beside t) (λ x. twist (exclusive_or A x) plus)
  unfolding Balanced suspect
  unsuspected s t A clean = go (holds mask n.variables A) refl
    where
      no_secrets : (a b : Bool) → b ≡ false → T (not (a && not b)) → T (not a)
      no_secrets true b e h = subst (λ (c : Bool). T (not (not c))) e h
      no_secrets false b e h = tt

      go : (b : Bool) → holds mask n.variables A ≡ b → Balanced (beside s) (beside t) (λ x. twist (exclusive_or A x) plus)
      go true e =
          let (plus-s, minus-s) = character_sum A s in
          let (plus-t, minus-t) = character_sum A t in
          let even-s = masked n.variables A s p (pass e) in
          let even-t = masked n.variables A t p (pass e) in
          omega arith
      go false e =
          let (plus-s, minus-s) = character_sum A s in
          let (plus-t, minus-t) = character_sum A t in
          let unseen = no_secrets (holds secret n.variables A) (holds mask n.variables A) e clean in
          let alike : (m : List Bool) → exclusive_or A (made s m) ≡ exclusive_or A (made t m) = λ m. no_secret n.variables A s t m p unseen in
          let same-ones = count_ext (λ m. exclusive_or A (made s m)) (λ m. exclusive_or A (made t m)) masks alike in
          let same-zeros = count_ext (λ m. not (exclusive_or A (made s m))) (λ m. not (exclusive_or A (made t m))) masks (λ m. ap not (alike m)) in
          omega arith

  -- the weight 1 on the settings that give a pattern
  pattern_sum : (points : List ℕ) (z : Pattern) (secrets : List Bool)
      → (pluses (λ x. keep (matches (values n x) points z) plus) (beside secrets) ≡ giving n points z p secrets)
      × (minuses (λ x. keep (matches (values n x) points z) plus) (beside secrets) ≡ 0)
  unfolding giving
  pattern_sum points z secrets =
      let sums = kept_sum (λ x. matches (values n x) points z) (beside secrets) in
      (sums.0 ∙ count_map (λ x. matches (values n x) points z) (made secrets) masks, sums.1)

  -- the weight 1 itself: there are as many mask settings beside the one as beside the other, and each
  -- gives the pattern on no points
  as_many : (s t : List Bool) (z : Pattern) → Balanced (beside s) (beside t) (λ x. plus)
  unfolding Balanced matches giving
  as_many s t z =
      let (plus-s, minus-s) = pattern_sum [] z s in
      let (plus-t, minus-t) = pattern_sum [] z t in
      omega arith

-- a family that holds the patterns on some points
abbrev pub HoldsPatterns : Netlist → List ℕ → Family → Type 0
HoldsPatterns n points F = (K L : List Assignment) (z : Pattern) → Holds K L F (λ x. matches (values n x) points z)

-- The counts agree on any points whose patterns a family holds that has no suspect set.
pub counts_agree : (n : Netlist) (points : List ℕ) (F : Family) → HoldsPatterns n points F
    → ((A : ℕ) → T (member A F) → T (not (suspect n.variables A))) → CountsAgree n points
unfolding CountsAgree Balanced
counts_agree n points F patterns clean p s t z =
    let balanced = patterns (beside n p s) (beside n p t) z (λ x. plus) (as_many n p s t z) (λ A inF. unsuspected n p s t A (clean A inF)) in
    let (plus-s, minus-s) = pattern_sum n p points z s in
    let (plus-t, minus-t) = pattern_sum n p points z t in
    omega arith

-- so on the feeding points of a node whose glitch family has none
pub node_agrees : (n : Netlist) (i : ℕ) → ((A : ℕ) → T (member A (families_at n i).glitch) → T (not (suspect n.variables A)))
    → CountsAgree n (feeding n i)
node_agrees n i clean = counts_agree n (feeding n i) (families_at n i).glitch (λ K L z. each_node K L n i z) clean

-- ---- demand 3

-- Whenever the checker answers clear for glitching signals, no tested node of the netlist that the
-- bytes are holds a suspect set.
pub none_suspect : (bytes : List ℕ) (entries work : ℕ) → GlitchClear (reply bytes entries work) → (n : Netlist) → read bytes ≡ answered n → NoSuspect n
none_suspect bytes entries work answers-clear n is_read = subst NoSuspect same_netlist checked.no_suspect
  where
    checked : NothingSuspect bytes entries work
    checked = (exactly_when bytes entries work).0 answers-clear

    same_netlist : checked.netlist ≡ n
    same_netlist = let e = (admitted_says bytes entries work checked.netlist checked.admits).is_read in cc

-- and one probe on any gate or register learns nothing of the secrets
pub one_probe : (bytes : List ℕ) (entries work : ℕ) → GlitchClear (reply bytes entries work) → OneProbe bytes
unfolding OneProbe NoSuspect
one_probe bytes entries work answers-clear n is_read i node = node_agrees n i (none_suspect bytes entries work answers-clear n is_read i node)
