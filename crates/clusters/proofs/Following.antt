-- A node's settled value follows from those of its feeding points: it is what the rules make of them. So where the
-- counts agree on some points, they agree on these and all nodes that no other point feeds. Assumes nothing.
use Prim.Native.Nat.{ℕ}
use mathlib.Core.Path.{◌≡◌, refl, sym, ap, ◌∙◌, subst}
use mathlib.Core.Bool.{Bool, true, false, cond, ◌&&◌, beq, and-false}
use mathlib.Core.List.{List, [], ◌∷◌}
use lib.Dec.{T}
use lib.ListN.{length, get_or, take}
use Rattle.rules.specs.Lists.{member, insert, union, count}
use Rattle.rules.specs.Tables.{table}
use Rattle.rules.specs.Records.{mask, operand_count, Cell, input, gate, kind_of, operands, Netlist}
use Rattle.rules.specs.Values.{Assignment, value_of, value_rule, values, is_point, joined, feeding_rule, feedings, feeding, how_many, settings, make, Pattern, matches, giving, CountsAgree}
use Rattle.rule_laws.proofs.Tests.{pass, same_bit, and_left, and_right}
use Rattle.rule_laws.proofs.Lists.{member_head, member_tail, union_left, union_right, count_ext}
use Rattle.rule_laws.proofs.Members.{All, all_insert}
use Rattle.rule_laws.proofs.Tables.{table_entry}
use Rattle.rule_laws.proofs.Operands.{from_same}
use Rattle.rule_laws.proofs.Entries.{each_entry, length_done}
use Rattle.rule_laws.proofs.Feeding.{joined_fed}
use Rattle.rule_laws.proofs.Points.{matches_among, agree_among}

-- ---- the value of a node by a pattern

-- what the pattern gives an input or register, and of a gate what the rules make of that
unfoldable pub by_pattern : Pattern → List Bool → Cell → Bool
by_pattern z done cell = cond (is_point cell) (z (length done)) (value_rule [] done cell)

-- the value of node i by a pattern
unfoldable pub value_by : Netlist → Pattern → ℕ → Bool
value_by n z i = get_or (table (by_pattern z) [] n.nodes) i false

-- a node's feeding points, its settled value, and its value by the pattern
data Layer : Type 0 where
  points_of settled_of named_of : Layer

abbrev Entry : Layer → Type 0
Entry points_of = List ℕ
Entry settled_of = Bool
Entry named_of = Bool

abbrev default : (l : Layer) → Entry l
default points_of = []
default settled_of = false
default named_of = false

module _ (n : Netlist) (x : Assignment) (z : Pattern) where
  abbrev rule : (l : Layer) → List (Entry l) → Cell → Entry l
  rule points_of = feeding_rule
  rule settled_of = value_rule x
  rule named_of = by_pattern z

  -- whether points have the values that the pattern gives
  abbrev seen : List ℕ → Bool
  seen points = matches (values n x) points z

  -- where the feeding points have, the node has the value by the pattern
  abbrev Follows : ((l : Layer) → Entry l) → Type 0
  Follows e = T (seen (e points_of)) → e settled_of ≡ e named_of

  module _ (done : (l : Layer) → List (Entry l)) (so_far : (k : ℕ) → Follows (λ l. get_or (done l) k (default l))) where
    abbrev fed : ℕ → List ℕ
    fed a = get_or (done points_of) a []

    -- a point, which is fed by itself
    at_point : (i : ℕ) (v : Bool) → length (done points_of) ≡ i → length (done named_of) ≡ i → get_or (values n x) i false ≡ v
        → T (seen (length (done points_of) ∷ [])) → v ≡ z (length (done named_of))
    unfolding matches
    at_point i v e f own t =
        sym own ∙ same_bit (get_or (values n x) i false) (z i) (and_left (beq (get_or (values n x) i false) (z i)) true (rw e at t)) ∙ ap z (sym f)

    -- a gate, whose operands' feeding points are among its own
    operand_seen : (nodes : List ℕ) → T (seen (joined fed nodes)) → (a : ℕ) → T (member a nodes) → T (seen (fed a))
    operand_seen nodes t a m =
        and_right (seen (joined fed nodes)) (seen (fed a))
        (subst T (matches_among (values n x) (joined fed nodes) (fed a) z (λ p u. joined_fed fed p nodes (a, m, u))) t)

    at_node : (i : ℕ) → length (done points_of) ≡ i → length (done named_of) ≡ i → (cell : Cell)
        → get_or (values n x) i false ≡ value_rule x (done settled_of) cell → Follows (λ l. rule l (done l) cell)
    unfolding kind_of operands value_rule is_point feeding_rule by_pattern
    at_node i e f (input s) own t = at_point i _ e f own t
    at_node i e f (gate kind ops) own t = go (is_point (gate kind ops)) t
      where
        go : (b : Bool) → T (seen (cond b (length (done points_of) ∷ []) (joined fed (operands (gate kind ops)))))
            → value_rule x (done settled_of) (gate kind ops) ≡ cond b (z (length (done named_of))) (value_rule [] (done named_of) (gate kind ops))
        go true u = at_point i _ e f own u
        go false u = from_same (operand_count kind) (value_of kind) _ _ ops (λ a m. so_far a (operand_seen _ u a m))

  -- A node's settled value follows from those of its feeding points.
  pub follows : (i : ℕ) → T (matches (values n x) (feeding n i) z) → get_or (values n x) i false ≡ value_by n z i
  unfolding values feedings feeding value_by
  follows =
      each_entry rule n.nodes default (input 0) (λ m e. Follows e) record {
        stays = λ m j e h f. f;
        defaults = λ t. refl;
        stepped = λ j there before.
            at_node (λ l. take j (table (rule l) [] n.nodes)) before j (length_done feeding_rule n.nodes j there)
            (length_done (by_pattern z) n.nodes j there) (get_or n.nodes j (input 0))
            (table_entry (value_rule x) n.nodes j false (input 0) there);
      }

-- ---- counts on nodes that the points feed

module _ (n : Netlist) where
  -- a node all of whose feeding points are among the points
  agree_with : (points : List ℕ) (i : ℕ) → All (λ p. T (member p points)) (feeding n i) → CountsAgree n points → CountsAgree n (i ∷ points)
  unfolding CountsAgree matches giving
  agree_with points i fed agree p s t z = counted s ∙ go (beq (value_by n z i) (z i)) ∙ sym (counted t)
    where
      masks : List (List Bool)
      masks = settings (how_many mask n.variables)

      settled_under : List Bool → List Bool → List Bool
      settled_under secrets m = values n (make n.variables secrets m p)

      -- under an assignment that gives the pattern on the points, the node's value is that by the pattern
      alike : (x : Assignment)
          → (beq (get_or (values n x) i false) (z i) && matches (values n x) points z) ≡ (beq (value_by n z i) (z i) && matches (values n x) points z)
      alike x = same (matches (values n x) points z) refl
        where
          same : (b : Bool) → matches (values n x) points z ≡ b
              → (beq (get_or (values n x) i false) (z i) && b) ≡ (beq (value_by n z i) (z i) && b)
          same true e =
              ap (λ (v : Bool). beq v (z i) && true)
              (follows n x z i (and_right (matches (values n x) points z) (matches (values n x) (feeding n i) z)
              (pass (sym (matches_among (values n x) points (feeding n i) z fed) ∙ e))))
          same false e = and-false (beq (get_or (values n x) i false) (z i)) ∙ sym (and-false (beq (value_by n z i) (z i)))

      counted : (secrets : List Bool)
          → giving n (i ∷ points) z p secrets ≡ count (λ m. beq (value_by n z i) (z i) && matches (settled_under secrets m) points z) masks
      counted secrets = unfold giving in (count_ext _ _ masks (λ m. alike (make n.variables secrets m p)))

      go : (b : Bool) → count (λ m. b && matches (settled_under s m) points z) masks ≡ count (λ m. b && matches (settled_under t m) points z) masks
      go true = agree p s t z
      go false = refl

  -- Where the counts agree on some points, they agree on all nodes that no other point feeds.
  pub agree_fed : (points nodes : List ℕ) → ((i : ℕ) → T (member i nodes) → All (λ p. T (member p points)) (feeding n i)) → CountsAgree n points
      → CountsAgree n nodes
  unfolding union
  agree_fed points nodes fed agree = agree_among n (union nodes points) nodes (λ i m. union_left i nodes points m) (both nodes fed)
    where
      both : (nodes : List ℕ) → ((i : ℕ) → T (member i nodes) → All (λ p. T (member p points)) (feeding n i)) → CountsAgree n (union nodes points)
      both [] fed = agree
      both (i ∷ nodes) fed =
          agree_among n (i ∷ union nodes points) (insert i (union nodes points))
          (all_insert (λ k. T (member k (i ∷ union nodes points))) i (union nodes points) (member_head i (union nodes points))
          (λ k m. member_tail k i (union nodes points) m))
          (agree_with (union nodes points) i (λ p m. union_right p nodes points (fed i (member_head i nodes) p m))
          (both nodes (λ k m. fed k (member_tail k i nodes m))))
