-- The families of all nodes in the work bytes. Once the first k nodes are done the bytes are those of their families
-- and, behind them, what stood there. The rules see of their operands' families only which sets are in them,
-- so the families of node k as worked out from the bytes have the bytes that the rules say. Assumes nothing.
use Prim.Native.Nat.{ℕ, ◌+◌, ◌*◌, ◌<◌}
use mathlib.Core.Path.{◌≡◌, refl, sym, ap, ap₂, ◌∙◌}
use mathlib.Core.List.{List, [], ◌∷◌, ◌++◌, append_assoc, append-nil}
use native.Mathlib.Nat.{zero-add, le_refl}
use native.Mathlib.Omega.{arith}
use lib.Dec.{T}
use lib.ListN.{length, get_or, take, drop, length-append, take-append-drop}
use lib.Seq.{take_all, take_at, drop-append-add, drop-drop, get_or-take}
use Rattle.rules.specs.Lists.{member, insert, union}
use Rattle.rules.specs.Tables.{table}
use Rattle.rules.specs.Records.{Cell, input, Netlist, WellFormed, operands}
use Rattle.rules.specs.Families.{Family, Families, constant, families_rule, families, families_at}
use Rattle.rules.specs.Slices.{family_bytes, node_bytes, work_bytes}
use Rattle.rule_laws.proofs.Lists.{member_insert, member_union}
use Rattle.rule_laws.proofs.Entries.{KeepsRelation, BothRelated, rules_related}
use Rattle.rule_laws.proofs.Bounds.{families_small}
use Rattle.rule_laws.proofs.Tables.{table_length, first_length, first_next, table_take}
use Rattle.rule_laws.proofs.Packing.{tabulate_at, tabulate_same, family_length, work_length}
use Rattle.families.specs.Parts.{HasPart, with_family}
use Rattle.families.proofs.Parts.{with_same, with_there}
use Rattle.families.proofs.Work.{Alike, alike_product, settled_alike, glitch_alike}
use Rattle.nodes.specs.Work.{families_in, so_far, with_families, HoldsFirst}

-- ---- families with the same sets

alike_insert : {F G : Family} → Alike F G → Alike (insert 0 F) (insert 0 G)
alike_insert {F} {G} h = record { same = λ A. rw (member_insert A 0 F, member_insert A 0 G, h.same A) }

alike_union : {F G F' G' : Family} → Alike F F' → Alike G G' → Alike (union F G) (union F' G')
alike_union {F} {G} {F'} {G'} p q = record { same = λ A. rw (member_union A F G, member_union A F' G', p.same A, q.same A) }

keeps_alike : KeepsRelation (λ F G. Alike F G)
keeps_alike = record {
  added = λ F G. alike_insert;
  joined = λ F G F' G'. alike_union;
  multiplied = λ F G F' G'. alike_product;
}

-- both families of a node
abbrev BothAlike : (F G : Families) → Type 0
BothAlike = BothRelated (λ F G. Alike F G)

-- the rules see no more of the operands' families
rules_alike : (done other : List Families) (cell : Cell)
    → ((a : ℕ) → T (member a (operands cell)) → BothAlike (get_or done a constant) (get_or other a constant))
    → BothAlike (families_rule done cell) (families_rule other cell)
rules_alike done other cell h = rules_related (λ F G. Alike F G) keeps_alike done other cell (record { same = λ A. refl }) h

-- ---- the families of the nodes below i

pub so_far_at : (bytes : List ℕ) (i a : ℕ) → a < i → get_or (so_far bytes i) a constant ≡ families_in bytes a
unfolding so_far
so_far_at bytes i a h = tabulate_at (families_in bytes) i a constant h

-- the settled family of node i is none of them
pub so_far_with : (bytes : List ℕ) (i : ℕ) (F : Family) → HasPart bytes (2 * i) → so_far (with_family bytes (2 * i) F) i ≡ so_far bytes i
unfolding so_far
so_far_with bytes i F has =
    tabulate_same (families_in (with_family bytes (2 * i) F)) (families_in bytes) i
    (λ a l.
    rw
    (with_there bytes (2 * i) (2 * a) F has (λ e. omega arith), with_there bytes (2 * i) (2 * a + 1) F has (λ e. omega arith)))

-- ---- one node more

-- a family written behind the parts that are done
behind : (front before : List ℕ) (part : ℕ) (F : Family) → length front ≡ 128 * part
    → with_family (front ++ drop (128 * part) before) part F ≡ (front ++ family_bytes F) ++ drop (128 * (part + 1)) before
unfolding with_family
behind front before part F e =
    let next : 128 * part + 128 ≡ 128 * (part + 1) = omega arith in
    ap₂ {C = List ℕ} (λ head tail. (head ++ family_bytes F) ++ tail) (take_at front (drop (128 * part) before) (128 * part) e)
    (ap {B = List ℕ} (λ k. drop (k + 128) (front ++ drop (128 * part) before)) (sym e)
    ∙ drop-append-add front (drop (128 * part) before) 128
    ∙ drop-drop 128 (128 * part) before ∙ ap {B = List ℕ} (λ k. drop k before) next)

work_append : (Fs Gs : List Families) → work_bytes (Fs ++ Gs) ≡ work_bytes Fs ++ work_bytes Gs
unfolding work_bytes
work_append [] Gs = refl
work_append (F ∷ Fs) Gs = rw (work_append Fs Gs) (sym (append_assoc (node_bytes F) (work_bytes Fs) (work_bytes Gs)))

one_node : (F : Families) → work_bytes (F ∷ []) ≡ family_bytes F.settled ++ family_bytes F.glitch
unfolding work_bytes node_bytes
one_node F = append-nil (family_bytes F.settled ++ family_bytes F.glitch)

-- the families of the next node, written behind those that are done
node_behind : (Fs : List Families) (before : List ℕ) (k : ℕ) (F : Families) → length Fs ≡ k
    → with_families (work_bytes Fs ++ drop (256 * k) before) k F ≡ work_bytes (Fs ++ (F ∷ [])) ++ drop (256 * (k + 1)) before
unfolding with_families
node_behind Fs before k F e =
    rw (first, second, work_append Fs (F ∷ []), one_node F)
    (rw (
      behind front before (2 * k) F.settled (omega (arith, work_length Fs)),
      behind (front ++ family_bytes F.settled) before (2 * k + 1) F.glitch
          (omega (arith, work_length Fs, length-append front (family_bytes F.settled), family_length F.settled)),
    )
    (ap {B = List ℕ} (λ l. l ++ drop (128 * (2 * k + 1 + 1)) before)
    (append_assoc front (family_bytes F.settled) (family_bytes F.glitch))))
  where
    front : List ℕ
    front = work_bytes Fs

    first : 256 * k ≡ 128 * (2 * k)
    first = omega arith

    second : 256 * (k + 1) ≡ 128 * (2 * k + 1 + 1)
    second = omega arith

-- only the sets of the families count
with_alike : (bytes : List ℕ) (i : ℕ) {F G : Families} → BothAlike F G → with_families bytes i F ≡ with_families bytes i G
unfolding with_families
with_alike bytes i {F} {G} h =
    rw (with_same bytes (2 * i) F.settled G.settled (λ A l. h.settled.same A))
    (with_same (with_family bytes (2 * i) G.settled) (2 * i + 1) F.glitch G.glitch (λ A l. h.glitch.same A))

-- ---- all nodes

-- the families of the first k nodes, and the work bytes that held `before` once these are done
abbrev first_families : Netlist → (k : ℕ) → List Families
first_families n k = table families_rule [] (take k n.nodes)

unfoldable pub nodes_done : Netlist → (before : List ℕ) → (k : ℕ) → List ℕ
nodes_done n before k = work_bytes (first_families n k) ++ drop (256 * k) before

pub first_done : (n : Netlist) (before : List ℕ) (k : ℕ) → HoldsFirst n k before → nodes_done n before k ≡ before
unfolding nodes_done families
first_done n before k held =
    rw (← table_take families_rule n.nodes k, ← held) (take-append-drop (256 * k) before)

module _ (n : Netlist) (formed : WellFormed n) where
  first_at : (k a : ℕ) → a < k → get_or (first_families n k) a constant ≡ families_at n a
  unfolding families_at families
  first_at k a h = rw (← table_take families_rule n.nodes k) (get_or-take k (table families_rule [] n.nodes) a constant h)

  -- node k, done from the bytes
  pub next_done : (before : List ℕ) (k : ℕ) → k < length n.nodes
      → with_families (nodes_done n before k) k (families_rule (so_far (nodes_done n before k) k) (get_or n.nodes k (input 0)))
      ≡ nodes_done n before (k + 1)
  unfolding nodes_done
  next_done before k h =
      with_alike bytes k
      (rules_alike (so_far bytes k) first cell
      (λ a t. let l : a < k = formed.lower k h a t in rw (so_far_at bytes k a l) (held a l)))
      ∙ node_behind first before k (families_rule first cell) there
      ∙ ap {B = List ℕ} (λ Fs. work_bytes Fs ++ drop (256 * (k + 1)) before)
      (first_next families_rule n.nodes k (input 0) h)
    where
      first : List Families
      first = first_families n k

      bytes : List ℕ
      bytes = nodes_done n before k

      cell : Cell
      cell = get_or n.nodes k (input 0)

      there : length first ≡ k
      there = first_length families_rule n.nodes k (omega arith)

      -- the bytes hold the families of the nodes that are done
      held : (a : ℕ) → a < k → BothAlike (families_in bytes a) (get_or first a constant)
      held a l =
          let (s, g) = families_small n formed a in
          record {
            settled = settled_alike first (drop (256 * k) before) a (omega (arith, there)) (rw (first_at k a l) s);
            glitch = glitch_alike first (drop (256 * k) before) a (omega (arith, there)) (rw (first_at k a l) g);
          }

pub all_done : (n : Netlist) (before : List ℕ)
    → nodes_done n before (length n.nodes) ≡ work_bytes (families n) ++ drop (length (work_bytes (families n))) before
unfolding nodes_done families
all_done n before =
    rw (
      work_length (table families_rule [] n.nodes),
      table_length families_rule [] n.nodes,
      zero-add (length n.nodes),
      take_all (length n.nodes) n.nodes (le_refl (length n.nodes)),
    )
