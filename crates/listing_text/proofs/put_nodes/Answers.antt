-- `listing_text::put_nodes` meets its contract. The loop's invariant: the lines of the first i nodes are behind the
-- front, each of at most 18 bytes. Assumes nothing.
use Prim.Native.Nat.{ℕ, ◌+◌, ◌*◌, ◌≤◌, ◌<◌}
use mathlib.Core.Path.{◌≡◌, refl, sym, ap, ◌∙◌}
use mathlib.Core.List.{List, [], ◌∷◌, ◌++◌}
use native.Mathlib.Omega.{arith}
use borrow.Author.Rules.{rules}
use Rattle.std.proofs.lemmas.List.{get_or-take}
use lib.ListN.{length, get_or}
use Rattle.rules.specs.declared.Node.{Node}
use Rattle.rules.specs.Records.{input, Netlist, WellFormed, kind_of, most_sets}
use Rattle.rules.specs.Families.{families}
use Rattle.rules.specs.Slices.{entry, work_bytes}
use Rattle.rules.specs.Listing.{decimal, line, kind_name, node_lines}
use Rattle.rule_laws.proofs.Listing.{first_lines, first_none, first_more, first_all}
use Rattle.netlists.specs.declared.Netlist as Value
use Rattle.netlists.specs.Netlists.{blank, flat_of}
use Rattle.netlists.proofs.Netlists.{value_count, value_entry}
use Rattle.families.specs.Parts.{family_at}
use Rattle.families.proofs.Parts.{length_at}
use Rattle.families.proofs.Work.{settled_size, glitch_size}
use Rattle.listing_lines.proofs.Text.{appended_none, appended_more, appended_as}
use Rattle.listing_text.proofs.put_nodes.Goals as goal

module _ {value : Value.Netlist} (n : Netlist) (e : value ≡ flat_of n) where
  -- the kind of node i
  kind_at : (i : ℕ) → i < value.count → (get_or value.nodes i blank).kind ≡ kind_of (get_or n.nodes i (input 0))
  unfolding entry
  kind_at i h = ap (λ (node : Node). node.kind) (value_entry n e i h)

  -- one line more, whose counts are those of the node's parts
  next_line : WellFormed n → {work : List ℕ} (rest : List ℕ) {i p q settled glitch : ℕ} → work ≡ work_bytes (families n) ++ rest → i < value.count
      → p ≡ 2 * i + 0 → q ≡ 2 * i + 1 → settled ≡ length (family_at work p) → glitch ≡ length (family_at work q)
      → first_lines n i ++ line (decimal i ∷ kind_name (get_or n.nodes i (input 0)) ∷ decimal settled ∷ decimal glitch ∷ []) ≡ first_lines n (i + 1)
  next_line formed rest {i} {p} w h first second s g =
      let there : i < length n.nodes = omega (arith, value_count n e) in
      let even : p ≡ 2 * i = omega (arith, first) in
      rw (s, g, even, second, w, settled_size n formed rest i there, glitch_size n formed rest i there) (sym (first_more n i there))

  -- and where the count is reached, all lines
  all_lines : {i : ℕ} → i ≤ value.count → value.count ≤ i → first_lines n i ≡ node_lines 0 n.nodes (families n)
  all_lines {i} h l = let all : i ≡ length n.nodes = omega (arith, value_count n e) in rw all (first_all n)

pub loop-i-init : goal.loop-i-init
loop-i-init c = (refl, omega arith, λ n rest f e w. appended_as (sym (first_none n)) (appended_none _ _))

-- a part has at most 1,024 sets, and so has what is answered of its size
few_sets : (work : List ℕ) (part : ℕ) {size : ℕ} → size ≡ length (family_at work part) → size ≤ most_sets
few_sets work part e = rw e (length_at work part)

pub put_node-end-requires : goal.put_node-end-requires
put_node-end-requires c =
    (omega arith, omega (arith, c.requires.1), few_sets _ _ c.size-settled.ensures, few_sets _ _ c.size-glitch.ensures)

pub loop-i-preserved : goal.loop-i-preserved
loop-i-preserved c = (
  search rules,
  omega arith,
  λ n rest f e w.
      let few : c.loop-i.i < c.args.netlist.count = omega arith in
      appended_as (next_line n e f rest w few c.part.ensures.at c.part-in-loop-i.ensures.at c.size-settled.ensures c.size-glitch.ensures)
      (appended_more (c.loop-i.invariant.2 n rest f e w) (c.put_node-end.ensures.appended _ (ap (λ (node : Node). node.kind) (get_or-take _ _ _ _ few) ∙ kind_at n e _ few))),
)

pub returns-clause-appended : goal.returns-clause-appended
returns-clause-appended c =
    λ n rest f e w. appended_as (all_lines n e (omega arith) (omega arith)) (c.loop-i.invariant.2 n rest f e w)
