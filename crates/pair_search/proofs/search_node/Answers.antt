-- `pair_search::search_node` meets its contract. The loop's invariant: the search over the pairs of node j with the
-- nodes passed has found no pair yet. Assumes nothing.
use Prim.Native.Nat.{ℕ, ◌+◌, ◌-◌}
use mathlib.Core.Path.{◌≡◌, sym, ap, ◌∙◌}
use mathlib.Core.Bool.{Bool, false, cond, ◌&&◌}
use mathlib.Core.List.{List, [], ◌∷◌}
use native.Mathlib.Omega.{arith}
use Rattle.rules.specs.Records as Records
use Rattle.netlists.proofs.Netlists.{few_nodes, few_variables}
use Rattle.suspect_sets.proofs.Sets.{tested_there}
use Rattle.pair_search.specs.Pairs.{is_tested, row, Searched, search_from}
use Rattle.pair_search.specs.Meaning.{searched_of}
use Rattle.pair_search.specs.Work.{report_between, report_in, over}
use Rattle.pair_search.specs.declared.Search.{Search}
use Rattle.pair_search.proofs.Growing.{goes_on, stays_over, one_pair, row_none, row_untested, row_more}
use Rattle.pair_search.proofs.search_node.Goals as goal

pub bounds-netlist-j : goal.bounds-netlist-j
bounds-netlist-j c = omega (arith, few_nodes c.requires.0.formed)

pub returns-then-not-is_tested : goal.returns-then-not-is_tested
unfolding search_from is_tested
returns-then-not-is_tested c =
    λ n e.
    let untested = sym (tested_there c.args.netlist n e c.args.j c.requires.1 c.is_tested.ensures) ∙ c.if-not-is_tested.true in
    rw (row_untested n c.args.j c.args.j untested) c.no_pair-so_far.ensures

pub classes_of-requires : goal.classes_of-requires
classes_of-requires c = few_variables c.requires.0.formed

pub loop-i-init : goal.loop-i-init
unfolding search_from
loop-i-init c = (ap (λ (s : Searched). over s.found) c.no_pair-so_far.ensures, λ n e. rw (row_none n _) c.no_pair-so_far.ensures)

pub bounds-netlist-i : goal.bounds-netlist-i
bounds-netlist-i c = omega (arith, few_nodes c.requires.0.formed)

-- the search over the nodes passed and that of the turn, whose pair is looked at if both are tested
looked_on : (n : Records.Netlist) (work : List ℕ) (limit looked j i : ℕ) (a b : Bool) (so_far next : Search)
    → a ≡ is_tested n j → b ≡ is_tested n i → over (searched_of so_far).found ≡ false
    → searched_of so_far ≡ search_from (report_in n.variables work) limit looked (row n j i)
    → searched_of next ≡ search_from (report_between n.variables work work) limit so_far.looked (cond (a && b) (record { i = i; j = j } ∷ []) [])
    → searched_of next ≡ search_from (report_in n.variables work) limit looked (row n j (i + 1))
unfolding report_in
looked_on n work limit looked j i a b so_far next higher lower free before turn =
    rw (row_more n j i, goes_on (report_between n.variables work work) limit looked (row n j i) (one_pair n j i) (searched_of so_far) before free)
    (rw (← higher, ← lower) turn)

pub loop-i-preserved : goal.loop-i-preserved
unfolding is_tested
loop-i-preserved c = (
  sym c.is_over.ensures ∙ c.if-is_over.false,
  λ n e.
      looked_on n _ _ _ _ _ _ _ c.loop-i.so_far c.look-so_far.result
      (sym c.if-not-is_tested.false ∙ tested_there c.args.netlist n e c.args.j c.requires.1 c.is_tested.ensures)
      (tested_there c.args.netlist n e c.loop-i.i (omega (arith, c.requires.1)) c.is_tested-both.ensures)
      c.loop-i.invariant.0 (c.loop-i.invariant.1 n e) (c.look-so_far.ensures n.variables (c.classes_of.ensures n e)),
)

pub returns-then-is_over : goal.returns-then-is_over
unfolding is_tested
returns-then-is_over c =
    λ n e.
    let i = c.loop-i.i in
    let j = c.args.j in
    let rest : (i + 1) + (j - (i + 1)) ≡ j = omega arith in
    let on =
    looked_on n _ _ _ _ _ _ _ c.loop-i.so_far c.look-so_far.result
    (sym c.if-not-is_tested.false ∙ tested_there c.args.netlist n e c.args.j c.requires.1 c.is_tested.ensures)
    (tested_there c.args.netlist n e c.loop-i.i (omega (arith, c.requires.1)) c.is_tested-both.ensures)
    c.loop-i.invariant.0 (c.loop-i.invariant.1 n e) (c.look-so_far.ensures n.variables (c.classes_of.ensures n e)) in
    rw rest at
    (stays_over _ _ (row n j) (one_pair n j) (row_more n j) _ (i + 1) (j - (i + 1)) _ on (sym c.is_over.ensures ∙ c.if-is_over.true))
