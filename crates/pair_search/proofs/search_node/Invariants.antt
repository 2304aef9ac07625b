-- `pair_search::search_node` meets its contract. The loop's invariant: the search over the pairs of node j with the
-- nodes passed has found no pair yet. Assumes nothing.
use mathlib.Core.Path.{◌≡◌}
use mathlib.Core.Bool.{false}
use Rattle.rules.specs.Records as Records
use Rattle.netlists.specs.Netlists.{flat_of}
use Rattle.pair_search.specs.Pairs.{row, search_from}
use Rattle.pair_search.specs.Meaning.{searched_of}
use Rattle.pair_search.specs.Work.{report_in, over}
use Rattle.pair_search.proofs.search_node.Given as goal

abbrev pub invariant-loop-i : goal.invariant-loop-i
invariant-loop-i l =
    (over (searched_of l.so_far).found ≡ false)
    × ((n : Records.Netlist) → l.netlist ≡ flat_of n
    → searched_of l.so_far ≡ search_from (report_in n.variables l.work) l.terms.limit l.fn.looked (row n l.j l.i))
