-- A search over pairs that goes on node by node: when it is done, and what it has found till then.
-- Cited by the contracts of this crate. Assumes nothing.
use Rattle.std.specs.Prelude.{ℕ, ◌≤◌, ◌≡◌, Bool, ◌||◌, List, leb, length}
use Rattle.rules.specs.Records as Records
use Rattle.rules.specs.Families.{half}
use Rattle.rules.specs.Slices.{work_after, reply}
use Rattle.rules.specs.Checks.{answered, admitted}
use Rattle.rules.specs.Paper.{reply_of}
use Rattle.netlists.specs.declared.Netlist.{Netlist}
use Rattle.netlists.specs.Netlists.{flat_of, Ready, kept}
use Rattle.pair_search.specs.Pairs.{pairs_below, search_from, unless_single}
use Rattle.pair_search.specs.Meaning.{searched_of}
use Rattle.pair_search.specs.Work.{report_in, over}
use Rattle.pairs.specs.declared.Progress.{Progress}

-- no node is left, or the search ends with what it found
abbrev pub is_done : Progress → Bool
is_done progress = leb progress.nodes progress.next || over (searched_of progress.search).found

-- A search is under way where netlist and work bytes are those that `examine` leaves of netlist bytes, a number of
-- entries and work bytes: the reply is that of one probe, and what was found is what the search under the limit finds
-- in the pairs of the nodes below the next, unless a node is suspect by itself.
pub record Underway (bytes : List ℕ) (entries limit : ℕ) (before : List ℕ) (netlist : Netlist)
    (work : List ℕ) (progress : Progress) : Type 0 where
  pub replied : reply_of progress.reply ≡ reply bytes entries (length before)
  pub value : netlist ≡ flat_of (kept (admitted bytes entries (length before)))
  pub held : work ≡ work_after bytes entries before
  pub ready : Ready netlist (length work)
  pub nodes : progress.nodes ≡ netlist.count
  pub within : progress.next ≤ progress.nodes
  pub found : (n : Records.Netlist) → admitted bytes entries (length before) ≡ answered n
      → searched_of progress.search
      ≡ unless_single (half (λ F. F.glitch) n)
      (search_from (report_in n.variables work) limit 0 (pairs_below n progress.next))
