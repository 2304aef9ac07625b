-- `listing_text::put_answer` meets its contract: the line of the counts, those of the nodes and those of the halves,
-- at most 203 of at most 18 bytes each. Assumes nothing.
use mathlib.Core.Path.{◌≡◌}
use mathlib.Core.List.{[], ◌∷◌, ◌++◌, append_assoc}
use Rattle.rules.specs.declared.Half.{Half}
use Rattle.rules.specs.Records.{Netlist}
use Rattle.rules.specs.Families.{families, findings}
use Rattle.rules.specs.Listing.{word, decimal, line, node_lines, half_line, netlist_text}
use Rattle.rules.specs.Paper.{finding_of}
use Rattle.netlists.specs.declared.Netlist as Value
use Rattle.netlists.specs.Netlists.{flat_of}
use Rattle.netlists.proofs.Netlists.{value_variables, value_count}
use Rattle.listing_lines.proofs.Text.{appended_more, appended_as}
use Rattle.listing_text.proofs.put_answer.Goals as goal

-- the text of a netlist by its value and the halves of its answer
block_text : (value : Value.Netlist) (settled glitch : Half) (n : Netlist) → value ≡ flat_of n → finding_of settled ≡ (findings n).settled
    → finding_of glitch ≡ (findings n).glitch
    → line (word "vars" ∷ decimal value.variables ∷ word "nodes" ∷ decimal value.count ∷ [])
    ++ node_lines 0 n.nodes (families n)
    ++ (half_line (word "settled") (finding_of settled) ++ half_line (word "glitch") (finding_of glitch))
    ≡ netlist_text n
unfolding netlist_text
block_text value settled glitch n is s g = rw (value_variables n is, value_count n is, s, g, ← append_assoc)

pub returns-clause-appended : goal.returns-clause-appended
returns-clause-appended c =
    λ n rest f e settled glitch w.
    appended_as (block_text _ c.args.settled c.args.glitch n e settled glitch)
    (appended_more (appended_more c.put_counts-lines.ensures.appended (c.put_nodes-halves.ensures.appended n rest f e w)) c.put_halves.ensures)
