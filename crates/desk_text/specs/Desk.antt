-- What commands print, byte for byte: fields parted by one blank, with no line feed, so that words may follow.
-- Assumes nothing.
use Rattle.std.specs.Prelude.{ℕ, zero, suc, Bool, true, false, cond, List, [], ◌∷◌, ◌++◌, map, get_or}
use Rattle.rules.specs.Lists.{digit}
use Rattle.rules.specs.Records.{most_nodes}
use Rattle.rules.specs.Families.{Finding, clear, suspect_at}
use Rattle.rules.specs.Queries.{Memberships}
use Rattle.rules.specs.Listing.{word, decimal}
use Rattle.pair_search.specs.Pairs.{PairFinding, single, no_pair, pair_at, spent, Searched}

-- fields, a blank before each
unfoldable pub behind : List (List ℕ) → List ℕ
behind [] = []
behind (field ∷ fields) = 32 ∷ (field ++ behind fields)

-- fields parted by one blank
unfoldable pub parted : List (List ℕ) → List ℕ
parted [] = []
parted (field ∷ fields) = field ++ behind fields

-- a refusal by its number and place
unfoldable pub refusal_text : (number place : ℕ) → List ℕ
refusal_text k p = parted (word "refused" ∷ decimal k ∷ decimal p ∷ [])

-- an answer by three lines of the listing: its first one, with the counts, and its last two, with the halves
unfoldable pub counts_text : (variables nodes : ℕ) → List ℕ
counts_text variables nodes = parted (word "vars" ∷ decimal variables ∷ word "nodes" ∷ decimal nodes ∷ [])

unfoldable pub half_text : (name : List ℕ) → Finding → List ℕ
half_text name clear = parted (name ∷ word "clear" ∷ [])
half_text name (suspect_at node set) = parted (name ∷ decimal node ∷ decimal set ∷ [])

-- what a search over pairs finds
unfoldable pub found_fields : PairFinding → List (List ℕ)
found_fields (single node set) = word "single" ∷ []
found_fields no_pair = word "clear" ∷ []
found_fields (pair_at i j set) = word "suspect" ∷ decimal i ∷ decimal j ∷ decimal set ∷ []
found_fields spent = word "spent" ∷ []

-- and how many pairs were looked at
unfoldable pub pairs_text : Searched → List ℕ
pairs_text s = parted (word "pairs" ∷ found_fields s.found ++ (decimal s.looked ∷ []))

-- how far a search over pairs is: how many pairs were looked at, those of how many nodes, and how many nodes there are
unfoldable pub progress_text : (looked passed nodes : ℕ) → List ℕ
progress_text looked passed nodes =
    parted (word "pairs looked at:" ∷ decimal looked ∷ [])
    ++ parted (word ", those of" ∷ decimal passed ∷ [])
    ++ parted (word " nodes of" ∷ decimal nodes ∷ [])

-- a step of a derivation, its layer by number
unfoldable pub step_text : (node layer rule set : ℕ) → List ℕ
step_text node layer rule set = parted (decimal node ∷ decimal layer ∷ decimal rule ∷ decimal set ∷ [])

-- the settled value of a node
unfoldable pub value_text : Bool → List ℕ
value_text value = parted (word "value" ∷ decimal (digit value) ∷ [])

-- the marked nodes below k, from the lowest on
unfoldable pub marked_below : List Bool → (k : ℕ) → List ℕ
marked_below marks zero = []
marked_below marks (suc k) = marked_below marks k ++ cond (get_or marks k false) (k ∷ []) []

-- the feeding points of a node, by its marks
unfoldable pub feeding_text : List Bool → List ℕ
feeding_text marks = parted (word "feeding" ∷ map decimal (marked_below marks most_nodes))

-- a membership
unfoldable pub yes_no : Bool → List ℕ
yes_no said = cond said (word "yes") (word "no")

-- whether a set is in each of a node's families
unfoldable pub member_text : Memberships → List ℕ
member_text m = parted (word "member" ∷ word "settled" ∷ yes_no m.settled ∷ word "glitch" ∷ yes_no m.glitch ∷ [])

-- how many steps a derivation has
unfoldable pub steps_text : (count : ℕ) → List ℕ
steps_text count = parted (word "steps" ∷ decimal count ∷ [])

-- How a run of edits ended, and how many were made: where something was at fault no half is told, whatever the block
-- then is, and else the glitch half of the block as it then is.
unfoldable pub edits_fields : (faulty : Bool) → Finding → List (List ℕ)
edits_fields true glitch = word "faulty" ∷ []
edits_fields false clear = word "clear" ∷ []
edits_fields false (suspect_at node set) = word "suspect" ∷ decimal node ∷ decimal set ∷ []

unfoldable pub edits_text : (faulty : Bool) → Finding → (made : ℕ) → List ℕ
edits_text faulty glitch made = parted (word "edits" ∷ edits_fields faulty glitch ++ (decimal made ∷ []))
