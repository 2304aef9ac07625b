-- What the cases of the code's answer mean: what the line asks for. Cited by the contracts of this crate.
-- Assumes nothing.
use Rattle.std.specs.Prelude.{ℕ, ◌≤◌, List, take}
use Rattle.rules.specs.Records.{most_record}
use Rattle.scanner.specs.Scans.{part}
use Rattle.edit_rules.specs.Edits.{add, remove}
use Rattle.edit_lines.specs.declared.Ask.{Ask}
use Rattle.edit_lines.specs.declared.Asked.{Asked}
use Rattle.edit_lines.specs.Asks.{Asks, none, changes, lists, writes, quits, no_edit}

-- a file's name is a part of the line, and a new node's record begins these bytes
abbrev pub asks_by : Ask → (own line : List ℕ) → Asks
asks_by Ask.Nothing own line = none
asks_by (Ask.Add count) own line = changes (add (take count own))
asks_by (Ask.Remove node) own line = changes (remove node)
asks_by Ask.List own line = lists
asks_by (Ask.Write from to) own line = writes (part from to line)
asks_by Ask.Quit own line = quits
asks_by (Ask.NoRecord fault) own line = no_edit
asks_by Ask.NoNumber own line = no_edit
asks_by Ask.NoEdit own line = no_edit

abbrev pub asks_of : Asked → (line : List ℕ) → Asks
asks_of asked line = asks_by asked.ask asked.own line

-- a record has no more bytes than the longest, and a file's name is a part of a line of so many
abbrev pub WithinBy : Ask → (long : ℕ) → Type 0
WithinBy Ask.Nothing long = Unit {0}
WithinBy (Ask.Add count) long = count ≤ most_record
WithinBy (Ask.Remove node) long = Unit {0}
WithinBy Ask.List long = Unit {0}
WithinBy (Ask.Write from to) long = (from ≤ to) × (to ≤ long)
WithinBy Ask.Quit long = Unit {0}
WithinBy (Ask.NoRecord fault) long = Unit {0}
WithinBy Ask.NoNumber long = Unit {0}
WithinBy Ask.NoEdit long = Unit {0}

abbrev pub Within : Asked → (long : ℕ) → Type 0
Within asked long = WithinBy asked.ask long
