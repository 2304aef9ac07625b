-- Lines of edits and what they ask for, computed. Assumes nothing.
use mathlib.Core.Path.{◌≡◌, refl}
use mathlib.Core.List.{[], ◌∷◌}
use Rattle.rules.specs.Records.{listed, first_of, kind_of, body, record_bytes}
use Rattle.rules.specs.Checks.{not_below}
use Rattle.rules.specs.Listing.{word, name_of}
use Rattle.scanner.specs.Numbers.{are_digits, value_behind, number_behind, number_in, cut}
use Rattle.scanner.specs.Words.{closed, words_behind, words, same}
use Rattle.read_words.specs.Words.{with_numbers, with_operands, forms, read_by, record_in}
use Rattle.edit_rules.specs.Edits.{add, remove}
use Rattle.edit_lines.specs.Asks.{none, changes, lists, writes, quits, no_edit, addition, only, removal, written, alone, asked, stuck, unless_stuck, asks_in}

-- edits of every kind, and a line that asks nothing
edits : (asks_in (word "add xor 3 4") ≡ changes (add (4 ∷ 3 ∷ 4 ∷ [])))
    × (asks_in (word "remove 4") ≡ changes (remove 4))
    × (asks_in (word "\tremove 04\r") ≡ changes (remove 4))
    × (asks_in (word "list") ≡ lists)
    × (asks_in (word "write out.txt") ≡ writes (word "out.txt"))
    × (asks_in (word "quit # at last") ≡ quits)
    × (asks_in (word "  ") ≡ none)
    × (asks_in (word "# add xor 3 4") ≡ none)
unfolding asks_in unless_stuck stuck asked word words words_behind closed same addition only removal written alone record_in read_by forms with_numbers with_operands not_below name_of listed first_of cut number_in number_behind are_digits value_behind record_bytes kind_of body
edits = (refl, refl, refl, refl, refl, refl, refl, refl)

-- a comment that is stuck to a word: nothing is written, and every other edit stays
comments : (asks_in (word "remove 4#gone") ≡ changes (remove 4))
    × (asks_in (word "write o#1") ≡ no_edit)
    × (asks_in (word "write o # now") ≡ writes (word "o"))
unfolding asks_in unless_stuck stuck asked word words words_behind closed same only removal written number_in number_behind are_digits value_behind
comments = (refl, refl, refl)

-- what is no edit: a word missing, a word too many, no record, no number, or no word of an edit
no_edits : (asks_in (word "add") ≡ no_edit)
    × (asks_in (word "remove") ≡ no_edit)
    × (asks_in (word "write") ≡ no_edit)
    × (asks_in (word "list 1") ≡ no_edit)
    × (asks_in (word "remove 4 5") ≡ no_edit)
    × (asks_in (word "add xor 3") ≡ no_edit)
    × (asks_in (word "remove x") ≡ no_edit)
    × (asks_in (word "Quit") ≡ no_edit)
unfolding asks_in unless_stuck stuck asked word words words_behind closed same addition only removal written alone record_in read_by forms with_numbers with_operands name_of number_in number_behind are_digits value_behind
no_edits = (refl, refl, refl, refl, refl, refl, refl, refl)
