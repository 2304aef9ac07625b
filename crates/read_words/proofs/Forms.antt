-- The forms of a record: a word that is looked for among them from the front on. Assumes nothing.
use Rattle.std.proofs.Common.{◌≡◌, refl, Bool, true, false, cond, Some, List, [], ◌∷◌, map, find, get_or, ℕ, ◌<◌, ◌≤◌, ◌∙◌}
use Rattle.std.proofs.lemmas.List.{get_or-map, get_or_past}
use Rattle.scanner.specs.Words.{same}
use Rattle.read_words.specs.declared.RecordForm.{RecordForm}
use Rattle.read_words.specs.declared.TheConstants.{FORMS}
use Rattle.read_words.specs.Words.{Form, form, forms, read_by}
use Rattle.read_words.specs.Meaning.{name_of, reads_of, form_by, no_form, form_at, read_as}

entry_read : (f : Form) (rest : List Form) (name : List ℕ) (numbers : List (List ℕ))
    → read_by (f ∷ rest) name numbers ≡ cond (same name (name_of f)) (reads_of f numbers) (read_by rest name numbers)
unfolding read_by name_of reads_of
entry_read (form own reads) rest name numbers = refl

found_read : (owns : List RecordForm) (name : List ℕ) (numbers : List (List ℕ))
    → read_by (map form_by owns) name numbers ≡ read_as (find (λ own. same name (name_of (form_by own))) owns) numbers
unfolding read_by
found_read [] name numbers = refl
found_read (own ∷ owns) name numbers =
    entry_read (form_by own) (map form_by owns) name numbers ∙ go (found_read owns name numbers) (same name (name_of (form_by own)))
  where
    go : read_by (map form_by owns) name numbers ≡ read_as (find (λ own. same name (name_of (form_by own))) owns) numbers → (b : Bool)
        → cond b (reads_of (form_by own) numbers) (read_by (map form_by owns) name numbers)
        ≡ read_as (cond b (Some own) (find (λ own. same name (name_of (form_by own))) owns)) numbers
    go more true = refl
    go more false = more

all_forms : forms ≡ map form_by FORMS
unfolding forms form_by
all_forms = refl

-- the form with a number: that of the code's list, and none beyond the last
pub form_there : (k : ℕ) (d : RecordForm) → k < 10 → form_at k ≡ form_by (get_or FORMS k d)
unfolding form_at
form_there k d inside = rw all_forms (get_or-map form_by FORMS k d no_form inside)

pub form_beyond : (k : ℕ) → 10 ≤ k → form_at k ≡ no_form
unfolding form_at forms
form_beyond k beyond = get_or_past forms k no_form beyond

-- what a word and the numbers behind it say
pub word_read : (name : List ℕ) (numbers : List (List ℕ))
    → read_by forms name numbers ≡ read_as (find (λ own. same name (name_of (form_by own))) FORMS) numbers
word_read name numbers = rw all_forms (found_read FORMS name numbers)
