-- What the answers of this crate's functions tell of a line and of a text. Cited by the contracts of this crate.
-- Assumes nothing.
use Rattle.std.specs.Prelude.{ℕ, ◌≤◌, min, max, ◌≡◌, Option, Some, None, Result, Ok, Err, List, [], ◌++◌, length, get_or, take, drop}
use Rattle.rules.specs.Records.{secret, mask, public, NOT, XOR, AND, OR, register, Record, end, variable, record_bytes, most_record}
use Rattle.rules.specs.Listing as Listing
use Rattle.rules.specs.Listing.{word, most_input}
use Rattle.netlists.specs.Netlists.{padded}
use Rattle.scanner.specs.Words.{lines_of}
use Rattle.read_words.specs.declared.Fault.{Fault}
use Rattle.read_words.specs.declared.LineFault.{LineFault}
use Rattle.read_words.specs.declared.BlockSize.{BlockSize}
use Rattle.read_words.specs.declared.RecordForm.{RecordForm}
use Rattle.read_words.specs.declared.RecordBytes.{RecordBytes}
use Rattle.read_words.specs.Words.{Said, nothing, says, wrong, alone, with_variables, with_operands, Form, form, forms}
use Rattle.read_words.specs.Words.{BlockSaid, block, wrong_in, block_in}

-- ---- a form

-- its word, and how what stands behind it is read
unfoldable pub name_of : Form → List ℕ
name_of (form name reads) = name

unfoldable pub reads_of : Form → List (List ℕ) → Said
reads_of (form name reads) = reads

-- the form of the code's enum
unfoldable pub form_by : RecordForm → Form
form_by RecordForm.End = form (word "end") (alone end)
form_by RecordForm.Secret = form (word "secret") (alone (variable secret))
form_by RecordForm.Mask = form (word "mask") (alone (variable mask))
form_by RecordForm.Public = form (word "public") (alone (variable public))
form_by RecordForm.Input = form (word "in") (with_variables 0)
form_by RecordForm.Not = form (Listing.name_of NOT) (with_operands NOT)
form_by RecordForm.Xor = form (Listing.name_of XOR) (with_operands XOR)
form_by RecordForm.And = form (Listing.name_of AND) (with_operands AND)
form_by RecordForm.Or = form (Listing.name_of OR) (with_operands OR)
form_by RecordForm.Register = form (Listing.name_of register) (with_operands register)

-- the form with this number; what is beyond the last has no word, and is no record
abbrev pub no_form : Form
no_form = form [] (λ numbers. wrong Fault.Record)

unfoldable pub form_at : ℕ → Form
form_at k = get_or forms k no_form

-- what is read where a word has this form, or none
abbrev pub read_as : Option RecordForm → List (List ℕ) → Said
read_as (Some own) numbers = reads_of (form_by own) numbers
read_as None numbers = wrong Fault.Record

-- ---- a line

-- a line says a record, whose bytes are the first n of those that were stored, with 0 behind them
pub record IsRecord (said : Said) (n : ℕ) (bytes : List ℕ) : Type 0 where
  pub own : Record
  pub is : said ≡ says own
  pub long : n ≡ length (record_bytes own)
  pub front : take n bytes ≡ record_bytes own
  pub whole : bytes ≡ padded most_record 0 (record_bytes own)
  pub few : n ≤ most_record

-- what is told of a record in words: its bytes, or what was expected instead
abbrev pub Tells : Result RecordBytes Fault → Said → Type 0
Tells (Ok r) said = IsRecord said r.size r.bytes
Tells (Err fault) said = said ≡ wrong fault

-- the answer for a line, with the bytes before and those that were stored; where there is no record,
-- they are as they were
abbrev pub TellsRecord : Result (Option ℕ) Fault → (before bytes : List ℕ) → Said → Type 0
TellsRecord (Ok None) before bytes said = (said ≡ nothing) × (bytes ≡ before)
TellsRecord (Ok (Some n)) before bytes said = IsRecord said n bytes
TellsRecord (Err fault) before bytes said = (said ≡ wrong fault) × (bytes ≡ before)

-- ---- a text

-- an array with bytes at its front, as far as there is room; behind them it is as it was
abbrev pub stored : (own before : List ℕ) → List ℕ
stored own before = let n = min (length own) (length before) in take n own ++ drop n before

-- A text says a block, whose bytes were stored: all n of them, or 1,024 of more. The lines of its records were stored
-- too, and `last` is how many lines the text has, or 1 if it has none.
pub record IsBlock (said : BlockSaid) (text : List ℕ) (n last : ℕ) (before bytes lines : List ℕ) : Type 0 where
  pub own : List ℕ
  pub is : said ≡ block own lines
  pub kept : n ≡ min (length own) most_input
  pub held : bytes ≡ stored own before
  pub all_lines : last ≡ max 1 (length (lines_of text))

-- Something else was expected in a line of a text: what the lines before it say was stored.
pub record IsWrong (said : BlockSaid) (fault : Fault) (line : ℕ) (before bytes lines : List ℕ) : Type 0 where
  pub own : List ℕ
  pub is : said ≡ wrong_in fault line own lines
  pub held : bytes ≡ stored own before

-- the answer for a text and what both arrays held before, with the bytes and the lines that they hold then
abbrev pub TellsBlock : Result BlockSize LineFault → (text bytes-before lines-before bytes lines : List ℕ) → Type 0
TellsBlock (Ok size) text bytes-before lines-before bytes lines = IsBlock (block_in text lines-before) text size.bytes size.lines bytes-before bytes lines
TellsBlock (Err found) text bytes-before lines-before bytes lines = IsWrong (block_in text lines-before) found.fault found.line bytes-before bytes lines
