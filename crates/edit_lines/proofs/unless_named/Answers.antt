-- `edit_lines::unless_named` meets its contract: a file's name is no edit, and all else stays. Assumes nothing.
use Prim.Native.Nat.{ℕ}
use mathlib.Core.Path.{◌≡◌, refl}
use mathlib.Core.Bool.{true}
use mathlib.Core.List.{List}
use Rattle.edit_lines.specs.Asks.{unless_stuck}
use Rattle.edit_lines.specs.declared.Ask.{Ask}
use Rattle.edit_lines.specs.Meaning.{asks_by}
use Rattle.edit_lines.proofs.unless_named.Goals as goal

-- what is no `Write` stays
stays : (ask : Ask) → ((from to : ℕ) → ask ≡ Ask.Write from to → ⊥) → (own line : List ℕ) → asks_by ask own line ≡ unless_stuck true (asks_by ask own line)
unfolding unless_stuck
stays Ask.Nothing other own line = refl
stays (Ask.Add count) other own line = refl
stays (Ask.Remove node) other own line = refl
stays Ask.List other own line = refl
stays (Ask.Write from to) other own line = absurd (other from to refl)
stays Ask.Quit other own line = refl
stays (Ask.NoRecord fault) other own line = refl
stays Ask.NoNumber other own line = refl
stays Ask.NoEdit other own line = refl

pub returns-in-Write-clause-asks : goal.returns-in-Write-clause-asks
unfolding unless_stuck
returns-in-Write-clause-asks c = λ own line. rw c.in-Write.is

pub returns-in_default : goal.returns-in_default
returns-in_default c = record { asks = stays c.args.ask c.in_default.not-Write; within = λ long h. h }
