-- `scanner::word_at` meets its contract: the word that is found next is the word asked for. Assumes nothing.
use Rattle.std.proofs.Common.{arith, ◌≡◌, ◌≤◌, length, Option, Some, None, MatchOption, [], List, ℕ, drop}
use Rattle.scanner.specs.declared.Place.{Place}
use Rattle.scanner.specs.Words.{words}
use Rattle.scanner.specs.Scans.{NextWord, IsWord}
use Rattle.scanner.proofs.Words.{few_words, word_here, word_passed}
use Rattle.scanner.proofs.word_at.Goals as goal

pub returns-in_err-at : goal.returns-in_err-at
returns-in_err-at c =
    rw c.from_residual.ensures (omega (arith, few_words _ c.loop.at c.loop.counter c.loop.invariant.1 c.in_err-at.ensures))

pub loop-preserved : goal.loop-preserved
loop-preserved c =
    (c.in_ok-at.ensures.within, word_passed _ c.loop.at c.loop.counter c.loop.invariant.1 _ _ c.in_ok-at.ensures)

-- the next word, where k were passed
next : (line : List ℕ) (at k : ℕ) (found : Option Place) → drop k (words line) ≡ words (drop at line)
    → MatchOption found (words (drop at line) ≡ []) (λ word. NextWord line at word.from word.to)
    → MatchOption found (length (words line) ≤ k) (λ word. IsWord line k word.from word.to)
next line at k None passed is = few_words _ _ _ passed is
next line at k (Some word) passed is = word_here _ _ _ passed _ _ is

pub returns : goal.returns
returns c =
    let all : c.loop.counter ≡ c.args.k = omega arith in
    rw (← all) (next _ c.loop.at _ _ c.loop.invariant.1 c.next_word-2.ensures)
