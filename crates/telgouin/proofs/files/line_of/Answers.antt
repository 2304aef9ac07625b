-- `telgouin::files::line_of` meets its contract: the number of each reason is that of its arm. Assumes nothing.
use Rattle.std.specs.Prelude.{ℕ, ◌≡◌, false, cond, List, eqb, ltb, get_or}
use mathlib.Core.Path.{refl}
use mathlib.Core.Logic.{inl, inr}
use borrow.Author.Tests.{ne_eqb}
use Rattle.rules.specs.declared.Reason.{Reason}
use Rattle.rules.specs.Paper.{reason_number}
use Rattle.telgouin.specs.Files.{line_in}
use Rattle.telgouin.proofs.files.line_of.Goals as goal

-- the line of a reason that is known, in a text that has lines
told
    : (reason own : Reason) → reason ≡ own → (place : ℕ) (lines : List ℕ) (last x : ℕ) → eqb last 0 ≡ false
    → x ≡ cond (ltb 9 (reason_number own)) 0 (cond (eqb (reason_number own) 8) last (get_or lines place last))
    → x ≡ line_in (reason_number reason) place lines last
unfolding line_in
told reason own is place lines last x some e = rw (is, some) e

pub returns-then-last-eq0 : goal.returns-then-last-eq0
unfolding line_in
returns-then-last-eq0 c = rw c.if-last-eq0.true refl

pub returns-in-NoEnd : goal.returns-in-NoEnd
returns-in-NoEnd c =
    let s = c.args in let some = ne_eqb s.last 0 c.if-last-eq0.false in
    told _ _ c.in-NoEnd.is s.refusal.place s.lines.now s.last _ some refl

pub returns-in-UnknownKind : goal.returns-in-UnknownKind
returns-in-UnknownKind c =
    let s = c.args in let some = ne_eqb s.last 0 c.if-last-eq0.false in
    let line = c.line_at.ensures in
    elim c.in-UnknownKind.is [
      | inl is ↦ told _ _ is s.refusal.place s.lines.now s.last _ some line
      | inr (inl is) ↦ told _ _ is s.refusal.place s.lines.now s.last _ some line
      | inr (inr (inl is)) ↦ told _ _ is s.refusal.place s.lines.now s.last _ some line
      | inr (inr (inr (inl is))) ↦ told _ _ is s.refusal.place s.lines.now s.last _ some line
      | inr (inr (inr (inr (inl is)))) ↦ told _ _ is s.refusal.place s.lines.now s.last _ some line
      | inr (inr (inr (inr (inr (inl is))))) ↦ told _ _ is s.refusal.place s.lines.now s.last _ some line
      | inr (inr (inr (inr (inr (inr (inl is)))))) ↦ told _ _ is s.refusal.place s.lines.now s.last _ some line
      | inr (inr (inr (inr (inr (inr (inr is)))))) ↦ told _ _ is s.refusal.place s.lines.now s.last _ some line
    ]

pub returns-in-FewEntries : goal.returns-in-FewEntries
returns-in-FewEntries c =
    let s = c.args in let some = ne_eqb s.last 0 c.if-last-eq0.false in
    elim c.in-FewEntries.is [
      | inl is ↦ told _ _ is s.refusal.place s.lines.now s.last _ some refl
      | inr (inl is) ↦ told _ _ is s.refusal.place s.lines.now s.last _ some refl
      | inr (inr (inl is)) ↦ told _ _ is s.refusal.place s.lines.now s.last _ some refl
      | inr (inr (inr (inl is))) ↦ told _ _ is s.refusal.place s.lines.now s.last _ some refl
      | inr (inr (inr (inr (inl is)))) ↦ told _ _ is s.refusal.place s.lines.now s.last _ some refl
      | inr (inr (inr (inr (inr (inl is))))) ↦ told _ _ is s.refusal.place s.lines.now s.last _ some refl
      | inr (inr (inr (inr (inr (inr is))))) ↦ told _ _ is s.refusal.place s.lines.now s.last _ some refl
    ]
