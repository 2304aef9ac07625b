-- `pair_search::look` meets its contract: the search over one pair or none, by the limit and by what the pair reports.
-- Assumes nothing.
use mathlib.Core.Path.{◌≡◌, sym, ap, ◌∙◌}
use mathlib.Core.Bool.{Bool, cond}
use mathlib.Core.List.{[], ◌∷◌}
use mathlib.Core.Option.{some, none}
use native.Mathlib.Numerals.{add-one}
use borrow.Author.Tests.{lt-ltb, le-ltb}
use Rattle.suspect_sets.specs.Sets.{report_of}
use Rattle.pair_search.specs.Pairs.{onward, search_from}
use Rattle.pair_search.specs.Work.{report_between}
use Rattle.pair_search.proofs.look.Goals as goal

pub returns-then-not-both : goal.returns-then-not-both
unfolding search_from
returns-then-not-both c =
    λ variables by.
    let args = c.args in
    c.no_pair.ensures
    ∙ ap (λ (b : Bool). search_from (report_between variables args.first.now args.second.now) args.terms.limit args.looked (cond b (record { i = args.i; j = args.j } ∷ []) []))
    (sym c.if-not-both.true)

pub returns-then-looked-terms : goal.returns-then-looked-terms
unfolding search_from
returns-then-looked-terms c = λ variables by. rw (c.if-not-both.false, le-ltb _ _ c.if-looked-terms.true)

pub returns-in-Some : goal.returns-in-Some
unfolding search_from onward report_of report_between
returns-in-Some c =
    λ variables by.
    let reports : some c.in-Some.set ≡ _ = rw (c.part-p.ensures.at, c.part-q.ensures.at) at (c.in-Some.ensures.reported variables by) in
    rw (c.if-not-both.false, lt-ltb _ _ c.if-looked-terms.false, ← reports, add-one)

pub returns-in-None : goal.returns-in-None
unfolding search_from onward report_of report_between
returns-in-None c =
    λ variables by.
    let reports : none ≡ _ = rw (c.part-p.ensures.at, c.part-q.ensures.at) at (c.in-None.ensures.reported variables by) in
    rw (c.if-not-both.false, lt-ltb _ _ c.if-looked-terms.false, ← reports, c.no_pair-in-None.ensures, add-one)
