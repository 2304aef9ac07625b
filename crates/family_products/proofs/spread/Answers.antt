-- `family_products::spread` meets its contract: the part has the product, and then the second family, the first and the
-- empty set are put into it (`with_other`, `with_one`). Assumes nothing.
use mathlib.Core.Path.{◌∙◌}
use native.Mathlib.Omega.{arith}
use Rattle.rules.specs.Families.{spread}
use Rattle.families.specs.Parts.{HasPart}
use Rattle.families.proofs.Parts.{with_one, with_other}
use Rattle.family_products.proofs.spread.Goals as goal

pub returns : goal.returns
unfolding spread
returns c =
    let work = c.args.work.now in
    let into = c.args.into in
    let has : HasPart work into = c.requires.0 in
    let united = c.unite.ensures
    ∙ with_other work c.multiply.new.work into _ has c.multiply.ensures c.args.second (λ same. omega arith) in
    let united-both = c.unite-2.ensures
    ∙ with_other work c.unite.new.work into _ has united c.args.first (λ same. omega arith) in
    c.insert.ensures ∙ with_one work c.unite-2.new.work into _ has united-both 0
