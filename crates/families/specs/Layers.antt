-- The two layers, of settled and of glitching signals, by their numbers. Cited by the contracts of this crate and of
-- its callers. Assumes nothing.
use Rattle.std.specs.Prelude.{ℕ, ◌≡◌, ◌≤◌, Result, MatchResult}
use Rattle.families.specs.declared.Layer.{Layer}
use Rattle.families.specs.declared.Layer.TheVariants.{Settled, Glitch}
use Rattle.families.specs.declared.NoLayer.{NoLayer}

-- the number of a layer
abbrev pub number_of : Layer → ℕ
number_of Settled = 0
number_of Glitch = 1

-- the layer with this number, where there is one: 0 or 1
abbrev pub Numbered : ℕ → Result Layer NoLayer → Type 0
Numbered number r = MatchResult r (λ layer. number_of layer ≡ number) (λ _. 2 ≤ number)
