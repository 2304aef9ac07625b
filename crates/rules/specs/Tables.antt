-- What is worked out node by node, in file order: settled values, feeding points and families. A table has an entry for
-- each node, and the next entry is a step from the entries so far and the node. Assumes nothing.
use Rattle.std.specs.Prelude.{List, [], ◌∷◌, ◌++◌}

module _ {ℓ κ} {A : Type ℓ} {B : Type κ} where
  -- the entries `done`, and after them one for each of the nodes
  unfoldable pub table : (List A → B → A) → List A → List B → List A
  table step done [] = done
  table step done (node ∷ nodes) = table step (done ++ (step done node ∷ [])) nodes
