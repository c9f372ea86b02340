-- What rules say of lists of integers: their sum, and the greatest of them.
-- Definitions, to be believed.
use Rattle.std.specs.Prelude.{List, [], ◌∷◌, ℤ, pos, ◌+ℤ◌}
use Rattle.ground.specs.Integers.{greater}

unfoldable pub total : List ℤ → ℤ
total [] = pos 0
total (x ∷ xs) = x +ℤ total xs

-- the greatest of a number and a list's elements, so that an empty list has one too
unfoldable pub greatest : ℤ → List ℤ → ℤ
greatest m [] = m
greatest m (x ∷ xs) = greatest (greater m x) xs
