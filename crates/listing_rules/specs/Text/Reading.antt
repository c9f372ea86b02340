-- A reader of the column `by`, for the claim that its text reads back.
-- RULES: listing
-- Definitions, to be believed.
use Rattle.std.specs.Prelude.{ℕ, ◌-◌, List, [], ◌∷◌, leb}
use Rattle.ground.specs.Choice.{when◌then◌else◌}

-- each digit is an id, and a byte below 48, which is a space, a comma or a dash, only separates
unfoldable pub ids_read : List ℕ → List ℕ
ids_read [] = []
ids_read (b ∷ rest) = when leb 48 b then (b - 48) ∷ ids_read rest else ids_read rest
