-- What rules say of integers beyond sums and products: the lesser and the greater of two, a range, and the two parts
-- of one.
-- Definitions, to be believed.
use Rattle.std.specs.Prelude.{ℕ, suc, Bool, ◌&&◌, ℤ, pos, negsuc, ◌≤ℤ◌}
use Rattle.std.specs.Int.Signed.{le_z}
use Rattle.ground.specs.Choice.{when◌then◌else◌}

unfoldable pub lesser : ℤ → ℤ → ℤ
lesser a b = when le_z a b then a else b

unfoldable pub greater : ℤ → ℤ → ℤ
greater a b = when le_z a b then b else a

-- from the least to the most, both among them: as a fact, and as a test
pub record Within (least most z : ℤ) : Type 0 where
  pub low : least ≤ℤ z
  pub high : z ≤ℤ most

abbrev pub within : ℤ → ℤ → ℤ → Bool
within least most z = le_z least z && le_z z most

-- an integer is its positive part less its negative part, and one of the two is 0
abbrev pub pz : ℤ → ℕ
pz (pos n) = n
pz (negsuc n) = 0

abbrev pub nz : ℤ → ℕ
nz (pos n) = 0
nz (negsuc n) = suc n
